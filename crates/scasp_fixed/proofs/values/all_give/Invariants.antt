use Rattle.std.proofs.Common.{◌≡◌, drop}
use Rattle.std.specs.List.{list_all}
use Rattle.scasp_fixed.specs.Fixed.{gives}
use Rattle.scasp_fixed.proofs.values.all_give.Given as goal

abbrev pub invariant-loop-list : goal.invariant-loop-list
invariant-loop-list l = list_all (λ cs. gives cs l.x l.value) (drop l.list-index l.lists) ≡ list_all (λ cs. gives cs l.x l.value) l.lists
