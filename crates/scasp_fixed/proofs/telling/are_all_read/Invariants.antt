use Rattle.std.proofs.Common.{◌≡◌, drop}
use Rattle.std.specs.List.{list_all}
use Rattle.scasp_fixed.specs.Fixed.{are_read}
use Rattle.scasp_unify.specs.Solving.{sub_of}
use Rattle.scasp_fixed.proofs.telling.are_all_read.Given as goal

abbrev pub invariant-loop-list : goal.invariant-loop-list
invariant-loop-list l = list_all (are_read (sub_of l.values)) (drop l.list-index l.lists) ≡ list_all (are_read (sub_of l.values)) l.lists
