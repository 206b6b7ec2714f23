use Rattle.std.proofs.Common.{◌≡◌, drop}
use Rattle.std.specs.List.{list_all}
use Rattle.scasp_unify.specs.Solving.{sub_of}
use Rattle.scasp_store.specs.Inside.Asking.{is_counted}
use Rattle.scasp_store.proofs.asking.are_counted.Given as goal

abbrev pub invariant-loop-constraint : goal.invariant-loop-constraint
invariant-loop-constraint l = list_all (is_counted (sub_of l.bound.now) l.told) (drop l.constraint-index l.list) ≡ list_all (is_counted (sub_of l.bound.now) l.told) l.list
