use Rattle.std.proofs.Common.{◌≡◌, drop}
use Rattle.std.specs.List.{list_all}
use Rattle.scasp_unify.specs.Solving.{sub_of}
use Rattle.scasp_store.specs.Inside.Asking.{is_readable}
use Rattle.scasp_store.proofs.asking.are_readable.Given as goal

abbrev pub invariant-loop-constraint : goal.invariant-loop-constraint
invariant-loop-constraint l = list_all (is_readable (sub_of l.bound.now)) (drop l.constraint-index l.list) ≡ list_all (is_readable (sub_of l.bound.now)) l.list
