use Rattle.std.proofs.Common.{◌≡◌, ◌++◌, drop}
use Rattle.scasp_unify.specs.Solving.{sub_of}
use Rattle.scasp_store.specs.Inside.Asking.{told_by}
use Rattle.scasp_store.proofs.asking.told_by.Given as goal

abbrev pub invariant-loop-constraint : goal.invariant-loop-constraint
invariant-loop-constraint l = l.found ++ told_by (sub_of l.bound.now) (drop l.constraint-index l.list) ≡ told_by (sub_of l.bound.now) l.list
