use Rattle.std.proofs.Common.{◌≡◌, ◌++◌, drop}
use Rattle.scasp_unify.specs.Solving.{sub_of}
use Rattle.scasp_store.specs.Inside.Asking.{read_by}
use Rattle.scasp_store.proofs.asking.read_all.Given as goal

abbrev pub invariant-loop-constraint : goal.invariant-loop-constraint
invariant-loop-constraint l = l.made ++ read_by (sub_of l.bound.now) (drop l.constraint-index l.list) ≡ read_by (sub_of l.bound.now) l.list
