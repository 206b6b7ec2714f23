use Rattle.std.proofs.Common.{◌≡◌, ◌++◌, drop}
use Rattle.scasp_unify.specs.Solving.{sub_of}
use Rattle.scasp_store.specs.Inside.Fixing.{left_by}
use Rattle.scasp_store.proofs.fixing.left_to.Given as goal

abbrev pub invariant-loop-constraint : goal.invariant-loop-constraint
invariant-loop-constraint l = l.made ++ left_by (sub_of l.fixed.now) (drop l.constraint-index l.list) ≡ left_by (sub_of l.fixed.now) l.list
