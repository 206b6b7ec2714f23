use Rattle.std.specs.Prelude.{⊤}
use Rattle.scasp_store.proofs.leaving.left_before.Given as goal

abbrev pub invariant-loop-place : goal.invariant-loop-place
invariant-loop-place l = ⊤

abbrev pub decreases-loop-place : goal.decreases-loop-place
decreases-loop-place l = l.place
