use Rattle.std.proofs.Common.{◌≡◌, length, []}
use Rattle.scasp_rows.specs.Elimination.{solved}
use Rattle.scasp_rows.specs.Inside.Replacing.{left, solved_from}
use Rattle.scasp_rows.proofs.replacing.solved.Given as goal

abbrev pub invariant-loop-progress : goal.invariant-loop-progress
invariant-loop-progress l = solved l.x l.p l.fn.rows.standing (record { standing = []; steps = l.fn.rows.steps; last = l.fn.rows.last }) ≡ solved_from l.x l.p l.progress

abbrev pub decreases-loop-progress : goal.decreases-loop-progress
decreases-loop-progress l = length (left l.progress)
