use Rattle.std.proofs.Common.{◌≡◌, ◌+◌, drop}
use Rattle.scasp_hint_steps.specs.Pruned.{pruned}
use Rattle.scasp_hint_steps.proofs.pruning.pruned.Given as goal

abbrev pub invariant-loop-place : goal.invariant-loop-place
invariant-loop-place l = l.later ≡ pruned (l.first + l.place) (drop l.place l.steps)
