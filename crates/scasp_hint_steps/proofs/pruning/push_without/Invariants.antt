use Rattle.std.proofs.Common.{◌≡◌, ◌++◌, drop, map}
use Rattle.scasp_hint_steps.specs.Pruned.{step_without}
use Rattle.scasp_hint_steps.proofs.pruning.push_without.Given as goal

abbrev pub invariant-loop-step : goal.invariant-loop-step
invariant-loop-step l = l.made ++ map (step_without l.gone) (drop l.step-index l.steps) ≡ l.fn.made ++ map (step_without l.gone) l.steps
