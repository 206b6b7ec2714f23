use Rattle.std.proofs.Common.{◌≡◌, ◌++◌, drop}
use Rattle.scasp_hint_steps.proofs.pruning.push_all.Given as goal

abbrev pub invariant-loop-step : goal.invariant-loop-step
invariant-loop-step l = l.made ++ drop l.step-index l.steps ≡ l.fn.made ++ l.steps
