use Rattle.std.proofs.Common.{◌≡◌, ◌++◌, true, drop}
use Rattle.scasp_cert.specs.Text.Hints.{steps_text}
use Rattle.scasp_print.proofs.hints.put_steps.Given as goal

abbrev pub invariant-loop-step : goal.invariant-loop-step
invariant-loop-step l =
    l.out.items ++ steps_text l.is_first (drop l.step-index l.step-items) ≡ l.fn.out.items ++ steps_text true l.steps
