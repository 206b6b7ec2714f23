use Rattle.std.proofs.Common.{◌≡◌, ◌++◌, true, drop}
use Rattle.scasp_cert.specs.Text.Hints.{step_lists_text}
use Rattle.scasp_print.proofs.hints.put_step_lists.Given as goal

abbrev pub invariant-loop-steps : goal.invariant-loop-steps
invariant-loop-steps l =
    l.out.items ++ step_lists_text l.is_first (drop l.steps-index l.steps-items) ≡ l.fn.out.items ++ step_lists_text true l.lists
