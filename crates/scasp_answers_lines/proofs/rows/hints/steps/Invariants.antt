use Rattle.std.proofs.Common.{◌≤◌, length}
use Rattle.scasp_answers_terms.specs.Tokens.Tokens.{comma}
use Rattle.scasp_answers_terms.specs.Tokens.Hints.{step_at, steps_at}
use Rattle.scasp_answers_lines.specs.Rows.Inside.{Remains}
use Rattle.scasp_answers_lines.proofs.rows.hints.steps.Given as goal

abbrev pub invariant-loop-steps : goal.invariant-loop-steps
invariant-loop-steps l = record {
  remains : Remains comma step_at l.steps (steps_at l.fn.cursor) l.cursor;
  no_longer : length l.cursor ≤ length l.fn.cursor;
}

abbrev pub decreases-loop-steps : goal.decreases-loop-steps
decreases-loop-steps l = length l.cursor
