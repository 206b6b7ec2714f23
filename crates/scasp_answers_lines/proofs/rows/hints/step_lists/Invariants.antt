use Rattle.std.proofs.Common.{◌≤◌, length}
use Rattle.scasp_answers_terms.specs.Tokens.Tokens.{sign}
use Rattle.scasp_answers_terms.specs.Tokens.Hints.{steps_at, step_lists_at}
use Rattle.scasp_answers_lines.specs.Rows.Inside.{Remains}
use Rattle.scasp_answers_lines.proofs.rows.hints.step_lists.Given as goal

abbrev pub invariant-loop-lists : goal.invariant-loop-lists
invariant-loop-lists l = record {
  remains : Remains (sign 59) steps_at l.lists (step_lists_at l.fn.cursor) l.cursor;
  no_longer : length l.cursor ≤ length l.fn.cursor;
}

abbrev pub decreases-loop-lists : goal.decreases-loop-lists
decreases-loop-lists l = length l.cursor
