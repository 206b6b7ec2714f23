use Rattle.std.proofs.Common.{◌≡◌, ◌≤◌, length}
use Rattle.scasp_answers_terms.specs.Tokens.Readers.{past_text}
use Rattle.scasp_answers_terms.proofs.tokens.cursor.Cursor.past.Given as goal

abbrev pub invariant-loop-left : goal.invariant-loop-left
invariant-loop-left l = record {
  same : past_text l.left l.self ≡ past_text l.fn.text l.fn.self;
  no_longer : length l.self ≤ length l.fn.self;
}

abbrev pub decreases-loop-left : goal.decreases-loop-left
decreases-loop-left l = length l.left
