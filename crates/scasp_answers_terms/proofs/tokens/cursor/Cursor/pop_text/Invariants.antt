use Rattle.std.proofs.Common.{◌≡◌, length}
use Rattle.scasp_answers_terms.specs.Tokens.Tokens.{tokens_in}
use Rattle.scasp_answers_terms.specs.Tokens.View.{texts_of}
use Rattle.scasp_answers_terms.proofs.tokens.cursor.Cursor.pop_text.Given as goal

abbrev pub invariant-loop-left : goal.invariant-loop-left
invariant-loop-left l = texts_of (tokens_in l.left) ≡ texts_of l.fn.self

abbrev pub decreases-loop-left : goal.decreases-loop-left
decreases-loop-left l = length l.left
