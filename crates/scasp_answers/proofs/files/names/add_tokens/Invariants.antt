use Rattle.std.proofs.Common.{◌≡◌, length}
use Rattle.scasp_answers_terms.specs.Tokens.View.{texts_of}
use Rattle.scasp_answers.specs.Files.Texts.{with_tokens}
use Rattle.scasp_answers.proofs.files.names.add_tokens.Given as goal

abbrev pub invariant-loop-text : goal.invariant-loop-text
invariant-loop-text l = with_tokens l.names (texts_of l.cursor) ≡ with_tokens l.fn.names (texts_of l.fn.cursor)

abbrev pub decreases-loop-text : goal.decreases-loop-text
decreases-loop-text l = length (texts_of l.cursor)
