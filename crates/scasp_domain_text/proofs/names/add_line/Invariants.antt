use Rattle.std.proofs.Common.{◌≡◌, length}
use Rattle.scasp_answers_terms.specs.Tokens.Tokens.{tokens_in}
use Rattle.scasp_answers_terms.specs.Tokens.View.{texts_of}
use Rattle.scasp_answers.specs.Files.Texts.{with_tokens}
use Rattle.scasp_domain_text.proofs.names.add_line.Given as goal

abbrev pub invariant-loop-text : goal.invariant-loop-text
invariant-loop-text l = with_tokens l.names (texts_of l.cursor) ≡ with_tokens l.fn.names (texts_of (tokens_in l.fn.line))

abbrev pub decreases-loop-text : goal.decreases-loop-text
decreases-loop-text l = length (texts_of l.cursor)
