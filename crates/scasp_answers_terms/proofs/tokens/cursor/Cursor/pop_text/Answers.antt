use Rattle.std.proofs.Common.{◌∙◌, sym, ap}
use Rattle.scasp_answers_terms.specs.Tokens.View.{texts_of}
use Rattle.scasp_answers_terms.proofs.TokensLemmas.TokenLemmas.{tokens-none}
use Rattle.scasp_answers_terms.proofs.tokens.cursor.Cursor.pop_text.Goals as goal

pub returns-clause-none : goal.returns-clause-none
returns-clause-none c = sym c.loop-left.invariant ∙ ap texts_of (tokens-none c.loop-left.left.now c.in_default.len_below)
