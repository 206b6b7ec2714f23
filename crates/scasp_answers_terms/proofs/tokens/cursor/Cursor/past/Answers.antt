use Rattle.std.proofs.Common.{◌∙◌, ap, sym}
use Rattle.scasp_answers_terms.specs.Tokens.Readers.{past, past_text}
use Rattle.scasp_answers_terms.proofs.TokensLemmas.TokenLemmas.{tokens-none}
use Rattle.scasp_answers_terms.proofs.tokens.cursor.Cursor.past.Goals as goal

pub returns-clause-passes : goal.returns-clause-passes
unfolding past_text
returns-clause-passes c = sym c.loop-left.invariant.same ∙ ap (λ ts. past ts c.loop-left.self) (tokens-none c.loop-left.left.now c.in_default.len_below)
