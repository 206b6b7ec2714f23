use Rattle.std.proofs.Common.{◌∙◌, sym, ap}
use Rattle.scasp_answers_terms.specs.Tokens.View.{is_over}
use Rattle.scasp_answers_terms.proofs.TokensLemmas.TokenLemmas.{tokens-none, tokens-some}
use Rattle.scasp_answers_terms.proofs.tokens.cursor.Cursor.is_over.Goals as goal

pub returns-in-empty : goal.returns-in-empty
returns-in-empty c = sym (ap is_over (sym c.self.view_is ∙ tokens-none c.self.inside.rest.now c.in-empty.len_below))

pub returns-in-len1-up : goal.returns-in-len1-up
returns-in-len1-up c = sym (ap is_over (sym c.self.view_is) ∙ tokens-some c.self.inside.rest.now c.in-len1-up.len_at_least)
