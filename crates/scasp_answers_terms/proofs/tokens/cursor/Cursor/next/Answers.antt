use Rattle.std.proofs.Common.{◌∙◌, sym, ap}
use Rattle.scasp_answers_terms.specs.Tokens.View.{front_of, first_token}
use Rattle.scasp_answers_terms.proofs.TokensLemmas.TokenLemmas.{tokens-none, tokens-first}
use Rattle.scasp_answers_terms.proofs.tokens.cursor.Cursor.next.Goals as goal

pub returns-in-empty : goal.returns-in-empty
returns-in-empty c = sym (ap first_token (sym c.self.view_is ∙ tokens-none c.self.inside.rest.now c.in-empty.len_below))

pub returns-in-len1-up : goal.returns-in-len1-up
returns-in-len1-up c = sym (ap first_token (sym c.self.view_is) ∙ tokens-first c.self.inside.rest.now (front_of c.front_at.result) c.front_at.ensures.front)
