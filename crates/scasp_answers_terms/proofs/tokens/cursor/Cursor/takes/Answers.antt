use Rattle.std.proofs.Common.{◌∙◌, ap, refl}
use Rattle.scasp_answers_terms.specs.Tokens.View.{first_token}
use Rattle.scasp_answers_terms.proofs.TokensLemmas.SignLemmas.{takes-other}
use Rattle.scasp_answers_terms.proofs.tokens.cursor.Cursor.takes.Goals as goal

pub returns-in_default-2 : goal.returns-in_default-2
returns-in_default-2 c =
    (λ e. takes-other c.args.byte c.self.inside.rest.now c.in-len1-up.len_at_least c.if-first-byte.false (ap first_token c.self.view_is ∙ e), refl)
