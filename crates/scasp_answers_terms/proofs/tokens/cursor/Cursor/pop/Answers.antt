use Rattle.std.proofs.Common.{◌+◌, ◌∙◌, drop, sym, ap}
use Rattle.std.proofs.lemmas.List.{take_rest}
use Rattle.scasp_answers_terms.specs.Tokens.Tokens.{tokens_in}
use Rattle.scasp_answers_terms.specs.Tokens.View.{front_of, first_token}
use Rattle.scasp_answers_terms.proofs.TokensLemmas.TokenLemmas.{tokens-none, tokens-first, tokens-behind}
use Rattle.scasp_answers_terms.proofs.tokens.cursor.Cursor.pop.Goals as goal

pub returns-in-empty-clause-token : goal.returns-in-empty-clause-token
returns-in-empty-clause-token c = sym (ap first_token (sym c.self.view_is ∙ tokens-none c.self.inside.rest.now c.in-empty.len_below))

pub returns-in-empty-clause-rest : goal.returns-in-empty-clause-rest
returns-in-empty-clause-rest c =
    let none = sym c.self.view_is ∙ tokens-none c.self.inside.rest.now c.in-empty.len_below in
    none ∙ sym (ap (drop 1) none)

pub returns-in-len1-up-clause-token : goal.returns-in-len1-up-clause-token
returns-in-len1-up-clause-token c =
    sym (ap first_token (sym c.self.view_is) ∙ tokens-first c.self.inside.rest.now (front_of c.front_at-front.result) c.front_at-front.ensures.front)

pub returns-in-len1-up-clause-rest : goal.returns-in-len1-up-clause-rest
returns-in-len1-up-clause-rest c =
    let bytes = c.self.inside.rest.now in
    let f = c.front_at-front.result in
    ap tokens_in (take_rest bytes (f.more + 1)) ∙ sym (tokens-behind bytes (front_of f) c.front_at-front.ensures.front) ∙ ap (drop 1) c.self.view_is
