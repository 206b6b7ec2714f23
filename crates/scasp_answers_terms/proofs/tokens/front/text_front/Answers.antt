use Rattle.std.proofs.Common.{◌∙◌, ◌∷◌, ◌+◌, sym, ap}
use Rattle.std.proofs.lemmas.List.{take_rest}
use Rattle.scasp_answers_terms.specs.Tokens.Tokens.{tokens_in}
use Rattle.scasp_answers_terms.specs.Tokens.View.{front_of, token_of, texts_of}
use Rattle.scasp_answers_terms.proofs.TokensLemmas.TextLemmas.{texts-found, texts-past, texts-none}
use Rattle.scasp_answers_terms.proofs.tokens.front.text_front.Goals as goal

pub returns-then-is_text-clause-some : goal.returns-then-is_text-clause-some
returns-then-is_text-clause-some c =
    let bytes = c.args.bytes.now in
    let f = c.front_at-front.result in
    texts-found bytes (front_of f) c.front_at-front.ensures.front (sym c.is_text.ensures ∙ c.if-is_text.true)
    ∙ ap (λ bs. token_of f.token ∷ texts_of (tokens_in bs)) (sym (take_rest bytes (f.more + 1)))

pub returns-else-is_text-clause-none : goal.returns-else-is_text-clause-none
returns-else-is_text-clause-none c =
    let bytes = c.args.bytes.now in
    let f = c.front_at-front.result in
    texts-past bytes (front_of f) c.front_at-front.ensures.front (sym c.is_text.ensures ∙ c.if-is_text.false)
    ∙ ap (λ bs. texts_of (tokens_in bs)) (sym (take_rest bytes (f.more + 1)))

pub returns-then-not-begins_text-clause-none : goal.returns-then-not-begins_text-clause-none
returns-then-not-begins_text-clause-none c =
    texts-none c.args.first c.args.rest.now c.args.bytes.now c.requires (sym c.begins_text.ensures ∙ c.if-not-begins_text.true)
