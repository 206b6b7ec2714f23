use Rattle.std.proofs.Common.{◌∙◌, ◌+◌, drop, ap, sym}
use Rattle.std.proofs.lemmas.List.{take_rest}
use Rattle.scasp_answers_terms.specs.Tokens.Tokens.{tokens_in}
use Rattle.scasp_answers_terms.specs.Tokens.Readers.{past, past_text}
use Rattle.scasp_answers_terms.specs.Tokens.View.{token_of, front_of}
use Rattle.scasp_answers_terms.proofs.TokensLemmas.TokenLemmas.{tokens-front}
use Rattle.scasp_answers_terms.proofs.TokensLemmas.PastLemmas.{past-more, past-none}
use Rattle.scasp_answers_terms.proofs.tokens.cursor.Cursor.past_token.Goals as goal

pub returns-then-taken-clause-some : goal.returns-then-taken-clause-some
unfolding past_text
returns-then-taken-clause-some c =
    let text = c.args.text.now in
    let f = c.front_at-front.result in
    let t = token_of f.token in
    let rest = tokens_in (drop (f.more + 1) text) in
    let next = rw c.if-taken.true at c.taken.ensures.passes in
    ap (λ ts. past ts c.args.self.now) (tokens-front text (front_of f) c.front_at-front.ensures.front)
    ∙ past-more t rest c.args.self.now c.taken.new.self next
    ∙ ap (λ r. past (tokens_in r) c.taken.new.self) (sym (take_rest text (f.more + 1)))

pub returns-else-taken-clause-none : goal.returns-else-taken-clause-none
unfolding past_text
returns-else-taken-clause-none c =
    let text = c.args.text.now in
    let f = c.front_at-front.result in
    let next = rw c.if-taken.false at c.taken.ensures.passes in
    ap (λ ts. past ts c.args.self.now) (tokens-front text (front_of f) c.front_at-front.ensures.front)
    ∙ past-none (token_of f.token) (tokens_in (drop (f.more + 1) text)) c.args.self.now next
