use Rattle.std.proofs.Common.{◌∙◌, ap, sym, subst, Some}
use Rattle.scasp_answers_terms.specs.Tokens.View.{token_of}
use Rattle.scasp_answers_terms.specs.Tokens.Terms.{ends}
use Rattle.scasp_answers_terms.specs.Terms.Levels.{opens_of, before_of, Goes}
use Rattle.scasp_answers_terms.proofs.TermsLemmas.BeginLemmas.{negative-digits, negative-fraction}
use Rattle.scasp_answers_terms.proofs.terms.levels.Levels.negative.Goals as goal

pub returns-in-Fraction-clause-goes : goal.returns-in-Fraction-clause-goes
returns-in-Fraction-clause-goes c = λ place.
    let levels = c.args.self.now in
    let ts = c.pop.new.self in
    let first = ap (λ t. Some (token_of t)) (sym c.in-Fraction.is) ∙ c.in-Some.ensures.token in
    let same = negative-fraction place (opens_of levels) (before_of levels) c.in-Fraction.size c.in-Fraction.parts c.args.cursor.now ts (sym first) c.pop.ensures.rest in
    let number = ap (λ t. ends place (opens_of levels) (before_of levels) t ts) (sym c.quotient.ensures) in
    subst (λ read. Goes place read c.ended.result levels ts) (sym (same ∙ number)) (c.ended.ensures.goes place levels ts)

pub returns-clause-goes : goal.returns-clause-goes
returns-clause-goes c = λ place.
    let levels = c.args.self.now in
    let ts = c.pop.new.self in
    let first = ap (λ t. Some (token_of t)) (sym c.in-Digits.is) ∙ c.in-Some.ensures.token in
    let same = negative-digits place (opens_of levels) (before_of levels) c.in-Digits.size c.args.cursor.now ts (sym first) c.if-size-eq0.false c.pop.ensures.rest in
    let number = ap (λ t. ends place (opens_of levels) (before_of levels) t ts) (sym c.whole.ensures) in
    subst (λ read. Goes place read c.ended-2.result levels ts) (sym (same ∙ number)) (c.ended-2.ensures.goes place levels ts)
