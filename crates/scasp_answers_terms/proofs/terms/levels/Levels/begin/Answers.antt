use Rattle.std.proofs.Common.{◌∙◌, ap, sym, subst, Some}
use Rattle.scasp_reader_terms.specs.Names.{place_in}
use Rattle.scasp_answers_terms.specs.Tokens.View.{token_of}
use Rattle.scasp_answers_terms.specs.Terms.Levels.{opens_of, before_of, named, Goes}
use Rattle.scasp_answers_terms.proofs.TermsLemmas.BeginLemmas.{begin-quoted}
use Rattle.scasp_answers_terms.proofs.terms.levels.Levels.begin.Goals as goal

pub returns-in_ok-name-in-Quoted-clause-goes : goal.returns-in_ok-name-in-Quoted-clause-goes
returns-in_ok-name-in-Quoted-clause-goes c =
    let levels = c.args.self.now in
    let place = place_in c.args.names.now in
    let first = ap (λ t. Some (token_of t)) (sym c.in-Quoted.is) ∙ c.in-Some.ensures.token in
    let same = begin-quoted place (opens_of levels) (before_of levels) _ c.args.cursor.now c.pop.new.self (sym first) c.pop.ensures.rest in
    let at = ap (λ f. named place (opens_of levels) (before_of levels) f c.pop.new.self) (sym c.in_ok-name-in-Quoted.ensures) in
    subst (λ read. Goes place read c.named.result c.named.new.self c.named.new.cursor) (sym (same ∙ at)) (c.named.ensures.goes place)
