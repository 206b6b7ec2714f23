use Rattle.std.proofs.Common.{◌∙◌, ap, sym, subst}
use Rattle.scasp_reader_terms.specs.Names.{place_in}
use Rattle.scasp_answers_terms.specs.Terms.Levels.{opens_of, before_of, named, Goes}
use Rattle.scasp_answers_terms.proofs.TermsLemmas.BeginLemmas.{name-of, no-name, word-named, word-none}
use Rattle.scasp_answers_terms.proofs.terms.levels.Levels.begin_word.Goals as goal

pub returns-then-is_not-clause-goes : goal.returns-then-is_not-clause-goes
returns-then-is_not-clause-goes c =
    word-none (place_in c.args.names.now) (opens_of c.args.self.now) (before_of c.args.self.now) c.args.text.now c.args.cursor.now (no-name c.args.text.now (sym c.eq-is_not.ensures ∙ c.if-is_not.true))

pub returns-clause-goes : goal.returns-clause-goes
returns-clause-goes c =
    let place = place_in c.args.names.now in
    let o = opens_of c.args.self.now in
    let b = before_of c.args.self.now in
    let same = word-named place o b c.args.text.now c.args.cursor.now (name-of c.args.text.now (sym c.eq-is_not.ensures ∙ c.if-is_not.false)) in
    let at = ap (λ f. named place o b f c.args.cursor.now) (sym c.place.ensures) in
    subst (λ read. Goes place read c.named.result c.named.new.self c.named.new.cursor) (sym (same ∙ at)) (c.named.ensures.goes place)
