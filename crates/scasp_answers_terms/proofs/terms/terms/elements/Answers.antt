use Rattle.std.proofs.Common.{◌≡◌, ◌∙◌, ap, sym, subst, codes, true, false, Some}
use Rattle.scasp_reader_terms.specs.Names.{place_in}
use Rattle.scasp_answers_terms.specs.Tokens.View.{Reads}
use Rattle.scasp_answers_terms.specs.Tokens.Terms.{elements_at, listed_until}
use Rattle.scasp_answers_terms.proofs.TermsLemmas.BeginLemmas.{elements-some}
use Rattle.scasp_answers_terms.proofs.terms.terms.elements.Goals as goal

pub returns-then-takes : goal.returns-then-takes
returns-then-takes c =
    let next = rw c.if-takes.true at c.takes.ensures in
    ap (elements_at (place_in c.args.names.now)) next ∙ ap (λ ts. Some (ts, c.takes.new.self)) (sym c.new.ensures)

pub returns : goal.returns
returns c =
    let place = place_in c.args.names.now in
    let next = rw c.if-takes.false at c.takes.ensures in
    let same = elements-some place c.args.cursor.now next.0 ∙ ap (listed_until (codes "]") place) (sym next.1) in
    subst (λ read. Reads (λ ts. ts) read c.listed_until.result c.listed_until.new.cursor) (sym same) c.listed_until.ensures
