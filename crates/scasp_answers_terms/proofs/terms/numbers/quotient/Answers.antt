use Rattle.std.proofs.Common.{false, sym, ◌∙◌}
use Rattle.std.specs.Option.{option_map}
use Rattle.scasp_num.specs.Arithmetic.{number}
use Rattle.scasp_syntax.specs.Tm.{num}
use Rattle.scasp_answers_terms.proofs.TermsLemmas.BoundLemmas.{bounded-stored, quotient-fits}
use Rattle.scasp_answers_terms.proofs.terms.numbers.quotient.Goals as goal

pub returns : goal.returns
returns c =
    let n = bounded-stored c.args.negative c.args.size c.bounded_integer.result c.bounded_integer.ensures c.if-size-ge-LIMIT.false in
    let d = bounded-stored false c.args.parts c.bounded_integer-2.result c.bounded_integer-2.ensures c.if-parts-ge-LIMIT.false in
    c.number_term.ensures
    ∙ (λ i. option_map num (number (n i) (d i)))
    ∙ sym (quotient-fits c.args.negative c.args.size c.args.parts c.if-parts-le1.false c.if-size-ge-LIMIT.false c.if-parts-ge-LIMIT.false)
