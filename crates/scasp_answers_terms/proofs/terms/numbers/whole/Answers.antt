use Rattle.std.proofs.Common.{pos, sym, ◌∙◌}
use Rattle.std.specs.Option.{option_map}
use Rattle.scasp_num.specs.Arithmetic.{number}
use Rattle.scasp_syntax.specs.Tm.{num}
use Rattle.scasp_answers_terms.proofs.TermsLemmas.BoundLemmas.{bounded-stored, whole-fits}
use Rattle.scasp_answers_terms.proofs.terms.numbers.whole.Goals as goal

pub returns : goal.returns
returns c =
    let n = bounded-stored c.args.negative c.args.size c.bounded_integer.result c.bounded_integer.ensures c.if-size-ge-LIMIT.false in
    c.number_term.ensures ∙ (λ i. option_map num (number (n i) (pos 1))) ∙ sym (whole-fits c.args.negative c.args.size c.if-size-ge-LIMIT.false)
