use Rattle.std.proofs.Common.{◌≡◌, ◌∙◌, [], ◌∷◌, ◌++◌, ap, sym, to_z, of_z, arith}
use Rattle.std.specs.Int.{w128}
use Rattle.std.proofs.lemmas.Int.{to_z-of_z}
use Rattle.scasp_answers_terms.specs.Tokens.Readers.{made}
use Rattle.scasp_answers_terms.specs.Tokens.Rows.{with_summand, summand}
use Rattle.scasp_num.specs.Arithmetic.{signed}
use Rattle.scasp_num.specs.declared.linear.Coeff.{Coeff}
use Rattle.scasp_answers_lines.specs.Rows.Inside.{with_summands, goes}
use Rattle.scasp_answers_lines.proofs.RowsLemmas.SumLemmas.{made-summand}
use Rattle.scasp_answers_lines.proofs.rows.sums.summand.Goals as goal

pub returns-clause-goes : goal.returns-clause-goes
returns-clause-goes c =
    let before = c.args.coeffs.now.items in
    let k = summand c.args.number (signed c.args.negative c.args.size) in
    let read = goes c.sign.result c.sign.new.cursor in
    let stored : to_z w128 (of_z w128 c.bounded_integer-c.result) ≡ c.bounded_integer-c.result = grind (arith, to_z-of_z) in
    let same : ◌≡◌ {A = Coeff} (record { x = c.bounded_place-x.result; c = to_z w128 (of_z w128 c.bounded_integer-c.result) }) k = λ i. record { x = c.bounded_place-x.ensures i; c = (stored ∙ c.bounded_integer-c.ensures) i } in
    ap (λ m. made (with_summands before) (made (with_summand k) m)) c.sign.ensures.goes
    ∙ made-summand before k read
    ∙ sym (ap (λ (j : Coeff). made (with_summands (before ++ j ∷ [])) read) same)
    ∙ ap (λ ks. made (with_summands ks) read) (sym c.in_ok-push.ensures.items)
