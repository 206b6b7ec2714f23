use Rattle.std.proofs.Common.{◌≡◌, unsigned_abs, sym, ap, ◌∙◌}
use Rattle.std.specs.Option.{option_map}
use Rattle.scasp_num.specs.Arithmetic.{lowest}
use Rattle.scasp_num.specs.Gcd.{gcd}
use Rattle.scasp_num.proofs.Numbers.{stored}
use Rattle.scasp_syntax.specs.Tm.{num}
use Rattle.scasp_answers_terms.proofs.TermsLemmas.NumberLemmas.{lowest-number}
use Rattle.scasp_answers_terms.proofs.terms.numbers.number_term.Goals as goal

pub returns-in-Ok : goal.returns-in-Ok
returns-in-Ok c =
    let n = stored c.args.n c.requires.n_range in
    let d = stored c.args.d c.requires.d_range in
    let one : gcd (unsigned_abs c.args.n) (unsigned_abs c.args.d) ≡ 1 =
    sym (c.gcd.ensures.value ∙ (λ i. gcd (c.unsigned_abs.ensures.value i) (c.unsigned_abs-2.ensures.value i)) ∙ (λ i. gcd (unsigned_abs (n i)) (unsigned_abs (d i)))) ∙ c.if-gcd-ne1.false in
    ap (option_map num) (c.in-Ok.ensures.value ∙ (λ i. lowest (n i) (d i)) ∙ lowest-number c.args.n c.args.d c.requires.above c.requires.n_range c.requires.d_range one)
