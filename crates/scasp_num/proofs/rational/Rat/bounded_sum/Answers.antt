use Rattle.std.proofs.Common.{◌≡◌, ◌+ℤ◌, ◌*ℤ◌, ◌<ℤ◌, ℤ, pos, int_div, unsigned_abs, Some, None, sym, subst, ◌∙◌}
use Rattle.scasp_num.specs.Gcd.{gcd}
use Rattle.scasp_num.specs.Arithmetic.{within}
use Rattle.scasp_num.proofs.Numbers.{stored, within-some, sum-den_pos, sum_of-none, ne_from-pos, none_from-err}
use Rattle.scasp_num.proofs.rational.Rat.bounded_sum.Goals as goal

pub returns-in_err-den : goal.returns-in_err-den
returns-in_err-den c =
    let p = c.args.self.now in
    let q = c.args.o.now in
    let g : c.gcd-g.result ≡ gcd (unsigned_abs p.den) (unsigned_abs q.den) = c.gcd-g.ensures.value ∙ (λ i. gcd (c.parts.ensures.value i) (c.parts-2.ensures.value i)) in
    let left : Some c.in_ok-left.left ≡ within (p.num *ℤ int_div q.den (pos c.gcd-g.result)) =
    c.in_ok-left.ensures.value ∙ (λ i. within ((stored c.num.result c.num.ensures.range ∙ c.num.ensures.value) i *ℤ (stored c.den_over.result c.den_over.ensures.range ∙ c.den_over.ensures.value) i)) in
    let right : Some c.in_ok-right.right ≡ within (q.num *ℤ int_div p.den (pos c.gcd-g.result)) =
    c.in_ok-right.ensures.value ∙ (λ i. within ((stored c.num-2.result c.num-2.ensures.range ∙ c.num-2.ensures.value) i *ℤ (stored c.den_over-2.result c.den_over-2.ensures.range ∙ c.den_over-2.ensures.value) i)) in
    let num : Some c.in_ok-num.num ≡ within (c.in_ok-left.left +ℤ c.in_ok-right.right) =
    c.in_ok-num.ensures.value ∙ (λ i. within (stored c.in_ok-left.left c.in_ok-left.ensures.range i +ℤ stored c.in_ok-right.right c.in_ok-right.ensures.range i)) in
    let den : None ≡ within (p.den *ℤ int_div q.den (pos c.gcd-g.result)) =
    c.in_err-den.ensures.value ∙ (λ i. within ((stored c.den.result c.den.ensures.range ∙ c.den.ensures.value) i *ℤ (stored c.den_over-3.result c.den_over-3.ensures.range ∙ c.den_over-3.ensures.value) i)) in
    (none_from-err _ c.from_residual-in_err-den.ensures.0 ∙ sum_of-none p q c.gcd-g.result c.in_ok-left.left c.in_ok-right.right c.in_ok-num.num g left right num den)

pub in_lowest_terms-requires : goal.in_lowest_terms-requires
in_lowest_terms-requires c =
    let p = c.args.self.now in
    let q = c.args.o.now in
    let g : c.gcd-g.result ≡ gcd (unsigned_abs p.den) (unsigned_abs q.den) = c.gcd-g.ensures.value ∙ (λ i. gcd (c.parts.ensures.value i) (c.parts-2.ensures.value i)) in
    let den : Some c.in_ok-den.den ≡ within (p.den *ℤ int_div q.den (pos c.gcd-g.result)) =
    c.in_ok-den.ensures.value ∙ (λ i. within ((stored c.den.result c.den.ensures.range ∙ c.den.ensures.value) i *ℤ (stored c.den_over-3.result c.den_over-3.ensures.range ∙ c.den_over-3.ensures.value) i)) in
    let same : c.in_ok-den.den ≡ p.den *ℤ int_div q.den (pos (gcd (unsigned_abs p.den) (unsigned_abs q.den))) =
    (within-some c.in_ok-den.den (p.den *ℤ int_div q.den (pos c.gcd-g.result)) den).0 ∙ (λ i. p.den *ℤ int_div q.den (pos (g i))) in
    ne_from-pos _ (subst (λ (x : ℤ). pos 0 <ℤ x) (sym (stored c.in_ok-den.den c.in_ok-den.ensures.range ∙ same)) (sum-den_pos p q))
