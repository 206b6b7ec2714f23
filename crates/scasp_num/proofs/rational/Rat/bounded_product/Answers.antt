use Rattle.std.proofs.Common.{◌≡◌, ◌*ℤ◌, pos, int_div, unsigned_abs, Some, ◌∙◌}
use Rattle.scasp_num.specs.Gcd.{gcd}
use Rattle.scasp_num.specs.Arithmetic.{within}
use Rattle.scasp_num.proofs.Numbers.{stored, within-some, product-IsReduced, product_of-some, number-plain, IsReduced-plain}
use Rattle.scasp_num.proofs.rational.Rat.bounded_product.Goals as goal

pub from_parts-requires-clause-reduced : goal.from_parts-requires-clause-reduced
from_parts-requires-clause-reduced c =
    let p = c.args.self.now in
    let q = c.args.o.now in
    let g : c.gcd-g.result ≡ gcd (unsigned_abs p.num) (unsigned_abs q.den) = c.gcd-g.ensures.value ∙ (λ i. gcd (c.size.ensures i) (c.parts.ensures.value i)) in
    let h : c.gcd-h.result ≡ gcd (unsigned_abs q.num) (unsigned_abs p.den) = c.gcd-h.ensures.value ∙ (λ i. gcd (c.size-2.ensures i) (c.parts-2.ensures.value i)) in
    let num : Some c.in_ok-num.num ≡ within (int_div p.num (pos c.gcd-g.result) *ℤ int_div q.num (pos c.gcd-h.result)) =
    c.in_ok-num.ensures.value ∙ (λ i. within ((stored c.num_over.result c.num_over.ensures.range ∙ c.num_over.ensures.value) i *ℤ (stored c.num_over-2.result c.num_over-2.ensures.range ∙ c.num_over-2.ensures.value) i)) in
    let den : Some c.in_ok-den.den ≡ within (int_div p.den (pos c.gcd-h.result) *ℤ int_div q.den (pos c.gcd-g.result)) =
    c.in_ok-den.ensures.value ∙ (λ i. within ((stored c.den_over.result c.den_over.ensures.range ∙ c.den_over.ensures.value) i *ℤ (stored c.den_over-2.result c.den_over-2.ensures.range ∙ c.den_over-2.ensures.value) i)) in
    IsReduced-plain c.in_ok-num.num c.in_ok-den.den c.in_ok-num.ensures.range c.in_ok-den.ensures.range (product-IsReduced p q c.in_ok-num.num c.in_ok-den.den
    ((within-some c.in_ok-num.num (int_div p.num (pos c.gcd-g.result) *ℤ int_div q.num (pos c.gcd-h.result)) num).0 ∙ (λ i. int_div p.num (pos (g i)) *ℤ int_div q.num (pos (h i))))
    ((within-some c.in_ok-den.den (int_div p.den (pos c.gcd-h.result) *ℤ int_div q.den (pos c.gcd-g.result)) den).0 ∙ (λ i. int_div p.den (pos (h i)) *ℤ int_div q.den (pos (g i)))))

pub returns : goal.returns
returns c =
    let p = c.args.self.now in
    let q = c.args.o.now in
    let g : c.gcd-g.result ≡ gcd (unsigned_abs p.num) (unsigned_abs q.den) = c.gcd-g.ensures.value ∙ (λ i. gcd (c.size.ensures i) (c.parts.ensures.value i)) in
    let h : c.gcd-h.result ≡ gcd (unsigned_abs q.num) (unsigned_abs p.den) = c.gcd-h.ensures.value ∙ (λ i. gcd (c.size-2.ensures i) (c.parts-2.ensures.value i)) in
    let num : Some c.in_ok-num.num ≡ within (int_div p.num (pos c.gcd-g.result) *ℤ int_div q.num (pos c.gcd-h.result)) =
    c.in_ok-num.ensures.value ∙ (λ i. within ((stored c.num_over.result c.num_over.ensures.range ∙ c.num_over.ensures.value) i *ℤ (stored c.num_over-2.result c.num_over-2.ensures.range ∙ c.num_over-2.ensures.value) i)) in
    let den : Some c.in_ok-den.den ≡ within (int_div p.den (pos c.gcd-h.result) *ℤ int_div q.den (pos c.gcd-g.result)) =
    c.in_ok-den.ensures.value ∙ (λ i. within ((stored c.den_over.result c.den_over.ensures.range ∙ c.den_over.ensures.value) i *ℤ (stored c.den_over-2.result c.den_over-2.ensures.range ∙ c.den_over-2.ensures.value) i)) in
    c.from_parts.ensures ∙ number-plain c.in_ok-num.num c.in_ok-den.den c.in_ok-num.ensures.range c.in_ok-den.ensures.range ∙ product_of-some p q c.gcd-g.result c.gcd-h.result c.in_ok-num.num c.in_ok-den.den g h num den
