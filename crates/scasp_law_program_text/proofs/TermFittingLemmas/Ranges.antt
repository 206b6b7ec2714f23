-- Numbers that are read lie within M.
use Rattle.std.proofs.Common.{◌≡◌, ℕ, ◌/◌, ◌^◌, true, nat_lt, List, ◌++◌, length, ℤ, pos, neg_ℤ, ◌*ℤ◌, unsigned_abs, int_div, Option, None, Some, refl, sym, ap, ◌∙◌}
use Rattle.std.proofs.lemmas.Bool.{and_parts, and_from}
use Rattle.scasp_num.specs.Gcd.{gcd}
use Rattle.scasp_num.specs.Number.{Number, InRange}
use Rattle.scasp_num.specs.Arithmetic.{◌>>=◌, in_range, within, number, signs_differ, signed, lowest, product_of, quotient_of, negation_of, unsigned_abs-neg}
use Rattle.scasp_num.proofs.Numbers.{number-parts, within-some, lt_ltb}
use Rattle.scasp_num.proofs.Exact.{bind-some}
use Rattle.scasp_reader_tokens.specs.Numbers.{digits_value, literal_value}
use Rattle.scasp_law_program_text.specs.CompoundReadback.Fitting.{number_fits}
use Rattle.scasp_law_program_text.specs.TermFitting.Readers.{IsSmall}

small-number : (q : Number) (num den : ℤ) → Some q ≡ number num den → InRange num → InRange den → number_fits q ≡ true
small-number q num den e n d =
    let p = number-parts q num den e in
    and_from (in_range q.num) (in_range q.den) (ap in_range p.0 ∙ lt_ltb n) (ap in_range p.1 ∙ lt_ltb d)

-- what is made of two integers within M
small-of : (a b : ℤ) (q : Number) → Some q ≡ (within a >>= (λ num. within b >>= (λ den. number num den))) → number_fits q ≡ true
small-of a b q e =
    let x = bind-some (within a) (λ num. within b >>= (λ den. number num den)) q e in
    let y = bind-some (within b) (λ den. number x.0 den) q x.2 in
    small-number q x.0 y.0 y.2 (within-some x.0 a x.1).1 (within-some y.0 b y.1).1

lowest-small : (n d : ℤ) (q : Number) → Some q ≡ lowest n d → number_fits q ≡ true
unfolding lowest
lowest-small n d q e =
    let g = gcd (unsigned_abs n) (unsigned_abs d) in
    small-of (signed (signs_differ n d) (unsigned_abs n / g)) (pos (unsigned_abs d / g)) q e

product-small : (p r q : Number) → Some q ≡ product_of p r → number_fits q ≡ true
unfolding product_of
product-small p r q e =
    let g = pos (gcd (unsigned_abs p.num) (unsigned_abs r.den)) in
    let h = pos (gcd (unsigned_abs r.num) (unsigned_abs p.den)) in
    small-of (int_div p.num g *ℤ int_div r.num h) (int_div p.den h *ℤ int_div r.den g) q e

-- a quotient that there is
pub quotient-small : (p r : Number) → IsSmall (quotient_of p r)
unfolding quotient_of
quotient-small p r = by (quotient_of p r) refl
  where
    by : (o : Option Number) → (lowest r.den r.num >>= product_of p) ≡ o → IsSmall o
    by None e = tt
    by (Some q) e = let x = bind-some (lowest r.den r.num) (product_of p) q (sym e) in product-small p x.0 q x.2

pub negation-small : (q : Number) → number_fits q ≡ true → number_fits (negation_of q) ≡ true
negation-small q h =
    let p = and_parts (in_range q.num) (in_range q.den) h in
    and_from (in_range (neg_ℤ q.num)) (in_range q.den) (ap (λ n. nat_lt n (2 ^ 127)) (unsigned_abs-neg q.num) ∙ p.0) p.1

pub literal-small : (whole part : List ℕ) → IsSmall (literal_value whole part)
unfolding literal_value
literal-small whole part = by (pos (digits_value 0 (whole ++ part))) (pos (10 ^ length part)) (literal_value whole part) refl
  where
    by : (n d : ℤ) (o : Option Number) → (within n >>= (λ a. within d >>= (λ b. lowest a b))) ≡ o → IsSmall o
    by n d None e = tt
    by n d (Some q) e =
        let x = bind-some (within n) (λ a. within d >>= (λ b. lowest a b)) q (sym e) in
        let y = bind-some (within d) (λ b. lowest x.0 b) q x.2 in
        lowest-small x.0 y.0 q y.2
