-- Bounded arithmetic on numbers. Each operation forms stated integers, and has no result where one of them lies outside -M..M, where M is 2^127 - 1.
use Rattle.std.specs.Prelude.{◌≡◌, ℕ, ◌^◌, ◌/◌, Bool, true, false, ◌&&◌, ◌==◌, nat_lt, if◌then◌else◌, ℤ, pos, negsuc, ◌+ℤ◌, ◌*ℤ◌, neg_ℤ, ◌<ℤ◌, unsigned_abs, int_lt, int_div, Option, Some, None, option_and_then, List, [], ◌∷◌}
use Rattle.std.proofs.Common.{arith, zero, suc, refl, ap, ◌∙◌}
use Rattle.std.proofs.lemmas.Bool.{and_parts, eqb-true}
use Rattle.std.proofs.lemmas.Int.{ints}
use Rattle.scasp_num.specs.Gcd.{gcd}
use Rattle.scasp_num.specs.Number.{Number, IsReduced}

infixl 10 ◌>>=◌
abbrev pub ◌>>=◌ : {A B : Type 0} → Option A → (A → Option B) → Option B
o >>= f = option_and_then f o

-- the integer, where it lies from -M to M
abbrev pub in_range : ℤ → Bool
in_range z = nat_lt (unsigned_abs z) (2 ^ 127)

abbrev pub within : ℤ → Option ℤ
within z = if in_range z then Some z else None

-- num/den as a number, where that is in lowest terms
abbrev pub is_reduced : ℤ → ℤ → Bool
is_reduced num den = int_lt (pos 0) den && (gcd (unsigned_abs num) (unsigned_abs den) == 1)

pub IsReduced-from_test : (num den : ℤ) → is_reduced num den ≡ true → IsReduced num den
IsReduced-from_test num den e =
    let parts = and_parts (int_lt (pos 0) den) (gcd (unsigned_abs num) (unsigned_abs den) == 1) e in
    let above : pos 0 <ℤ den = omega (arith, ints, parts.0) in
    record { positive = above; lowest = eqb-true _ _ parts.1 }

abbrev pub number_if : (num den : ℤ) (test : Bool) → is_reduced num den ≡ test → Option Number
number_if num den true e = Some (record { num = num; den = den; reduced = IsReduced-from_test num den e })
number_if num den false e = None

abbrev pub number : ℤ → ℤ → Option Number
number num den = number_if num den (is_reduced num den) (λ i. is_reduced num den)

-- one of the two is below 0, and the other is not
abbrev pub signs_differ : ℤ → ℤ → Bool
signs_differ (pos a) (pos b) = false
signs_differ (pos a) (negsuc b) = true
signs_differ (negsuc a) (pos b) = true
signs_differ (negsuc a) (negsuc b) = false

-- the integer of a sign and a size
abbrev pub signed : Bool → ℕ → ℤ
signed true size = neg_ℤ (pos size)
signed false size = pos size

-- n/d in lowest terms, where d is not 0
unfoldable pub lowest : ℤ → ℤ → Option Number
lowest n d = do
  let g = gcd (unsigned_abs n) (unsigned_abs d)
  num ← within (signed (signs_differ n d) (unsigned_abs n / g))
  den ← within (pos (unsigned_abs d / g))
  number num den

-- the sum, over the least common denominator
unfoldable pub sum_of : Number → Number → Option Number
sum_of p q = do
  let g = pos (gcd (unsigned_abs p.den) (unsigned_abs q.den))
  left ← within (p.num *ℤ int_div q.den g)
  right ← within (q.num *ℤ int_div p.den g)
  num ← within (left +ℤ right)
  den ← within (p.den *ℤ int_div q.den g)
  lowest num den

-- the product, with each numerator reduced by the other denominator first
unfoldable pub product_of : Number → Number → Option Number
product_of p q = do
  let g = pos (gcd (unsigned_abs p.num) (unsigned_abs q.den))
  let h = pos (gcd (unsigned_abs q.num) (unsigned_abs p.den))
  num ← within (int_div p.num g *ℤ int_div q.num h)
  den ← within (int_div p.den h *ℤ int_div q.den g)
  number num den

-- the product with the second number turned over, where that is not 0
unfoldable pub quotient_of : Number → Number → Option Number
quotient_of p q = do
  turned ← lowest q.den q.num
  product_of p turned

pub unsigned_abs-neg : (z : ℤ) → unsigned_abs (neg_ℤ z) ≡ unsigned_abs z
unsigned_abs-neg (pos zero) = refl
unsigned_abs-neg (pos (suc n)) = refl
unsigned_abs-neg (negsuc n) = refl

pub IsReduced-neg : (q : Number) → IsReduced (neg_ℤ q.num) q.den
IsReduced-neg q = record {
  positive = q.reduced.positive;
  lowest = ap (λ x. gcd x (unsigned_abs q.den)) (unsigned_abs-neg q.num) ∙ q.reduced.lowest;
}

abbrev pub negation_of : Number → Number
negation_of q = record { num = neg_ℤ q.num; den = q.den; reduced = IsReduced-neg q }

unfoldable pub difference_of : Number → Number → Option Number
difference_of p q = sum_of p (negation_of q)

-- ---- the integers that each operation forms: it has a result where all of them lie in range

abbrev pub lowest_integers : ℤ → ℤ → List ℤ
lowest_integers n d =
    let g = pos (gcd (unsigned_abs n) (unsigned_abs d)) in
    int_div n g ∷ int_div d g ∷ []

abbrev pub sum_integers : Number → Number → List ℤ
sum_integers p q =
    let g = pos (gcd (unsigned_abs p.den) (unsigned_abs q.den)) in
    let left = p.num *ℤ int_div q.den g in
    let right = q.num *ℤ int_div p.den g in
    left ∷ right ∷ (left +ℤ right) ∷ (p.den *ℤ int_div q.den g) ∷ []

abbrev pub product_integers : Number → Number → List ℤ
product_integers p q =
    let g = pos (gcd (unsigned_abs p.num) (unsigned_abs q.den)) in
    let h = pos (gcd (unsigned_abs q.num) (unsigned_abs p.den)) in
    (int_div p.num g *ℤ int_div q.num h) ∷ (int_div p.den h *ℤ int_div q.den g) ∷ []

-- of the product with q turned over, its sign aside
abbrev pub quotient_integers : Number → Number → List ℤ
quotient_integers p q =
    let g = pos (gcd (unsigned_abs p.num) (unsigned_abs q.num)) in
    let h = pos (gcd (unsigned_abs q.den) (unsigned_abs p.den)) in
    (int_div p.num g *ℤ int_div q.den h) ∷ (int_div p.den h *ℤ int_div q.num g) ∷ []
