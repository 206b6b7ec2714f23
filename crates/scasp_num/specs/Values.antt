-- What a row means where each variable stands for a rational number.
use Rattle.std.specs.Prelude.{ℕ, Bool, ◌==◌, if◌then◌else◌, ℤ, pos, ◌+ℤ◌, ◌*ℤ◌, List, [], ◌∷◌}
use Rattle.scasp_num.specs.declared.linear.Coeff.{Coeff}
use Rattle.scasp_num.specs.Number.{Number, IsFraction}
use Rattle.scasp_list.specs.Each.{Each}
use Rattle.scasp_num.specs.Linear.{Linear, Compares, compares}

-- the sum of the coefficients times the values, as a fraction: the numerator, and the denominator
abbrev pub row_sum : (ℕ → Number) → List Coeff → ℤ × ℤ
row_sum v [] = (pos 0, pos 1)
row_sum v (k ∷ ks) =
    let rest = row_sum v ks in
    let q = v k.x in
    (k.c *ℤ q.num *ℤ rest.1 +ℤ rest.0 *ℤ q.den, q.den *ℤ rest.1)

-- the row's sum under the values and its constant, times a denominator above 0
abbrev pub numerator_under : (ℕ → Number) → Linear → ℤ
numerator_under v r =
    let sum = row_sum v r.coeffs in
    sum.0 +ℤ r.constant *ℤ sum.1

-- the row is true under the values
abbrev pub Holds : (ℕ → Number) → Linear → Type 0
Holds v r = Compares r.op (numerator_under v r)

-- whether the row is true under the values
abbrev pub holds : (ℕ → Number) → Linear → Bool
holds v r = compares r.op (numerator_under v r)

-- the values with q for x
abbrev pub with_value : (ℕ → Number) → ℕ → Number → ℕ → Number
with_value v x q y = if y == x then q else v y

-- the value of each variable of the terms is m x / d
abbrev pub HaveDenominator : (ℕ → Number) → (ℕ → ℤ) → ℤ → List Coeff → Type 0
HaveDenominator v m d = Each (λ k. IsFraction (v k.x) (m k.x) d)
