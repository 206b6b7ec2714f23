-- Linear comparisons with whole coefficients, as plain values: what they mean, and their normal form.
use Rattle.std.specs.Prelude.{◌≡◌, ◌≢◌, ℕ, zero, suc, ◌<◌, ◌≤◌, Bool, true, false, ◌&&◌, not, ◌==◌, nat_lt, if◌then◌else◌, ℤ, pos, negsuc, ◌+ℤ◌, ◌*ℤ◌, neg_ℤ, ◌<ℤ◌, ◌≤ℤ◌, unsigned_abs, int_div, int_lt, max, List, [], ◌∷◌, ◌++◌, map, filter, Option, Some, None, Result, Ok, Err, IsFalse, ⊤}
use Rattle.std.specs.List.{list_all}
use Rattle.scasp_list.specs.Each.{Each}
use Rattle.scasp_num.specs.declared.linear.Coeff.{Coeff}
use Rattle.scasp_num.specs.declared.linear.Op.{Op}
use Rattle.scasp_num.specs.declared.linear.Op.TheVariants as op
use Rattle.scasp_num.specs.declared.linear.RowErr.{RowErr}
use Rattle.scasp_num.specs.declared.linear.RowErr.TheVariants as err
use Rattle.scasp_num.specs.Gcd.{gcd}
use Rattle.scasp_num.specs.Number.{Number, InRange}
use Rattle.scasp_num.specs.Arithmetic.{◌>>=◌, in_range, within}

-- c1*x1+..+ck*xk+constant OP 0
pub record Linear : Type 0 where
  pub coeffs : List Coeff
  pub constant : ℤ
  pub op : Op

-- the constant and the coefficients
abbrev pub integers : Linear → List ℤ
integers r = r.constant ∷ map (λ k. k.c) r.coeffs

-- each variable is above those before it
abbrev pub Ascends : List Coeff → Type 0
Ascends [] = ⊤
Ascends (k ∷ ks) = Each (λ j. k.x < j.x) ks × Ascends ks

-- the greatest common divisor of a list; 0 where all are 0
abbrev pub common_divisor : List ℤ → ℕ
common_divisor [] = 0
common_divisor (z ∷ zs) = gcd (unsigned_abs z) (common_divisor zs)

abbrev pub is_zero : ℤ → Bool
is_zero (pos zero) = true
is_zero (pos (suc n)) = false
is_zero (negsuc n) = false

-- the first coefficient that is not 0, or else the constant, is below 0
abbrev pub leads_below : List Coeff → ℤ → Bool
leads_below [] constant = int_lt constant (pos 0)
leads_below (k ∷ ks) constant = if is_zero k.c then leads_below ks constant else int_lt k.c (pos 0)

-- a sum compares in the same way as its negation
abbrev pub is_symmetric : Op → Bool
is_symmetric op.Eq = true
is_symmetric op.Lt = false
is_symmetric op.Le = false
is_symmetric op.Ne = true

-- the row is to be multiplied by -1
abbrev pub is_negated : Linear → Bool
is_negated r = is_symmetric r.op && leads_below r.coeffs r.constant

-- the one row among its multiples
pub record IsNormal (r : Linear) : Type 0 where
  pub ascending : Ascends r.coeffs
  pub nonzero : Each (λ k. k.c ≢ pos 0) r.coeffs
  pub constant_range : InRange r.constant
  pub range : Each (λ k. InRange k.c) r.coeffs
  pub primitive : common_divisor (integers r) ≤ 1
  pub sign : IsFalse (is_negated r)

-- whether each variable is above those before it
abbrev pub ascends : List Coeff → Bool
ascends [] = true
ascends (k ∷ ks) = list_all (λ j. nat_lt k.x j.x) ks && ascends ks

-- whether the row is in normal form
abbrev pub is_normal : Linear → Bool
is_normal r =
    ascends r.coeffs && list_all (λ k. not (is_zero k.c)) r.coeffs && in_range r.constant && list_all (λ k. in_range k.c) r.coeffs
    && nat_lt (common_divisor (integers r)) 2 && not (is_negated r)

-- ---- meaning: the variable x stands for the rational number m x / d, for one d above 0

-- the sum of the coefficients times their variables' values
abbrev pub weighted : (ℕ → ℤ) → List Coeff → ℤ
weighted m [] = pos 0
weighted m (k ∷ ks) = k.c *ℤ m k.x +ℤ weighted m ks

-- the integer compares so with 0
abbrev pub Compares : Op → ℤ → Type 0
Compares op.Eq z = z ≡ pos 0
Compares op.Lt z = z <ℤ pos 0
Compares op.Le z = z ≤ℤ pos 0
Compares op.Ne z = z ≢ pos 0

-- whether the integer compares so with 0
abbrev pub compares : Op → ℤ → Bool
compares op.Eq z = is_zero z
compares op.Lt z = int_lt z (pos 0)
compares op.Le z = not (int_lt (pos 0) z)
compares op.Ne z = not (is_zero z)

abbrev pub is_equation : Op → Bool
is_equation op.Eq = true
is_equation op.Lt = false
is_equation op.Le = false
is_equation op.Ne = false

-- the row is met by the values m x / d
abbrev pub Meets : (ℕ → ℤ) → ℤ → Linear → Type 0
Meets m d r = Compares r.op (weighted m r.coeffs +ℤ r.constant *ℤ d)

-- ---- the normal form of a row whose variables ascend

abbrev pub negated_if : Bool → ℤ → ℤ
negated_if true z = neg_ℤ z
negated_if false z = z

-- the terms that are left where each integer is divided by g, and negated where told
abbrev pub shares : Bool → ℕ → List Coeff → List Coeff
shares negate g [] = []
shares negate g (k ∷ ks) =
    if is_zero k.c then shares negate g ks else (record { x = k.x; c = negated_if negate (int_div k.c (pos g)) } ∷ shares negate g ks)

-- what all integers are divided by: their greatest common divisor, or 1 where all are 0
abbrev pub divisor : Linear → ℕ
divisor r = max (common_divisor (integers r)) 1

unfoldable pub normal_form : Linear → Linear
normal_form r =
    let g = divisor r in
    let negate = is_negated r in
    record {
      coeffs = shares negate g r.coeffs;
      constant = negated_if negate (int_div r.constant (pos g));
      op = r.op;
    }

-- ---- the negation of a row

abbrev pub opposite : Op → Op
opposite op.Eq = op.Ne
opposite op.Lt = op.Le
opposite op.Le = op.Lt
opposite op.Ne = op.Eq

abbrev pub negated : Bool → List Coeff → List Coeff
negated negate [] = []
negated negate (k ∷ ks) = record { x = k.x; c = negated_if negate k.c } ∷ negated negate ks

-- not e < 0 is -e =< 0, and not e =< 0 is -e < 0
abbrev pub negation : Linear → Linear
negation r =
    let negate = not (is_symmetric r.op) in
    record {
      coeffs = negated negate r.coeffs;
      constant = negated_if negate r.constant;
      op = opposite r.op;
    }

-- ---- a variable replaced by a number

-- the coefficient of x
abbrev pub coefficient : ℕ → List Coeff → ℤ
coefficient x [] = pos 0
coefficient x (k ∷ ks) = if k.x == x then k.c else coefficient x ks

-- the terms without x, times d, where all products lie in range
abbrev pub others_times : ℤ → ℕ → List Coeff → Option (List Coeff)
others_times d x [] = Some []
others_times d x (k ∷ ks) =
    if k.x == x then others_times d x ks else (within (d *ℤ k.c) >>= (λ c. others_times d x ks >>= (λ rest. Some (record { x = k.x; c = c } ∷ rest))))

-- the constant that is left, times d, with the variable's coefficient times n
abbrev pub put_constant : Linear → ℕ → Number → Option ℤ
put_constant r x q = do
  left ← within (q.den *ℤ r.constant)
  right ← within (coefficient x r.coeffs *ℤ q.num)
  within (left +ℤ right)

-- the row times the number's denominator, with x replaced by the number
unfoldable pub put_of : Linear → ℕ → Number → Option Linear
put_of r x q = do
  others ← others_times q.den x r.coeffs
  constant ← put_constant r x q
  Some (normal_form (record { coeffs = others; constant = constant; op = r.op }))

-- the integers that this forms: it has a result where all of them lie in range
abbrev pub put_integers : Linear → ℕ → Number → List ℤ
put_integers r x q =
    let left = q.den *ℤ r.constant in
    let right = coefficient x r.coeffs *ℤ q.num in
    map (λ k. q.den *ℤ k.c) (filter (λ k. not (k.x == x)) r.coeffs) ++ left ∷ right ∷ (left +ℤ right) ∷ []

-- the values m with z for x
abbrev pub replaced : (ℕ → ℤ) → ℕ → ℤ → ℕ → ℤ
replaced m x z y = if y == x then z else m y

-- what is made where there is memory
abbrev pub Gives : {A : Type 0} → Result A RowErr → Option A → Type 0
Gives (Ok row) o = Some row ≡ o
Gives (Err err.Overflow) o = None ≡ o
Gives (Err err.Memory) o = ⊤

-- ---- a variable replaced by another

-- c times y added to terms that ascend
abbrev pub merged : ℕ → ℤ → List Coeff → Option (List Coeff)
merged y c [] = Some (record { x = y; c = c } ∷ [])
merged y c (k ∷ ks) =
    if nat_lt k.x y
    then (merged y c ks >>= (λ rest. Some (k ∷ rest)))
    else (if k.x == y
    then (within (k.c +ℤ c) >>= (λ sum. Some (record { x = y; c = sum } ∷ ks)))
    else Some (record { x = y; c = c } ∷ k ∷ ks))

-- the row with x replaced by y: the two coefficients are added
unfoldable pub join_of : Linear → ℕ → ℕ → Option Linear
join_of r x y = do
  others ← others_times (pos 1) x r.coeffs
  coeffs ← merged y (coefficient x r.coeffs) others
  Some (normal_form (record { coeffs = coeffs; constant = r.constant; op = r.op }))
