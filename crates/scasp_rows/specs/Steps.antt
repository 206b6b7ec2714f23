-- The sum of two rows with multipliers, and lists of such steps.
use Rattle.std.specs.Prelude.{◌≡◌, ℕ, zero, suc, Bool, true, false, ◌&&◌, not, if◌then◌else◌, ℤ, pos, ◌+ℤ◌, ◌*ℤ◌, int_lt, List, [], ◌∷◌, ◌++◌, slice_get, is_some, Option, Some, None, Result, Ok, Err, IsOk, ⊤}
use Rattle.std.specs.List.{list_any}
use Rattle.scasp_num.specs.declared.linear.Coeff.{Coeff}
use Rattle.scasp_num.specs.declared.linear.RatPair.{RatPair}
use Rattle.scasp_num.specs.declared.linear.Op.{Op}
use Rattle.scasp_num.specs.declared.linear.Op.TheVariants as op
use Rattle.scasp_num.specs.declared.linear.RowErr.{RowErr}
use Rattle.scasp_num.specs.declared.linear.RowErr.TheVariants as row_err
use Rattle.scasp_num.specs.declared.hints.Step.{Step}
use Rattle.scasp_num.specs.Number.{Number, InRange}
use Rattle.scasp_num.specs.Arithmetic.{◌>>=◌, within, lowest, sum_of}
use Rattle.scasp_num.specs.Linear.{Linear, is_zero, coefficient}
use Rattle.scasp_num.specs.Sums.{normal_of}
use Rattle.scasp_rows.specs.declared.steps.StepErr.{StepErr}
use Rattle.scasp_rows.specs.declared.steps.StepErr.TheVariants as err
use Rattle.scasp_rows.specs.Points.{is_false}

-- the whole number z, where it lies from -M to M
abbrev pub whole : ℤ → Option Number
whole z = lowest z (pos 1)

-- the terms times a, where all products lie in range
abbrev pub times : ℤ → List Coeff → Option (List RatPair)
times a [] = Some []
times a (k ∷ ks) = whole (a *ℤ k.c) >>= (λ product. times a ks >>= (λ rest. Some (record { x = k.x; value = product } ∷ rest)))

-- the sum of two rows compares so: strictly where one of them does, and as an equation where both are
abbrev pub joined : Op → Op → Op
joined op.Eq op.Eq = op.Eq
joined op.Eq op.Lt = op.Lt
joined op.Eq op.Le = op.Le
joined op.Eq op.Ne = op.Ne
joined op.Lt o = op.Lt
joined op.Le op.Lt = op.Lt
joined op.Le op.Eq = op.Le
joined op.Le op.Le = op.Le
joined op.Le op.Ne = op.Ne
joined op.Ne o = op.Ne

-- the terms and the constant of a*p + b*q, where all products and the sum lie in range
abbrev pub terms_sum : ℤ → Linear → ℤ → Linear → Option (List RatPair)
terms_sum a p b q = do
  left ← times a p.coeffs
  right ← times b q.coeffs
  Some (left ++ right)

abbrev pub constant_sum : ℤ → Linear → ℤ → Linear → Option Number
constant_sum a p b q = do
  left ← whole (a *ℤ p.constant)
  right ← whole (b *ℤ q.constant)
  sum_of left right

-- the normal form of a*p + b*q, where all its products and sums lie in range
unfoldable pub row_sum : ℤ → Linear → ℤ → Linear → Option Linear
row_sum a p b q = do
  terms ← terms_sum a p b q
  constant ← constant_sum a p b q
  normal_of terms constant (joined p.op q.op)

-- ---- the integers that a sum of two rows forms: it is made exactly where all of them lie in range

abbrev pub products : ℤ → List Coeff → List ℤ
products a [] = []
products a (k ∷ ks) = (a *ℤ k.c) ∷ products a ks

-- the sum of the two products of each variable of the second list
abbrev pub sums_with : ℤ → List Coeff → ℤ → List Coeff → List ℤ
sums_with a ks b [] = []
sums_with a ks b (j ∷ js) = (a *ℤ coefficient j.x ks +ℤ b *ℤ j.c) ∷ sums_with a ks b js

abbrev pub step_integers : ℤ → Linear → ℤ → Linear → List ℤ
step_integers a p b q =
    let left = a *ℤ p.constant in
    let right = b *ℤ q.constant in
    products a p.coeffs ++ products b q.coeffs ++ sums_with a p.coeffs b q.coeffs ++ left ∷ right ∷ (left +ℤ right) ∷ []

-- a*c + b*d, where the products and the sum lie in range
unfoldable pub pair_sum : ℤ → ℤ → ℤ → ℤ → Option ℤ
pair_sum a c b d = do
  left ← within (a *ℤ c)
  right ← within (b *ℤ d)
  within (left +ℤ right)

-- they do for each variable of the second list
abbrev pub pairs_fit : ℤ → List Coeff → ℤ → List Coeff → Bool
pairs_fit a ks b [] = true
pairs_fit a ks b (j ∷ js) = is_some (pair_sum a (coefficient j.x ks) b j.c) && pairs_fit a ks b js

-- ---- steps

-- a row may be multiplied so: an equation by any number but 0, an inequality by those above 0
abbrev pub may_scale : ℤ → Op → Bool
may_scale a op.Eq = not (is_zero a)
may_scale a op.Lt = int_lt (pos 0) a
may_scale a op.Le = int_lt (pos 0) a
may_scale a op.Ne = false

abbrev pub may_step : ℤ → Linear → ℤ → Linear → Bool
may_step a p b q = may_scale a p.op && may_scale b q.op

abbrev pub sum_or_overflow : Option Linear → Result Linear StepErr
sum_or_overflow (Some row) = Ok row
sum_or_overflow None = Err err.Overflow

-- what a step gives: the sum, or why there is none
abbrev pub step_of : ℤ → Linear → ℤ → Linear → Result Linear StepErr
step_of a p b q = if may_step a p b q then sum_or_overflow (row_sum a p b q) else Err err.Sign

-- the call answers so; memory is wanting only where there is a row to make
abbrev pub Answers : Result Linear StepErr → Result Linear StepErr → Type 0
Answers (Ok row) s = s ≡ Ok row
Answers (Err err.Overflow) s = s ≡ Err err.Overflow
Answers (Err err.Sign) s = s ≡ Err err.Sign
Answers (Err err.Memory) s = IsOk s

-- the pairs with those of a list behind them, where the list is made
abbrev pub AddsTimes : List RatPair → List RatPair → Result Unit RowErr → Option (List RatPair) → Type 0
AddsTimes before after (Ok done) o = o >>= (λ more. Some (before ++ more)) ≡ Some after
AddsTimes before after (Err row_err.Overflow) o = None ≡ o
AddsTimes before after (Err row_err.Memory) o = ⊤

-- ---- lists of steps

-- the multipliers lie from -M to M
abbrev pub StepInRange : Step → Type 0
StepInRange s = InRange s.a × InRange s.b

-- the row with this number, counted from 1
abbrev pub row_numbered : List Linear → ℕ → Option Linear
row_numbered rows zero = None
row_numbered rows (suc i) = slice_get rows i

-- the row that a step makes of numbered rows
abbrev pub row_made : List Linear → Step → Option Linear
row_made rows s = do
  p ← row_numbered rows s.p
  q ← row_numbered rows s.q
  if may_step s.a p s.b q then row_sum s.a p s.b q else None

-- the rows with those that the steps add, one behind the other; none where a step makes no row
abbrev pub with_steps : List Linear → List Step → Option (List Linear)
with_steps rows [] = Some rows
with_steps rows (s ∷ ss) = row_made rows s >>= (λ row. with_steps (rows ++ row ∷ []) ss)

-- the steps reach a false constant row
abbrev pub ReachesFalse : List Linear → List Step → Type 0
ReachesFalse rows steps = (all : List Linear) × (with_steps rows steps ≡ Some all) × (list_any is_false all ≡ true)
