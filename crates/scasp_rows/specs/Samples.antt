-- A point that meets rows and disequations.
use Rattle.std.specs.Prelude.{◌≡◌, ℕ, ◌==◌, Bool, true, if◌then◌else◌, ℤ, pos, negsuc, ◌*ℤ◌, neg_ℤ, int_lt, List, [], ◌∷◌, ◌++◌, length, Option, Some, None, Result, Ok, Err, ◌⊎◌}
use Rattle.std.proofs.Common.{refl}
use Rattle.scasp_num.specs.declared.linear.Coeff.{Coeff}
use Rattle.scasp_num.specs.declared.linear.RatPair.{RatPair}
use Rattle.scasp_num.specs.declared.linear.Op.TheVariants as op
use Rattle.scasp_num.specs.Gcd.{gcd, gcd_within}
use Rattle.scasp_num.specs.Number.{Number}
use Rattle.scasp_num.specs.Arithmetic.{◌>>=◌, is_reduced, IsReduced-from_test, sum_of, difference_of, product_of, quotient_of}
use Rattle.scasp_list.specs.Each.{Each}
use Rattle.scasp_num.specs.Linear.{Linear, coefficient}
use Rattle.scasp_num.specs.Values.{Holds}
use Rattle.scasp_num.specs.Sums.{normal_of}
use Rattle.scasp_rows.specs.declared.state.Halt.{Halt}
use Rattle.scasp_rows.specs.declared.state.Halt.TheVariants as halt
use Rattle.scasp_rows.specs.declared.state.Sign.{Sign}
use Rattle.scasp_rows.specs.declared.state.Sign.TheVariants as sign
use Rattle.scasp_rows.specs.declared.state.Standing.{Standing}
use Rattle.scasp_rows.specs.declared.state.State.{State}
use Rattle.scasp_rows.specs.Points.{RationalPoint, MeetsAll}
use Rattle.scasp_rows.specs.Steps.{whole, times}
use Rattle.scasp_rows.specs.Elimination.{and_then, factor, first_equation, has_sign, without, variables, all_looked, elimination}

-- ---- points as lists

pub zero-reduced : is_reduced (pos 0) (pos 1) ≡ true
unfolding gcd gcd_within
zero-reduced = refl

abbrev pub zero_number : Number
zero_number = record { num = pos 0; den = pos 1; reduced = IsReduced-from_test (pos 0) (pos 1) zero-reduced }

-- the value of a variable in the list; 0 where it has none
abbrev pub value_in : List RatPair → RationalPoint
value_in [] y = zero_number
value_in (p ∷ ps) y = if p.x == y then p.value else value_in ps y

-- the point meets some part of a disequation
abbrev pub MeetsSome : RationalPoint → List Linear → Type 0
MeetsSome v [] = ⊥
MeetsSome v (r ∷ rs) = Holds v r ⊎ MeetsSome v rs

-- each part is a disequation
abbrev pub OnlyDisequations : List Linear → Type 0
OnlyDisequations parts = Each (λ (r : Linear). r.op ≡ op.Ne) parts

-- the point meets all the rows, and of each disequation some part
abbrev pub MeetsBoth : RationalPoint → List Linear → List (List Linear) → Type 0
MeetsBoth v rows differ = MeetsAll v rows × Each (MeetsSome v) differ

-- ---- the value of a variable x, where those after it have theirs

abbrev pub plus_product : Number → ℤ → Number → Option Number
plus_product sum c value = whole c >>= (λ q. product_of q value >>= (λ product. sum_of sum product))

-- a sum, and a coefficient times its variable's value, but for x
abbrev pub plus_term : ℕ → List RatPair → Coeff → Number → Option Number
plus_term x point k sum = if k.x == x then Some sum else plus_product sum k.c (value_in point k.x)

-- a sum, and all those in order
abbrev pub sum_with : ℕ → List RatPair → List Coeff → Number → Option Number
sum_with x point [] sum = Some sum
sum_with x point (k ∷ ks) sum = plus_term x point k sum >>= (λ next. sum_with x point ks next)

-- the quotient by a whole number
abbrev pub over : Number → ℤ → Option Number
over p c = whole c >>= (λ divisor. quotient_of p divisor)

-- the value of x at which the row's sum is 0: the constant and the products, divided by the negated coefficient
unfoldable pub solution_of : ℕ → List RatPair → Linear → Option Number
solution_of x point r = do
  constant ← whole r.constant
  sum ← sum_with x point r.coeffs constant
  over sum (neg_ℤ (coefficient x r.coeffs))

abbrev pub is_less : Number → Number → Bool
is_less p q = int_lt (p.num *ℤ q.den) (q.num *ℤ p.den)

-- of two lower bounds the greater one, of two upper bounds the lesser one
abbrev pub tighter : Sign → Option Number → Number → Number
tighter t None q = q
tighter sign.Below (Some p) q = if is_less p q then q else p
tighter sign.Zero (Some p) q = p
tighter sign.Above (Some p) q = if is_less q p then q else p

-- the bound so far, and that of a row with the sign
abbrev pub bound_with : Sign → ℕ → List RatPair → Standing → Option Number → Option (Option Number)
bound_with t x point r best =
    if has_sign t (factor x r) then (solution_of x point r.row >>= (λ q. Some (Some (tighter t best q)))) else Some best

-- the greatest lower bound or the least upper bound of the rows, and of the one so far
abbrev pub bound : Sign → ℕ → List RatPair → List Standing → Option Number → Option (Option Number)
bound t x point [] best = Some best
bound t x point (r ∷ rs) best = bound_with t x point r best >>= (λ next. bound t x point rs next)

-- half of the sum
abbrev pub middle : Number → Number → Option Number
middle lo hi = sum_of lo hi >>= (λ sum. over sum (pos 2))

-- between the greatest lower bound lo and the least upper bound hi: lo where they are equal, (lo+hi)/2, lo+1, hi-1, or 0
abbrev pub between : Option Number → Option Number → Option Number
between None None = whole (pos 0)
between (Some lo) None = whole (pos 1) >>= (λ one. sum_of lo one)
between None (Some hi) = whole (pos 1) >>= (λ one. difference_of hi one)
between (Some lo) (Some hi) =
    if is_less lo hi then middle lo hi else Some lo

abbrev pub by_solution : ℕ → List RatPair → List Standing → Option Standing → Option Number
by_solution x point rows (Some p) = solution_of x point p.row
by_solution x point rows None = do
  lo ← bound sign.Below x point rows None
  hi ← bound sign.Above x point rows None
  between lo hi

-- by the first equation with x, or else by its bounds
abbrev pub value_for : ℕ → List Standing → List RatPair → Option Number
value_for x rows point = by_solution x point rows (first_equation x rows)

abbrev pub with_value_for : ℕ → List RatPair → Option Number → Result (List RatPair) Halt
with_value_for x point None = Err halt.Overflow
with_value_for x point (Some q) = Ok (record { x = x; value = q } ∷ point)

-- the variables are eliminated in order, and take their values in the opposite order
abbrev pub values_from : List ℕ → State → Result (List RatPair) Halt
values_from [] s = Ok []
values_from (x ∷ xs) s = and_then (without x s) (λ t. and_then (values_from xs t) (λ point. with_value_for x point (value_for x s.standing point)))

unfoldable pub point_of : List Linear → Result (List RatPair) Halt
point_of rows =
    and_then (all_looked 1 rows (record { standing = []; steps = []; last = length rows })) (values_from (variables [] rows))

-- ---- disequations

-- the sum of the row times a is below 0
unfoldable pub strict : ℤ → Linear → Option Linear
strict a r = do
  terms ← times a r.coeffs
  constant ← whole (a *ℤ r.constant)
  normal_of terms constant op.Lt

-- each part below 0, and then above 0
abbrev pub alternatives : List Linear → Option (List Linear)
alternatives [] = Some []
alternatives (r ∷ rs) = strict (pos 1) r >>= (λ below. strict (negsuc 0) r >>= (λ above. alternatives rs >>= (λ rest. Some (below ∷ above ∷ rest))))

-- the rows where they have a solution, else what comes of the others
abbrev pub unless_unsat : Result State Halt → List Linear → Result (Option (List Linear)) Halt → Result (Option (List Linear)) Halt
unless_unsat (Ok s) rows rest = Ok (Some rows)
unless_unsat (Err (halt.Unsat steps)) rows rest = rest
unless_unsat (Err halt.Overflow) rows rest = Err halt.Overflow
unless_unsat (Err halt.Memory) rows rest = Err halt.Memory

-- the rows with the first of the alternatives that has a solution with them
abbrev pub first_met : List Linear → List Linear → Result (Option (List Linear)) Halt
first_met rows [] = Ok None
first_met rows (a ∷ rest) = unless_unsat (elimination (rows ++ a ∷ [])) (rows ++ a ∷ []) (first_met rows rest)

abbrev pub first_of : List Linear → Option (List Linear) → Result (Option (List Linear)) Halt
first_of rows None = Err halt.Overflow
first_of rows (Some all) = first_met rows all

-- what f makes of the rows, where there are some
abbrev pub if_some : {A : Type 0} → Option (List Linear) → (List Linear → Result (Option A) Halt) → Result (Option A) Halt
if_some None f = Ok None
if_some (Some rows) f = f rows

-- the disequations are taken one by one
abbrev pub with_all : List Linear → List (List Linear) → Result (Option (List Linear)) Halt
with_all rows [] = Ok (Some rows)
with_all rows (d ∷ ds) = and_then (first_of rows (alternatives d)) (λ o. if_some o (λ more. with_all more ds))

abbrev pub found : Result (List RatPair) Halt → Result (Option (List RatPair)) Halt
found (Ok point) = Ok (Some point)
found (Err (halt.Unsat steps)) = Ok None
found (Err halt.Overflow) = Err halt.Overflow
found (Err halt.Memory) = Err halt.Memory

unfoldable pub sample_of : List Linear → List (List Linear) → Result (Option (List RatPair)) Halt
sample_of rows differ = and_then (with_all rows differ) (λ o. if_some o (λ more. found (point_of more)))
