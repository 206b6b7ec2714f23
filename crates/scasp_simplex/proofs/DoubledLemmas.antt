-- The double of a false constant row is one.
use Rattle.std.proofs.Common.{◌≡◌, ◌≢◌, ℕ, zero, suc, ◌≤◌, true, false, not, ℤ, pos, negsuc, Option, Some, None, List, [], ◌∷◌, ◌++◌, refl, sym, ap, ◌∙◌, arith}
use Rattle.std.specs.Prelude.{◌||◌, if◌then◌else◌}
use Rattle.std.proofs.lemmas.Bool.{and_parts}
use Rattle.scasp_list.specs.Each.{Each}
use Rattle.scasp_list.proofs.EachLemmas.{Each-at}
use Rattle.scasp_num.specs.declared.linear.Coeff.{Coeff}
use Rattle.scasp_num.specs.declared.linear.Op.{Op}
use Rattle.scasp_num.specs.declared.linear.Op.TheVariants as op
use Rattle.scasp_num.specs.declared.hints.Step.{Step}
use Rattle.scasp_num.specs.Arithmetic.{◌>>=◌, lowest, sum_of}
use Rattle.scasp_num.specs.Gcd.{gcd, gcd_within}
use Rattle.scasp_num.specs.Linear.{Linear, IsNormal, compares, normal_form}
use Rattle.scasp_num.specs.Sums.{normal_of}
use Rattle.scasp_rows.specs.Points.{NoDisequation, is_constant, is_false}
use Rattle.scasp_rows.specs.Steps.{StepInRange, row_sum, row_made, row_numbered, may_step}
use Rattle.scasp_simplex.specs.Inside.Certified.{IsFalseAt}
use Rattle.scasp_simplex.specs.Reached.{AddsFalse}

abbrev constant_row : ℤ → Op → Linear
constant_row z o = record { coeffs = []; constant = z; op = o }

-- a sum of two rows is a false row
abbrev SumIsFalse : Linear → Type 0
SumIsFalse r = (row : Linear) × (may_step (pos 1) r (pos 1) r ≡ true) × (row_sum (pos 1) r (pos 1) r ≡ Some row) × (is_false row ≡ true)

one-equal : SumIsFalse (constant_row (pos 1) op.Eq)
unfolding row_sum normal_of normal_form lowest sum_of gcd gcd_within
one-equal = (constant_row (pos 1) op.Eq, refl, refl, refl)

one-below : SumIsFalse (constant_row (pos 1) op.Lt)
unfolding row_sum normal_of normal_form lowest sum_of gcd gcd_within
one-below = (constant_row (pos 1) op.Lt, refl, refl, refl)

zero-below : SumIsFalse (constant_row (pos 0) op.Lt)
unfolding row_sum normal_of normal_form lowest sum_of gcd gcd_within
zero-below = (constant_row (pos 0) op.Lt, refl, refl, refl)

one-most : SumIsFalse (constant_row (pos 1) op.Le)
unfolding row_sum normal_of normal_form lowest sum_of gcd gcd_within
one-most = (constant_row (pos 1) op.Le, refl, refl, refl)

-- a false constant row in normal form is 1 = 0, 1 < 0, 0 < 0 or 1 =< 0
double-false : (z : ℤ) (o : Op) → IsNormal (constant_row z o) → o ≢ op.Ne → not (compares o z) ≡ true → SumIsFalse (constant_row z o)
unfolding gcd gcd_within
double-false z op.Ne n ne f = absurd (ne refl)
double-false (pos zero) op.Eq n ne f = cc
double-false (pos zero) op.Lt n ne f = zero-below
double-false (pos zero) op.Le n ne f = cc
double-false (pos (suc zero)) op.Eq n ne f = one-equal
double-false (pos (suc zero)) op.Lt n ne f = one-below
double-false (pos (suc zero)) op.Le n ne f = one-most
double-false (pos (suc (suc k))) o n ne f = absurd (let h : suc (suc k) ≤ 1 = n.primitive in omega arith)
double-false (negsuc k) op.Eq n ne f = absurd (let h : true ≡ false = n.sign in cc)
double-false (negsuc k) op.Lt n ne f = cc
double-false (negsuc k) op.Le n ne f = cc

false-double : (r : Linear) → IsNormal r → r.op ≢ op.Ne → is_false r ≡ true → SumIsFalse r
false-double r n ne f = by r.coeffs (and_parts (is_constant r) (not (compares r.op r.constant)) f) n
  where
    by : (ks : List Coeff) → (is_constant (record { coeffs = ks; constant = r.constant; op = r.op }) ≡ true) × (not (compares r.op r.constant) ≡ true) → IsNormal (record { coeffs = ks; constant = r.constant; op = r.op }) → SumIsFalse (record { coeffs = ks; constant = r.constant; op = r.op })
    by [] g n = double-false r.constant r.op n ne g.1
    by (k ∷ ks) g n = cc (g.0)

comparing-at : (rows : List Linear) (number : ℕ) (r : Linear) → NoDisequation rows → Some r ≡ row_numbered rows number → r.op ≢ op.Ne
comparing-at rows zero r h e = cc
comparing-at rows (suc i) r h e = Each-at (λ (q : Linear). q.op ≢ op.Ne) rows i r h e

abbrev pub double : ℕ → Step
double number = record { a = pos 1; p = number; b = pos 1; q = number }

made-double : (rows : List Linear) (number : ℕ) (r row : Linear) → Some r ≡ row_numbered rows number → may_step (pos 1) r (pos 1) r ≡ true → row_sum (pos 1) r (pos 1) r ≡ Some row → row_made rows (double number) ≡ Some row
made-double rows number r row e f g =
    let F : Option Linear → Option Linear = λ o. o >>= (λ p. o >>= (λ q. if may_step (pos 1) p (pos 1) q then row_sum (pos 1) p (pos 1) q else None)) in
    ap F (sym e) ∙ ap (λ b. if b then row_sum (pos 1) r (pos 1) r else None) f ∙ g

-- the double of a false given row is a false row that a step adds
pub double-added : (rows : List Linear) (number : ℕ) → NoDisequation rows → IsFalseAt rows number → AddsFalse rows (double number ∷ []) × Each StepInRange (double number ∷ [])
double-added rows number h at =
    let sum = false-double at.0 at.3 (comparing-at rows number at.0 h at.1) at.2 in
    let made = made-double rows number at.0 sum.0 at.1 sum.1 sum.2 in (
      (sum.0 ∷ [], ap (λ (o : Option Linear). o >>= (λ row. Some (rows ++ row ∷ []))) made, ap (λ b. b || false) sum.3),
      ((omega arith, omega arith), tt),
    )
