-- The rows with a variable are enough for its value.
use Rattle.std.proofs.Common.{◌≡◌, ℕ, Bool, true, false, ◌&&◌, not, pos, Option, Some, None, Result, Ok, Err, List, [], ◌∷◌, ◌++◌, refl, sym, ap, ◌∙◌}
use Rattle.std.specs.Prelude.{if◌then◌else◌}
use Rattle.scasp_num.specs.declared.linear.RatPair.{RatPair}
use Rattle.scasp_num.specs.Arithmetic.{◌>>=◌}
use Rattle.scasp_num.specs.Linear.{is_equation, is_zero}
use Rattle.scasp_num.specs.Number.{Number}
use Rattle.scasp_num.proofs.NormalForms.{zero_is}
use Rattle.scasp_rows.specs.declared.backward.Aside.{Aside}
use Rattle.scasp_rows.specs.declared.state.Halt.{Halt}
use Rattle.scasp_rows.specs.declared.state.Halt.TheVariants as halt
use Rattle.scasp_rows.specs.declared.state.Sign.{Sign}
use Rattle.scasp_rows.specs.declared.state.Sign.TheVariants as sign
use Rattle.scasp_rows.specs.declared.state.Standing.{Standing}
use Rattle.scasp_rows.specs.declared.state.State.{State}
use Rattle.scasp_rows.specs.Elimination.{Ends, and_then, factor, first_equation, has_sign, solves, without}
use Rattle.scasp_rows.specs.Samples.{between, bound, bound_with, by_solution, solution_of, tighter, value_for, values_from, with_value_for}
use Rattle.scasp_rows.specs.Inside.Asides.{asides_from, rows_having, valued}

and-not : (b c : Bool) → c ≡ true → (b && not c) ≡ false
and-not true c e = ap not e
and-not false c e = refl

first_equation-having : (x : ℕ) (rows : List Standing) → first_equation x (rows_having x rows) ≡ first_equation x rows
first_equation-having x [] = refl
first_equation-having x (r ∷ rs) = by (is_zero (factor x r)) refl (first_equation-having x rs)
  where
    by : (b : Bool) → is_zero (factor x r) ≡ b → first_equation x (rows_having x rs) ≡ first_equation x rs → first_equation x (if not b then r ∷ rows_having x rs else rows_having x rs) ≡ (if solves x r then Some r else first_equation x rs)
    by true e i = i ∙ ap (λ t. if t then Some r else first_equation x rs) (sym (and-not (is_equation r.row.op) (is_zero (factor x r)) e))
    by false e i = ap (λ o. if solves x r then Some r else o) i

-- a sign that 0 does not have
abbrev Bounds : Sign → Type 0
Bounds t = has_sign t (pos 0) ≡ false

bound-having : (t : Sign) (x : ℕ) (point : List RatPair) (rows : List Standing) (best : Option Number) → Bounds t → bound t x point (rows_having x rows) best ≡ bound t x point rows best
bound-having t x point [] best h = refl
bound-having t x point (r ∷ rs) best h = by (is_zero (factor x r)) refl (λ next. bound-having t x point rs next h)
  where
    by : (b : Bool) → is_zero (factor x r) ≡ b → ((next : Option Number) → bound t x point (rows_having x rs) next ≡ bound t x point rs next) → bound t x point (if not b then r ∷ rows_having x rs else rows_having x rs) best ≡ (bound_with t x point r best >>= (λ next. bound t x point rs next))
    by true e i =
        let none : has_sign t (factor x r) ≡ false = ap (has_sign t) (zero_is (factor x r) e) ∙ h in
        i best ∙ ap (λ b. (if b then (solution_of x point r.row >>= (λ q. Some (Some (tighter t best q)))) else Some best) >>= (λ next. bound t x point rs next)) (sym none)
    by false e i = λ k. bound_with t x point r best >>= (λ next. i next k)

value_for-having : (x : ℕ) (rows : List Standing) (point : List RatPair) → value_for x (rows_having x rows) point ≡ value_for x rows point
value_for-having x rows point = (λ i. by_solution x point (rows_having x rows) (first_equation-having x rows i)) ∙ by (first_equation x rows)
  where
    by : (o : Option Standing) → by_solution x point (rows_having x rows) o ≡ by_solution x point rows o
    by (Some p) = refl
    by None = λ i. bound-having sign.Below x point rows None refl i >>= (λ lo. bound-having sign.Above x point rows None refl i >>= (λ hi. between lo hi))

pub values_from-valued : (xs : List ℕ) (s : State) → values_from xs s ≡ and_then (asides_from xs s) (λ all. valued all [])
values_from-valued [] s = refl
values_from-valued (x ∷ xs) s = by (without x s) (λ t. values_from-valued xs t)
  where
    aside : Aside
    aside = record { x = x; rows = rows_having x s.standing }

    by : (o : Result State Halt) → ((t : State) → values_from xs t ≡ and_then (asides_from xs t) (λ all. valued all [])) → and_then o (λ t. and_then (values_from xs t) (λ point. with_value_for x point (value_for x s.standing point))) ≡ and_then (and_then o (λ t. and_then (asides_from xs t) (λ later. Ok (aside ∷ later)))) (λ all. valued all [])
    by (Err h) rest = refl
    by (Ok t) rest = ap (λ (r : Result (List RatPair) Halt). and_then r (λ point. with_value_for x point (value_for x s.standing point))) (rest t) ∙ after (asides_from xs t)
      where
        after : (o : Result (List Aside) Halt) → and_then (and_then o (λ all. valued all [])) (λ point. with_value_for x point (value_for x s.standing point)) ≡ and_then (and_then o (λ later. Ok (aside ∷ later))) (λ all. valued all [])
        after (Err h) = refl
        after (Ok later) = λ i. and_then (valued later []) (λ point. with_value_for x point (sym (value_for-having x s.standing point) i))

-- the last one takes its value first
pub valued-last : (all : List Aside) (a : Aside) (point : List RatPair) → valued (all ++ a ∷ []) point ≡ and_then (with_value_for a.x point (value_for a.x a.rows point)) (valued all)
valued-last [] a point = by (with_value_for a.x point (value_for a.x a.rows point))
  where
    by : (o : Result (List RatPair) Halt) → o ≡ and_then o (λ known. Ok known)
    by (Ok known) = refl
    by (Err h) = refl
valued-last (b ∷ all) a point = ap (λ (r : Result (List RatPair) Halt). and_then r (λ known. with_value_for b.x known (value_for b.x b.rows known))) (valued-last all a point) ∙ by (with_value_for a.x point (value_for a.x a.rows point))
  where
    by : (o : Result (List RatPair) Halt) → and_then (and_then o (valued all)) (λ known. with_value_for b.x known (value_for b.x b.rows known)) ≡ and_then o (λ known. valued (b ∷ all) known)
    by (Ok known) = refl
    by (Err h) = refl

-- the end of a first part is that of the whole
pub ends-first : {A B : Type 0} (o : Result A Halt) (f : A → Result B Halt) (h : Halt) → Ends {A = A} (Err h) o → Ends {A = B} (Err h) (and_then o f)
ends-first (Ok s) f halt.Memory e = tt
ends-first (Ok s) f halt.Overflow e = cc
ends-first (Ok s) f (halt.Unsat steps) e = cc
ends-first (Err k) f halt.Memory e = tt
ends-first (Err k) f halt.Overflow e = cc
ends-first (Err k) f (halt.Unsat steps) e = cc
