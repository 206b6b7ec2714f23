-- Rows from which steps reach a false constant row are met by no point.
use Rattle.std.proofs.Common.{◌≡◌, ℕ, zero, suc, Bool, true, false, not, Some, None, List, [], ◌∷◌, ◌++◌, refl, sym, subst, arith}
use Rattle.std.specs.Prelude.{if◌then◌else◌, ◌||◌}
use Rattle.std.specs.List.{list_any}
use Rattle.std.proofs.lemmas.Bool.{and_parts}
use Rattle.std.proofs.lemmas.Int.{ints}
use Rattle.scasp_num.specs.declared.linear.Coeff.{Coeff}
use Rattle.scasp_num.specs.declared.hints.Step.{Step}
use Rattle.scasp_num.specs.Arithmetic.{◌>>=◌}
use Rattle.scasp_list.proofs.EachLemmas.{Each-append, Each-at}
use Rattle.scasp_num.specs.Linear.{Linear, Compares, compares}
use Rattle.scasp_num.specs.Values.{Holds}
use Rattle.scasp_num.proofs.Comparing.{compares-true}
use Rattle.scasp_num.proofs.Exact.{bind-some}
use Rattle.scasp_rows.specs.Points.{RationalPoint, MeetsAll, is_constant, is_false}
use Rattle.scasp_rows.specs.Steps.{row_sum, may_step, row_numbered, row_made, with_steps, ReachesFalse}
use Rattle.scasp_rows.proofs.Sums.{step-holds}

numbered-holds : (v : RationalPoint) (rows : List Linear) (n : ℕ) (r : Linear) → MeetsAll v rows → Some r ≡ row_numbered rows n → Holds v r
numbered-holds v rows zero r e f = cc
numbered-holds v rows (suc i) r e f = Each-at (Holds v) rows i r e f

made-holds : (v : RationalPoint) (rows : List Linear) (s : Step) (row : Linear) → MeetsAll v rows → Some row ≡ row_made rows s → Holds v row
made-holds v rows s row e f =
    let p = bind-some (row_numbered rows s.p) (λ p. row_numbered rows s.q >>= (λ q. if may_step s.a p s.b q then row_sum s.a p s.b q else None)) row f in
    let q = bind-some (row_numbered rows s.q) (λ q. if may_step s.a p.0 s.b q then row_sum s.a p.0 s.b q else None) row p.2 in
    by p.0 q.0 (may_step s.a p.0 s.b q.0) refl q.2 (numbered-holds v rows s.p p.0 e p.1) (numbered-holds v rows s.q q.0 e q.1)
  where
    by : (p q : Linear) (t : Bool) → may_step s.a p s.b q ≡ t → Some row ≡ (if t then row_sum s.a p s.b q else None) → Holds v p → Holds v q → Holds v row
    by p q true t f g h = step-holds s.a p s.b q row t f v g h
    by p q false t f g h = cc

with_steps-holds : (v : RationalPoint) (rows : List Linear) (steps : List Step) (all : List Linear) → MeetsAll v rows → Some all ≡ with_steps rows steps → MeetsAll v all
with_steps-holds v rows [] all e f = subst (λ (rs : List Linear). MeetsAll v rs) (let same : rows ≡ all = cc in same) e
with_steps-holds v rows (s ∷ ss) all e f =
    let r = bind-some (row_made rows s) (λ row. with_steps (rows ++ row ∷ []) ss) all f in
    with_steps-holds v (rows ++ r.0 ∷ []) ss all (Each-append (Holds v) rows (r.0 ∷ []) e (made-holds v rows s r.0 e r.1, tt)) r.2

-- no point meets a false constant row
pub false-holds : (v : RationalPoint) (r : Linear) → is_false r ≡ true → Holds v r → ⊥
false-holds v r e h = by r.coeffs (and_parts (is_constant r) (not (compares r.op r.constant)) e).0 (and_parts (is_constant r) (not (compares r.op r.constant)) e).1 h
  where
    by : (ks : List Coeff) → is_constant (record { coeffs = ks; constant = r.constant; op = r.op }) ≡ true → not (compares r.op r.constant) ≡ true → Holds v (record { coeffs = ks; constant = r.constant; op = r.op }) → ⊥
    by [] e f h =
        let t : compares r.op r.constant ≡ true = compares-true r.op r.constant (subst (Compares r.op) (omega (arith, ints)) h) in
        let g : not true ≡ true = subst (λ b. not b ≡ true) t f in
        cc
    by (k ∷ ks) e f h = cc

pub any_false-holds : (v : RationalPoint) (rows : List Linear) → list_any is_false rows ≡ true → MeetsAll v rows → ⊥
any_false-holds v [] e h = cc
any_false-holds v (r ∷ rs) e h = by (is_false r) refl e (λ f. any_false-holds v rs f h.1)
  where
    by : (t : Bool) → is_false r ≡ t → (t || list_any is_false rs) ≡ true → (list_any is_false rs ≡ true → ⊥) → ⊥
    by true f e rest = false-holds v r f h.0
    by false f e rest = rest e

pub false_reached : (rows : List Linear) (steps : List Step) (v : RationalPoint) → ReachesFalse rows steps → MeetsAll v rows → ⊥
false_reached rows steps v r h = any_false-holds v r.0 r.2 (with_steps-holds v rows steps r.0 h (sym r.1))
