-- Rows that steps add behind others.
use Rattle.std.proofs.Common.{◌≡◌, Bool, true, false, Option, Some, List, [], ◌∷◌, ◌++◌, refl, sym, ap, ◌∙◌, append_assoc}
use Rattle.std.specs.Prelude.{◌||◌}
use Rattle.std.specs.List.{list_any}
use Rattle.std.proofs.lemmas.List.{append-nil}
use Rattle.scasp_num.specs.declared.hints.Step.{Step}
use Rattle.scasp_num.specs.Arithmetic.{◌>>=◌}
use Rattle.scasp_num.specs.Linear.{Linear}
use Rattle.scasp_num.proofs.Exact.{bind-some}
use Rattle.scasp_list.proofs.EachLemmas.{Each-append}
use Rattle.scasp_rows.specs.Points.{is_false}
use Rattle.scasp_rows.specs.Steps.{ReachesFalse, StepInRange, row_made, with_steps}
use Rattle.scasp_simplex.specs.Inside.Chains.{Add}
use Rattle.scasp_simplex.specs.Reached.{AddsFalse}

-- ---- one more step

steps-more : (rows : List Linear) (steps : List Step) (s : Step) (all : List Linear) (row : Linear) → Some all ≡ with_steps rows steps → Some row ≡ row_made all s → Some (all ++ row ∷ []) ≡ with_steps rows (steps ++ s ∷ [])
steps-more rows [] s all row e f =
    let same : all ≡ rows = cc in
    ap (λ (rs : List Linear). Some (rs ++ row ∷ [])) same ∙ ap (λ (o : Option Linear). o >>= (λ row. Some (rows ++ row ∷ []))) (f ∙ ap (λ (rs : List Linear). row_made rs s) same)
steps-more rows (t ∷ ts) s all row e f =
    let r = bind-some (row_made rows t) (λ row. with_steps (rows ++ row ∷ []) ts) all e in
    steps-more (rows ++ r.0 ∷ []) ts s all row r.2 f ∙ ap (λ (o : Option Linear). o >>= (λ row. with_steps (rows ++ row ∷ []) (ts ++ s ∷ []))) r.1

pub add-none : (rows : List Linear) → Add rows [] []
add-none rows = (ap (λ (rs : List Linear). Some rs) (sym (append-nil rows)), tt)

pub add-more : (rows : List Linear) (steps : List Step) (added : List Linear) (s : Step) (row : Linear) → Add rows steps added → StepInRange s → Some row ≡ row_made (rows ++ added) s → Add rows (steps ++ s ∷ []) (added ++ row ∷ [])
add-more rows steps added s row h r e = (
  sym (steps-more rows steps s (rows ++ added) row (sym h.0) e) ∙ ap (λ (rs : List Linear). Some rs) (append_assoc rows added (row ∷ [])),
  Each-append StepInRange steps (s ∷ []) h.1 (r, tt),
)

-- ---- false rows

any-right : (rows added : List Linear) → list_any is_false added ≡ true → list_any is_false (rows ++ added) ≡ true
any-right [] added e = e
any-right (r ∷ rows) added e = by (is_false r) (any-right rows added e)
  where
    by : (b : Bool) → list_any is_false (rows ++ added) ≡ true → (b || list_any is_false (rows ++ added)) ≡ true
    by true f = refl
    by false f = f

any-left : (rows added : List Linear) → list_any is_false rows ≡ false → list_any is_false (rows ++ added) ≡ true → list_any is_false added ≡ true
any-left [] added e f = f
any-left (r ∷ rows) added e f = by (is_false r) e f (any-left rows added)
  where
    by : (b : Bool) → (b || list_any is_false rows) ≡ false → (b || list_any is_false (rows ++ added)) ≡ true → (list_any is_false rows ≡ false → list_any is_false (rows ++ added) ≡ true → list_any is_false added ≡ true) → list_any is_false added ≡ true
    by true e f rest = cc
    by false e f rest = rest e f

-- steps that add a false row reach one
pub adds-reaches : (rows : List Linear) (steps : List Step) → AddsFalse rows steps → ReachesFalse rows steps
adds-reaches rows steps h = (rows ++ h.0, h.1, any-right rows h.0 h.2)

-- the rows stand before those that the steps add
begins : (rows : List Linear) (steps : List Step) (all : List Linear) → Some all ≡ with_steps rows steps → (added : List Linear) × (all ≡ rows ++ added)
begins rows [] all e = ([], (let same : all ≡ rows = cc in same) ∙ sym (append-nil rows))
begins rows (s ∷ ss) all e =
    let r = bind-some (row_made rows s) (λ row. with_steps (rows ++ row ∷ []) ss) all e in
    let rest = begins (rows ++ r.0 ∷ []) ss all r.2 in
    (r.0 ∷ rest.0, rest.1 ∙ append_assoc rows (r.0 ∷ []) rest.0)

-- where no given row is false, steps that reach a false row add one
pub reaches-adds : (rows : List Linear) (steps : List Step) → list_any is_false rows ≡ false → ReachesFalse rows steps → AddsFalse rows steps
reaches-adds rows steps none h =
    let b = begins rows steps h.0 (sym h.1) in
    (b.0, h.1 ∙ ap (λ (rs : List Linear). Some rs) b.1, any-left rows b.0 none (ap (list_any is_false) (sym b.1) ∙ h.2))
