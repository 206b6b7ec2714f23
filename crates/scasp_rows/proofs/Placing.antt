-- An equation replaces rows one by one, each in its place.
use Rattle.std.proofs.Common.{◌≡◌, ℕ, ◌+◌, ◌<◌, Bool, true, false, ◌||◌, Result, Ok, Err, Option, None, Some, List, [], ◌∷◌, ◌++◌, length, get_or, slice_get, set, take, drop, refl, sym, ap, subst, ◌∙◌, arith, add-one}
use Rattle.std.specs.Prelude.{if◌then◌else◌}
use Rattle.std.specs.List.{list_any, remove}
use Rattle.std.proofs.lemmas.List.{drop_more, take_at, drop_at, take_more_set, drop-set-lt, length-take-le}
use Rattle.std.proofs.lemmas.Option.{slice_get_read}
use Rattle.scasp_num.specs.declared.hints.Step.{Step}
use Rattle.scasp_num.specs.declared.linear.RowErr.{RowErr}
use Rattle.scasp_num.specs.declared.linear.RowErr.TheVariants as row_err
use Rattle.scasp_num.specs.Arithmetic.{◌>>=◌}
use Rattle.scasp_num.specs.Linear.{Gives, Linear}
use Rattle.scasp_num.specs.SameRow.{same_row}
use Rattle.scasp_rows.specs.declared.replacing.Made.{Made}
use Rattle.scasp_rows.specs.declared.replacing.Progress.{Progress}
use Rattle.scasp_rows.specs.declared.state.Halt.{Halt}
use Rattle.scasp_rows.specs.declared.state.Halt.TheVariants as halt
use Rattle.scasp_rows.specs.declared.state.Standing.{Standing}
use Rattle.scasp_rows.specs.declared.state.State.{State}
use Rattle.scasp_rows.specs.Points.{is_constant, is_false}
use Rattle.scasp_rows.specs.Steps.{row_sum}
use Rattle.scasp_rows.specs.Elimination.{against, factor, first_equation, looked, others, replaced, share, size_over, solves, sum_looked}
use Rattle.scasp_rows.specs.Inside.Halting.{IsHalt}
use Rattle.scasp_rows.specs.Inside.Replacing.{Puts, next_replaced, replacement}

-- ---- the first equation

pub rest-from : (rows : List Standing) (n : ℕ) (r : Standing) → n < length rows → r ≡ get_or rows n r → drop n rows ≡ r ∷ drop (n + 1) rows
rest-from rows n r l e = drop_more rows n r l ∙ ap (λ (d : Standing). d ∷ drop (n + 1) rows) (sym e)

pub equation-found : (x : ℕ) (rows : List Standing) (n : ℕ) (r : Standing) → n < length rows → r ≡ get_or rows n r → solves x r ≡ true → first_equation x (drop n rows) ≡ first_equation x rows → take n rows ++ others x (drop n rows) ≡ others x rows → (n < length rows) × (slice_get rows n ≡ first_equation x rows) × (take n rows ++ drop (n + 1) rows ≡ others x rows)
equation-found x rows n r l e t f o =
    let rest = rest-from rows n r l e in
    let first : first_equation x (drop n rows) ≡ Some r = ap (first_equation x) rest ∙ ap (λ b. if b then Some r else first_equation x (drop (n + 1) rows)) t in
    let other : others x (drop n rows) ≡ drop (n + 1) rows = ap (others x) rest ∙ ap (λ b. if b then drop (n + 1) rows else r ∷ others x (drop (n + 1) rows)) t in
    (l, slice_get_read rows (length rows) n r refl l e ∙ sym first ∙ f, ap (λ (rs : List Standing). take n rows ++ rs) (sym other) ∙ o)

-- ---- the first row that is left

pub replaced-next : (x : ℕ) (p q : Standing) (n : ℕ) (s : State) → n < length s.standing → q ≡ get_or s.standing n q → next_replaced x p (drop n s.standing) (record { standing = take n s.standing; steps = s.steps; last = s.last }) ≡ replaced x p q (drop (n + 1) s.standing) (record { standing = take n s.standing; steps = s.steps; last = s.last })
replaced-next x p q n s l e = ap (λ (ls : List Standing). next_replaced x p ls (record { standing = take n s.standing; steps = s.steps; last = s.last })) (rest-from s.standing n q l e)

-- ---- the rows where one was dropped, or another one put

pub dropped : (rows all : List Standing) (n : ℕ) → n < length rows → all ≡ take n rows ++ drop (n + 1) rows → (take n all ≡ take n rows) × (drop n all ≡ drop (n + 1) rows)
dropped rows all n l e =
    let size = length-take-le n rows (omega (arith, l)) in
    (ap (take n) e ∙ take_at (take n rows) (drop (n + 1) rows) n size, ap (drop n) e ∙ drop_at (take n rows) (drop (n + 1) rows) n size)

pub put : (rows all : List Standing) (n : ℕ) (r : Standing) → n < length rows → all ≡ set rows n r → (take (n + 1) all ≡ take n rows ++ r ∷ []) × (drop (n + 1) all ≡ drop (n + 1) rows)
put rows all n r l e =
    (ap (take (n + 1)) e ∙ take_more_set rows n r l, ap (drop (n + 1)) e ∙ drop-set-lt (n + 1) rows n r (omega arith))

-- a row that is looked at, where it is not false
looked-by : (r : Standing) (later : List Standing) (s : State) (b : Bool) → is_false r.row ≡ false → (is_constant r.row || list_any (λ o. same_row o.row r.row) (s.standing ++ later)) ≡ b → looked r later s ≡ (if b then Ok s else Ok (record { standing = s.standing ++ r ∷ []; steps = s.steps; last = s.last }))
looked-by r later s b e f = (λ i. if e i then Err (halt.Unsat s.steps) else (if f i then Ok s else Ok (record { standing = s.standing ++ r ∷ []; steps = s.steps; last = s.last })))

pub drops-next : (r : Standing) (s : State) (rows : List Standing) (n : ℕ) → n < length s.standing → is_false r.row ≡ false → (is_constant r.row || list_any (λ o. same_row o.row r.row) (take n s.standing ++ drop (n + 1) s.standing)) ≡ true → rows ≡ remove s.standing n → Puts (Ok (record { done = n; state = record { standing = rows; steps = s.steps; last = s.last } })) (drop (n + 1) s.standing) (looked r (drop (n + 1) s.standing) (record { standing = take n s.standing; steps = s.steps; last = s.last }))
drops-next r s rows n l e f g =
    let h = dropped s.standing rows n l (g ∙ ap (λ k. take n s.standing ++ drop k s.standing) (sym (add-one n))) in
    (looked-by r (drop (n + 1) s.standing) (record { standing = take n s.standing; steps = s.steps; last = s.last }) true e f ∙ ap (λ (ds : List Standing). Ok (record { standing = ds; steps = s.steps; last = s.last })) (sym h.0), h.1)

pub puts-next : (r : Standing) (s : State) (rows : List Standing) (n : ℕ) → n < length s.standing → is_false r.row ≡ false → (is_constant r.row || list_any (λ o. same_row o.row r.row) (take n s.standing ++ drop (n + 1) s.standing)) ≡ false → rows ≡ set s.standing n r → Puts (Ok (record { done = n + 1; state = record { standing = rows; steps = s.steps; last = s.last } })) (drop (n + 1) s.standing) (looked r (drop (n + 1) s.standing) (record { standing = take n s.standing; steps = s.steps; last = s.last }))
puts-next r s rows n l e f g =
    let h = put s.standing rows n r l g in
    (looked-by r (drop (n + 1) s.standing) (record { standing = take n s.standing; steps = s.steps; last = s.last }) false e f ∙ ap (λ (ds : List Standing). Ok (record { standing = ds; steps = s.steps; last = s.last })) (sym h.0), h.1)

-- ---- the row that replaces one

pub replaced-fails : (x : ℕ) (p q : Standing) (later : List Standing) (s : State) (e : RowErr) (h : Halt) → Gives {A = Made} (Err e) (replacement x p q) → IsHalt e h → Puts (Err h) later (replaced x p q later s)
replaced-fails x p q later s row_err.Overflow h e f =
    let g = share (factor x p) (factor x q) in
    let a = size_over (factor x p) g in
    let b = against (factor x p) (factor x q) g in
    let step : Step = record { a = a; p = q.number; b = b; q = p.number } in
    subst (λ (k : Halt). Puts (Err k) later (replaced x p q later s)) (sym f) (by step (row_sum a q.row b p.row) e)
  where
    by : (step : Step) (o : Option Linear) → ◌≡◌ {A = Option Made} None (o >>= (λ row. Some (record { step = step; row = row }))) → sum_looked step later s o ≡ Err halt.Overflow
    by step None e = refl
    by step (Some row) e = cc
replaced-fails x p q later s row_err.Memory h e f = subst (λ (k : Halt). Puts (Err k) later (replaced x p q later s)) (sym f) tt

pub replaced-made : (x : ℕ) (p q : Standing) (n : ℕ) (s t : State) (m : Made) (o : Result Progress Halt) → Some m ≡ replacement x p q → t ≡ record { standing = s.standing; steps = s.steps ++ m.step ∷ []; last = s.last + 1 } → Puts o (drop (n + 1) t.standing) (looked (record { number = t.last; row = m.row }) (drop (n + 1) t.standing) (record { standing = take n t.standing; steps = t.steps; last = t.last })) → Puts o (drop (n + 1) s.standing) (replaced x p q (drop (n + 1) s.standing) (record { standing = take n s.standing; steps = s.steps; last = s.last }))
replaced-made x p q n s t m o e f h =
    let g = share (factor x p) (factor x q) in
    let a = size_over (factor x p) g in
    let b = against (factor x p) (factor x q) g in
    by (record { a = a; p = q.number; b = b; q = p.number }) (row_sum a q.row b p.row) e
    (subst (λ (u : State). Puts o (drop (n + 1) u.standing) (looked (record { number = u.last; row = m.row }) (drop (n + 1) u.standing) (record { standing = take n u.standing; steps = u.steps; last = u.last }))) f h)
  where
    by : (step : Step) (made : Option Linear) → Some m ≡ (made >>= (λ row. Some (record { step = step; row = row })))
        → Puts o (drop (n + 1) s.standing) (looked (record { number = s.last + 1; row = m.row }) (drop (n + 1) s.standing) (record { standing = take n s.standing; steps = s.steps ++ m.step ∷ []; last = s.last + 1 }))
        → Puts o (drop (n + 1) s.standing) (sum_looked step (drop (n + 1) s.standing) (record { standing = take n s.standing; steps = s.steps; last = s.last }) made)
    by step None e h = cc
    by step (Some row) e h =
        let same : m ≡ record { step = step; row = row } = cc in
        subst (λ (k : Made). Puts o (drop (n + 1) s.standing) (looked (record { number = s.last + 1; row = k.row }) (drop (n + 1) s.standing) (record { standing = take n s.standing; steps = s.steps ++ k.step ∷ []; last = s.last + 1 }))) same h
