-- What a set of keys and a list of rows have, as both grow.
use Rattle.std.proofs.Common.{◌≡◌, Bool, true, false, ◌||◌, not, Ok, Err, List, [], ◌∷◌, ◌++◌, refl, sym, ap, ◌∙◌, append-nil}
use Rattle.std.specs.Prelude.{cond, if◌then◌else◌}
use Rattle.std.specs.List.{list_any}
use Rattle.std.proofs.lemmas.List.Folds.{list_any-append}
use Rattle.scasp_num.specs.Linear.{Linear}
use Rattle.scasp_num.specs.SameRow.{same_row}
use Rattle.scasp_num.proofs.SameRows.{row-decided}
use Rattle.scasp_rows.specs.declared.state.Halt.TheVariants as halt
use Rattle.scasp_rows.specs.declared.state.Standing.{Standing}
use Rattle.scasp_rows.specs.declared.state.State.{State}
use Rattle.scasp_rows.specs.Points.{is_constant, is_false}
use Rattle.scasp_rows.specs.Elimination.{looked}

abbrev pub has : Linear → List Standing → Bool
has q rows = list_any (λ o. same_row o.row q) rows

pub or-cond : (b y : Bool) → cond b true y ≡ (b || y)
or-cond true y = refl
or-cond false y = refl

or-swap : (a b : Bool) → (a || b) ≡ (b || (a || false))
or-swap true true = refl
or-swap true false = refl
or-swap false true = refl
or-swap false false = refl

-- one more row on both sides
pub has-more : (q : Linear) (rows : List Standing) (r : Standing) (old new : Bool) → old ≡ has q rows → new ≡ (same_row r.row q || old) → new ≡ has q (rows ++ r ∷ [])
has-more q rows r old new e f = f ∙ or-swap (same_row r.row q) old ∙ ap (λ b. b || (same_row r.row q || false)) e ∙ sym (list_any-append (λ (o : Standing). same_row o.row q) rows (r ∷ []))

-- a row that stands already changes nothing
pub has-same : (q r : Linear) (rows : List Standing) (old new : Bool) → old ≡ has q rows → has r rows ≡ true → new ≡ (same_row r q || old) → new ≡ has q rows
has-same q r rows old new e h f = f ∙ by (same_row r q) refl
  where
    by : (b : Bool) → same_row r q ≡ b → (b || old) ≡ has q rows
    by true s = sym h ∙ ap (λ (l : Linear). has l rows) ((row-decided r q).0 s)
    by false s = e

pub not-true : (b : Bool) → not b ≡ true → b ≡ false
not-true true e = sym e
not-true false e = refl

pub not-false : (b : Bool) → not b ≡ false → b ≡ true
not-false true e = refl
not-false false e = sym e

-- a row is looked at
looked-by : (r : Standing) (s : State) (b : Bool) → is_false r.row ≡ false → is_constant r.row ≡ false → has r.row s.standing ≡ b → looked r [] s ≡ (if b then Ok s else Ok (record { standing = s.standing ++ r ∷ []; steps = s.steps; last = s.last }))
looked-by r s b e f g =
    let stands : has r.row (s.standing ++ []) ≡ b = ap (has r.row) (append-nil s.standing) ∙ g in
    (λ i. if e i then Err (halt.Unsat s.steps) else (if f i || stands i then Ok s else Ok (record { standing = s.standing ++ r ∷ []; steps = s.steps; last = s.last })))

pub looked-new : (r : Standing) (s : State) → is_false r.row ≡ false → is_constant r.row ≡ false → has r.row s.standing ≡ false → looked r [] s ≡ Ok (record { standing = s.standing ++ r ∷ []; steps = s.steps; last = s.last })
looked-new r s e f g = looked-by r s false e f g

pub looked-old : (r : Standing) (s : State) → is_false r.row ≡ false → is_constant r.row ≡ false → has r.row s.standing ≡ true → looked r [] s ≡ Ok s
looked-old r s e f g = looked-by r s true e f g
