-- The first binding of a variable, in a list with gaps and by an index.
use Rattle.std.specs.Prelude.{◌≡◌, ◌<◌, ◌≤◌, ◌+◌, ℕ, zero, suc, Bool, true, false, not, nat_eq, ◌||◌, is_some, if◌then◌else◌, List, [], ◌∷◌, ◌++◌, length, slice_set, Option, None, Some, option_map, refl}
use Rattle.std.proofs.Common.{arith, ap, sym, subst, ◌∙◌}
use Rattle.std.proofs.lemmas.Bool.{true≢false}
use Rattle.std.proofs.lemmas.Bool.Decides.{Decides-eqb}
use Rattle.scasp_unify.specs.declared.bindings.Binding.{Binding}
use Rattle.scasp_bound.specs.Bounds.{bound_in, is_bound_in, without}
use Rattle.scasp_bound.specs.Inside.Gaps.{emptied, first_from, gaps, gaps_to, is_of, item, item_at, kept_of, present}
use Rattle.scasp_bound.specs.Inside.Places.{left_out, noted}
use Rattle.scasp_bound.specs.declared.places.Place.{Place}

-- ---- lists with notes

pub past : {A : Type 0} (os : List (Option A)) (k : ℕ) → length os ≤ k → item os k ≡ None
past [] zero h = refl
past [] (suc k) h = refl
past (o ∷ os) zero h = absurd (omega (arith, h))
past (o ∷ os) (suc k) h = past os k (omega (arith, h))

pub longer : {A : Type 0} (os : List (Option A)) (k : ℕ) → item (os ++ None ∷ []) k ≡ item os k
longer [] zero = refl
longer [] (suc k) = refl
longer (o ∷ os) zero = refl
longer (o ∷ os) (suc k) = longer os k

put_there : {A : Type 0} (os : List (Option A)) (k : ℕ) (o : Option A) → k < length os → item (slice_set os k o) k ≡ o
put_there [] zero o h = absurd (omega (arith, h))
put_there [] (suc k) o h = absurd (omega (arith, h))
put_there (p ∷ os) zero o h = refl
put_there (p ∷ os) (suc k) o h = put_there os k o (omega (arith, h))

down : (k y : ℕ) → nat_eq (suc k) (suc y) ≡ false → nat_eq k y ≡ false
down k y h = by (nat_eq k y) refl
  where
    by : (b : Bool) → nat_eq k y ≡ b → b ≡ false
    by true m = absurd (true≢false (sym ((Decides-eqb (suc k) (suc y)).1 (ap suc ((Decides-eqb k y).0 m))) ∙ h))
    by false m = refl

put_elsewhere : {A : Type 0} (os : List (Option A)) (k y : ℕ) (o : Option A) → nat_eq k y ≡ false → item (slice_set os k o) y ≡ item os y
put_elsewhere [] zero zero o h = refl
put_elsewhere [] zero (suc y) o h = refl
put_elsewhere [] (suc k) zero o h = refl
put_elsewhere [] (suc k) (suc y) o h = refl
put_elsewhere (p ∷ os) zero zero o h = absurd (true≢false h)
put_elsewhere (p ∷ os) zero (suc y) o h = refl
put_elsewhere (p ∷ os) (suc k) zero o h = refl
put_elsewhere (p ∷ os) (suc k) (suc y) o h = put_elsewhere os k y o (down k y h)

equal : (x y : ℕ) → nat_eq x y ≡ true → x ≡ y
equal x y h = (Decides-eqb x y).0 h

note_put : (os : List (Option Place)) (x k : ℕ) → x < length os → (y : ℕ) → item (slice_set os x (noted true k (item os x))) y ≡ noted (nat_eq x y) k (item os y)
note_put os x k h y = by (nat_eq x y) refl
  where
    by : (b : Bool) → nat_eq x y ≡ b → item (slice_set os x (noted true k (item os x))) y ≡ noted b k (item os y)
    by true m = subst (λ (z : ℕ). item (slice_set os x (noted true k (item os x))) z ≡ noted true k (item os z)) (equal x y m) (put_there os x (noted true k (item os x)) h)
    by false m = put_elsewhere os x y (noted true k (item os x)) m

-- one more place is noted, behind room that was made
pub note_more : (os ps qs : List (Option Place)) (x k : ℕ) (o : Option Place) → ((y : ℕ) → item ps y ≡ item os y) → x < length ps → o ≡ noted true k (item ps x) → qs ≡ slice_set ps x o → (y : ℕ) → item qs y ≡ noted (nat_eq x y) k (item os y)
note_more os ps qs x k o same h e q y =
    ap (λ rs. item rs y) q ∙ ap (λ p. item (slice_set ps x p) y) e ∙ note_put ps x k h y ∙ ap (noted (nat_eq x y) k) (same y)

pub note_gone : (os : List (Option Place)) (x : ℕ) → x < length os → (y : ℕ) → item (slice_set os x None) y ≡ left_out (nat_eq x y) (item os y)
note_gone os x h y = by (nat_eq x y) refl
  where
    by : (b : Bool) → nat_eq x y ≡ b → item (slice_set os x None) y ≡ left_out b (item os y)
    by true m = subst (λ (z : ℕ). item (slice_set os x None) z ≡ None) (equal x y m) (put_there os x None h)
    by false m = put_elsewhere os x y None m

pub none_there : (os : List (Option Place)) (x : ℕ) → length os ≤ x → (y : ℕ) → item os y ≡ left_out (nat_eq x y) (item os y)
none_there os x h y = by (nat_eq x y) refl
  where
    by : (b : Bool) → nat_eq x y ≡ b → item os y ≡ left_out b (item os y)
    by true m = subst (λ (z : ℕ). item os z ≡ None) (equal x y m) (past os x h)
    by false m = refl

-- ---- gaps

pub emptied_put : (n x : ℕ) (os : List (Option Binding)) → is_of x (item os n) ≡ true → slice_set os n None ≡ emptied n x os
emptied_put zero x [] e = absurd (true≢false (sym e))
emptied_put zero x (o ∷ os) e = rw e refl
emptied_put (suc n) x [] e = absurd (true≢false (sym e))
emptied_put (suc n) x (o ∷ os) e = ap (λ ps. o ∷ ps) (emptied_put n x os e)

pub emptied_not : (n x : ℕ) (os : List (Option Binding)) → is_of x (item os n) ≡ false → os ≡ emptied n x os
emptied_not zero x [] e = refl
emptied_not zero x (o ∷ os) e = rw e refl
emptied_not (suc n) x [] e = refl
emptied_not (suc n) x (o ∷ os) e = ap (λ ps. o ∷ ps) (emptied_not n x os e)

pub emptied_length : (n x : ℕ) (os : List (Option Binding)) → length (emptied n x os) ≡ length os
emptied_length n x [] = refl
emptied_length zero x (o ∷ os) = refl
emptied_length (suc n) x (o ∷ os) = ap suc (emptied_length n x os)

pub gap_more : (n x : ℕ) (os : List (Option Binding)) → emptied n x (gaps_to n x os) ≡ gaps_to (suc n) x os
gap_more zero x [] = refl
gap_more zero x (o ∷ os) = refl
gap_more (suc n) x [] = refl
gap_more (suc n) x (o ∷ os) = ap (λ ps. kept_of x o ∷ ps) (gap_more n x os)

pub gap_all : (n x : ℕ) (os : List (Option Binding)) → length (gaps_to n x os) ≤ n → gaps_to n x os ≡ gaps x os
gap_all zero x [] h = refl
gap_all zero x (o ∷ os) h = absurd (omega (arith, h))
gap_all (suc n) x [] h = refl
gap_all (suc n) x (o ∷ os) h = ap (λ ps. kept_of x o ∷ ps) (gap_all n x os (omega (arith, h)))

pub present_gaps : (x : ℕ) (os : List (Option Binding)) → present (gaps x os) ≡ without x (present os)
present_gaps x [] = refl
present_gaps x (None ∷ os) = present_gaps x os
present_gaps x (Some b ∷ os) = by (nat_eq b.x x) (present_gaps x os)
  where
    by : (c : Bool) → present (gaps x os) ≡ without x (present os) → present ((if c then None else Some b) ∷ gaps x os) ≡ (if not c then b ∷ without x (present os) else without x (present os))
    by true h = h
    by false h = ap (λ bs. b ∷ bs) h

pub present_more : (os : List (Option Binding)) (b : Binding) → present (os ++ Some b ∷ []) ≡ present os ++ b ∷ []
present_more [] b = refl
present_more (None ∷ os) b = present_more os b
present_more (Some c ∷ os) b = ap (λ bs. c ∷ bs) (present_more os b)

-- ---- the first binding of a variable

-- one more binding of the variable stands at place k, behind the others
abbrev pub first_noted : Bool → ℕ → Option ℕ → Option ℕ
first_noted true k None = Some k
first_noted true k (Some j) = Some j
first_noted false k o = o

first_more_from : (k y : ℕ) (os : List (Option Binding)) (b : Binding) → first_from k y (os ++ Some b ∷ []) ≡ first_noted (nat_eq b.x y) (k + length os) (first_from k y os)
first_more_from k y [] b = by (nat_eq b.x y)
  where
    by : (c : Bool) → (if c then Some k else None) ≡ first_noted c (k + 0) None
    by true = ap (λ (n : ℕ). Some n) (omega arith)
    by false = refl
first_more_from k y (o ∷ os) b = by (is_of y o) (first_more_from (suc k) y os b)
  where
    here : (c : Bool) → Some k ≡ first_noted c (k + length (o ∷ os)) (Some k)
    here true = refl
    here false = refl

    by : (c : Bool) → first_from (suc k) y (os ++ Some b ∷ []) ≡ first_noted (nat_eq b.x y) (suc k + length os) (first_from (suc k) y os) → (if c then Some k else first_from (suc k) y (os ++ Some b ∷ [])) ≡ first_noted (nat_eq b.x y) (k + length (o ∷ os)) (if c then Some k else first_from (suc k) y os)
    by true h = here (nat_eq b.x y)
    by false h = let n : suc k + length os ≡ k + length (o ∷ os) = omega arith in h ∙ ap (λ (m : ℕ). first_noted (nat_eq b.x y) m (first_from (suc k) y os)) n

pub first_more : (y : ℕ) (os : List (Option Binding)) (b : Binding) → first_from 0 y (os ++ Some b ∷ []) ≡ first_noted (nat_eq b.x y) (length os) (first_from 0 y os)
first_more y os b = let n : 0 + length os ≡ length os = omega arith in first_more_from 0 y os b ∙ ap (λ (m : ℕ). first_noted (nat_eq b.x y) m (first_from 0 y os)) n

is_of_other : (x y : ℕ) (o : Option Binding) → is_of x o ≡ true → nat_eq x y ≡ false → is_of y o ≡ false
is_of_other x y None h e = refl
is_of_other x y (Some b) h e = subst (λ (z : ℕ). nat_eq z y ≡ false) (sym (equal b.x x h)) e

gone_from : (j x : ℕ) (ps : List (Option Binding)) → first_from j x (gaps x ps) ≡ None
gone_from j x [] = refl
gone_from j x (o ∷ ps) = one (is_of x o) refl (gone_from (suc j) x ps)
  where
    one : (c : Bool) → is_of x o ≡ c → first_from (suc j) x (gaps x ps) ≡ None → first_from j x ((if c then None else o) ∷ gaps x ps) ≡ None
    one true e h = h
    one false e h = rw e h

other_from : (j x y : ℕ) (ps : List (Option Binding)) → nat_eq x y ≡ false → first_from j y (gaps x ps) ≡ first_from j y ps
other_from j x y [] m = refl
other_from j x y (o ∷ ps) m = one (is_of x o) refl (other_from (suc j) x y ps m)
  where
    one : (c : Bool) → is_of x o ≡ c → first_from (suc j) y (gaps x ps) ≡ first_from (suc j) y ps → first_from j y ((if c then None else o) ∷ gaps x ps) ≡ first_from j y (o ∷ ps)
    one true e h = h ∙ sym (ap (λ (c : Bool). if c then Some j else first_from (suc j) y ps) (is_of_other x y o e m))
    one false e h = ap (λ (r : Option ℕ). if is_of y o then Some j else r) h

pub first_gaps : (x y : ℕ) (os : List (Option Binding)) → first_from 0 y (gaps x os) ≡ left_out (nat_eq x y) (first_from 0 y os)
first_gaps x y os = by (nat_eq x y) refl
  where
    by : (b : Bool) → nat_eq x y ≡ b → first_from 0 y (gaps x os) ≡ left_out b (first_from 0 y os)
    by true m = subst (λ (z : ℕ). first_from 0 z (gaps x os) ≡ None) (equal x y m) (gone_from 0 x os)
    by false m = other_from 0 x y os m

-- ---- what stands there

pub shifted : (k x : ℕ) (os : List (Option Binding)) → first_from (suc k) x os ≡ option_map suc (first_from k x os)
shifted k x [] = refl
shifted k x (o ∷ os) = by (is_of x o) (shifted (suc k) x os)
  where
    by : (c : Bool) → first_from (suc (suc k)) x os ≡ option_map suc (first_from (suc k) x os) → (if c then Some (suc k) else first_from (suc (suc k)) x os) ≡ option_map suc (if c then Some k else first_from (suc k) x os)
    by true h = refl
    by false h = h

behind : (o : Option Binding) (os : List (Option Binding)) (f : Option ℕ) → item_at (o ∷ os) (option_map suc f) ≡ item_at os f
behind o os None = refl
behind o os (Some k) = refl

pub found : (x : ℕ) (os : List (Option Binding)) → item_at os (first_from 0 x os) ≡ bound_in x (present os)
found x [] = refl
found x (None ∷ os) = ap (item_at (None ∷ os)) (shifted 0 x os) ∙ behind None os (first_from 0 x os) ∙ found x os
found x (Some b ∷ os) = by (nat_eq b.x x) (found x os)
  where
    by : (c : Bool) → item_at os (first_from 0 x os) ≡ bound_in x (present os) → item_at (Some b ∷ os) (if c then Some 0 else first_from 1 x os) ≡ (if c then Some b else bound_in x (present os))
    by true h = refl
    by false h = ap (item_at (Some b ∷ os)) (shifted 0 x os) ∙ behind (Some b) os (first_from 0 x os) ∙ h

pub found_there : (x k : ℕ) (os : List (Option Binding)) → first_from 0 x os ≡ Some k → item os k ≡ bound_in x (present os)
found_there x k os h = ap (item_at os) (sym h) ∙ found x os

pub found_none : (x : ℕ) (os : List (Option Binding)) → first_from 0 x os ≡ None → None ≡ bound_in x (present os)
found_none x os h = ap (item_at os) (sym h) ∙ found x os

-- ---- whether a variable is bound

is_found : (x : ℕ) (bs : List Binding) → is_some (bound_in x bs) ≡ is_bound_in bs x
is_found x [] = refl
is_found x (b ∷ bs) = by (nat_eq b.x x) (is_found x bs)
  where
    by : (c : Bool) → is_some (bound_in x bs) ≡ is_bound_in bs x → is_some (if c then Some b else bound_in x bs) ≡ (c || is_bound_in bs x)
    by true h = refl
    by false h = h

pub one_bound : (x : ℕ) (bs : List Binding) (b : Binding) → Some b ≡ bound_in x bs → true ≡ is_bound_in bs x
one_bound x bs b e = ap is_some e ∙ is_found x bs

pub none_bound : (x : ℕ) (bs : List Binding) → None ≡ bound_in x bs → false ≡ is_bound_in bs x
none_bound x bs e = ap is_some e ∙ is_found x bs
