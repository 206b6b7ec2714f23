-- The places of bindings by variable, behind each change.
use Rattle.std.specs.Prelude.{◌≡◌, ◌<◌, ◌+◌, ℕ, suc, Bool, true, false, ◌||◌, nat_eq, if◌then◌else◌, List, [], ◌∷◌, ◌++◌, length, map, slice_set, Option, None, Some, option_map, refl}
use Rattle.std.proofs.Common.{arith, ap, sym, subst, ◌∙◌}
use Rattle.std.proofs.lemmas.Bool.{true≢false}
use Rattle.std.proofs.lemmas.List.{map-append, map-set, set-append_left, set_at}
use Rattle.scasp_trail.specs.Past.{Past, earlier, is_marked, latest}
use Rattle.scasp_unify.specs.declared.bindings.Binding.{Binding}
use Rattle.scasp_bound.specs.Inside.Gaps.{first_from, gaps, is_of, item, kept_of, present}
use Rattle.scasp_bound.specs.Inside.Places.{ArePlaces, ArePlacesEach, IsIndexed, IsPlace, IsRight, left_out, noted}
use Rattle.scasp_bound.specs.declared.places.Place.{Place}
use Rattle.scasp_bound.proofs.BoundLemmas.{first_gaps, first_more, first_noted}

pub first_is : (x : ℕ) (p : Option Place) (os : List (Option Binding)) → IsPlace x p os → option_map (λ (q : Place). q.at) p ≡ first_from 0 x os
first_is x None os h = sym h
first_is x (Some p) os h = sym h.0

-- ---- no binding of the variable, and the place of one

none_gaps_from : (k x : ℕ) (os : List (Option Binding)) → first_from k x os ≡ None → gaps x os ≡ os
none_gaps_from k x [] h = refl
none_gaps_from k x (o ∷ os) h = by (is_of x o) h (none_gaps_from (suc k) x os)
  where
    by : (c : Bool) → (if c then Some k else first_from (suc k) x os) ≡ None → (first_from (suc k) x os ≡ None → gaps x os ≡ os) → (if c then None else o) ∷ gaps x os ≡ o ∷ os
    by true e r = absurd (cc e)
    by false e r = ap (λ ps. o ∷ ps) (r e)

pub none_gaps : (x : ℕ) (os : List (Option Binding)) → first_from 0 x os ≡ None → gaps x os ≡ os
none_gaps x os h = none_gaps_from 0 x os h

within_from : (j k x : ℕ) (os : List (Option Binding)) → first_from j x os ≡ Some k → k < j + length os
within_from j k x [] h = absurd (cc h)
within_from j k x (o ∷ os) h = by (is_of x o) h (within_from (suc j) k x os)
  where
    by : (c : Bool) → (if c then Some j else first_from (suc j) x os) ≡ Some k → (first_from (suc j) x os ≡ Some k → k < suc j + length os) → k < j + length (o ∷ os)
    by true e r = let m : j ≡ k = cc e in omega (arith, m)
    by false e r = omega (arith, r e)

pub within : (k x : ℕ) (os : List (Option Binding)) → first_from 0 x os ≡ Some k → k < length os
within k x os h = omega (arith, within_from 0 k x os h)

-- ---- one more binding

pub right_more : (w : Bool) (os : List (Option Binding)) (ps qs : List (Option Place)) (b : Binding) → IsRight w os ps → ((y : ℕ) → item qs y ≡ noted (nat_eq b.x y) (length os) (item ps y)) → IsRight w (os ++ Some b ∷ []) qs
right_more false os ps qs b h e = h
right_more true os ps qs b h e = each
  where
    one : (y : ℕ) (c : Bool) → nat_eq b.x y ≡ c → (p : Option Place) → IsPlace y p os → IsPlace y (noted c (length os) p) (os ++ Some b ∷ [])
    one y true m None i =
        let first = first_more y os b ∙ ap (λ (c : Bool). first_noted c (length os) (first_from 0 y os)) m ∙ ap (first_noted true (length os)) i in
        let gone : gaps y (os ++ Some b ∷ []) ≡ os ++ None ∷ [] =
        map-append (kept_of y) os (Some b ∷ []) ∙ ap (λ ps. ps ++ kept_of y (Some b) ∷ []) (none_gaps y os i) ∙ ap (λ (c : Bool). os ++ (if c then None else Some b) ∷ []) m in
        (first, λ _. gone ∙ sym (set_at os (Some b) [] None (length os) refl))
    one y true m (Some p) i =
        let first = first_more y os b ∙ ap (λ (c : Bool). first_noted c (length os) (first_from 0 y os)) m ∙ ap (first_noted true (length os)) i.0 in
        (first, λ e. absurd (true≢false (sym e)))
    one y false m None i = first_more y os b ∙ ap (λ (c : Bool). first_noted c (length os) (first_from 0 y os)) m ∙ i
    one y false m (Some p) i =
        let first = first_more y os b ∙ ap (λ (c : Bool). first_noted c (length os) (first_from 0 y os)) m ∙ i.0 in (
          first,
          λ only.
              map-append (kept_of y) os (Some b ∷ []) ∙ ap (λ ps. ps ++ kept_of y (Some b) ∷ []) (i.1 only)
              ∙ ap (λ (c : Bool). slice_set os p.at None ++ (if c then None else Some b) ∷ []) m
              ∙ sym (set-append_left os (Some b ∷ []) p.at None (within p.at y os i.0)),
        )

    each : ArePlaces (os ++ Some b ∷ []) qs
    each y = subst (λ (p : Option Place). IsPlace y p (os ++ Some b ∷ [])) (sym (e y)) (one y (nat_eq b.x y) refl (item ps y) (h y))

-- ---- the bindings of a variable taken out

kept_twice : (x y : ℕ) (o : Option Binding) → kept_of y (kept_of x o) ≡ kept_of x (kept_of y o)
kept_twice x y None = refl
kept_twice x y (Some b) = by (nat_eq b.x x) refl (nat_eq b.x y) refl
  where
    by : (c : Bool) → nat_eq b.x x ≡ c → (d : Bool) → nat_eq b.x y ≡ d → kept_of y (if c then None else Some b) ≡ kept_of x (if d then None else Some b)
    by true e true f = refl
    by true e false f = sym (ap (λ (k : Bool). if k then None else Some b) e)
    by false e true f = ap (λ (k : Bool). if k then None else Some b) f
    by false e false f = ap (λ (k : Bool). if k then None else Some b) f ∙ sym (ap (λ (k : Bool). if k then None else Some b) e)

gaps_twice : (x y : ℕ) (os : List (Option Binding)) → gaps y (gaps x os) ≡ gaps x (gaps y os)
gaps_twice x y [] = refl
gaps_twice x y (o ∷ os) = ap (λ p. p ∷ gaps y (gaps x os)) (kept_twice x y o) ∙ ap (λ ps. kept_of x (kept_of y o) ∷ ps) (gaps_twice x y os)

pub right_gaps : (w : Bool) (x : ℕ) (os : List (Option Binding)) (ps qs : List (Option Place)) → IsRight w os ps → ((y : ℕ) → item qs y ≡ left_out (nat_eq x y) (item ps y)) → IsRight w (gaps x os) qs
right_gaps false x os ps qs h e = h
right_gaps true x os ps qs h e = each
  where
    one : (y : ℕ) (c : Bool) → nat_eq x y ≡ c → (p : Option Place) → IsPlace y p os → IsPlace y (left_out c p) (gaps x os)
    one y true m p i = first_gaps x y os ∙ ap (λ (c : Bool). left_out c (first_from 0 y os)) m
    one y false m None i = first_gaps x y os ∙ ap (λ (c : Bool). left_out c (first_from 0 y os)) m ∙ i
    one y false m (Some p) i = (
      first_gaps x y os ∙ ap (λ (c : Bool). left_out c (first_from 0 y os)) m ∙ i.0,
      λ only.
          gaps_twice x y os ∙ ap (gaps x) (i.1 only) ∙ map-set (kept_of x) os p.at None,
    )

    each : ArePlaces (gaps x os) qs
    each y = subst (λ (p : Option Place). IsPlace y p (gaps x os)) (sym (e y)) (one y (nat_eq x y) refl (item ps y) (h y))

-- ---- at the latest mark

pub right_left : (w : Bool) (list : Past (Option Binding)) (places : Past (Option Place)) (n : ℕ) → IsIndexed w list places n
    → IsRight (w || is_marked list.before) (latest list.now list.before) (latest places.now places.before) × ArePlacesEach (earlier list.before) (earlier places.before)
right_left w list places n i = by list.before places.before i.before
  where
    whole : (w : Bool) (os : List (Option Binding)) (ps : List (Option Place)) → ArePlaces os ps → IsRight (w || true) os ps
    whole true os ps h = h
    whole false os ps h = h

    same : (w : Bool) (os : List (Option Binding)) (ps : List (Option Place)) → IsRight w os ps → IsRight (w || false) os ps
    same true os ps h = h
    same false os ps h = h

    by : (oss : List (List (Option Binding))) (pss : List (List (Option Place))) → ArePlacesEach oss pss → IsRight (w || is_marked oss) (latest list.now oss) (latest places.now pss) × ArePlacesEach (earlier oss) (earlier pss)
    by [] [] h = (same w list.now places.now i.now, h)
    by [] (ps ∷ pss) h = absurd h
    by (os ∷ oss) [] h = absurd h
    by (os ∷ oss) (ps ∷ pss) h = (whole w os ps h.0, h.1)

pub present_latest : (os : List (Option Binding)) (oss : List (List (Option Binding))) → present (latest os oss) ≡ latest (present os) (map present oss)
present_latest os [] = refl
present_latest os (ps ∷ oss) = refl

pub present_earlier : (oss : List (List (Option Binding))) → map present (earlier oss) ≡ earlier (map present oss)
present_earlier [] = refl
present_earlier (ps ∷ oss) = refl

-- there is a mark where the list has one
pub still_marked : (oss : List (List (Option Binding))) → is_marked oss ≡ is_marked (map present oss)
still_marked [] = refl
still_marked (os ∷ oss) = refl
