-- Covers that are kept, behind each change.
use Rattle.std.proofs.Common.{◌≡◌, ◌+◌, ◌-◌, ◌<◌, ◌≤◌, ℕ, zero, suc, Bool, true, false, nat_eq, not, if◌then◌else◌, List, [], ◌∷◌, ◌++◌, length, map, reverse, take, slice_get, slice_set, None, Some, is_some, arith, refl, ap, sym, ◌∙◌}
use Rattle.std.proofs.lemmas.Bool.Decides.{Decides-eqb}
use Rattle.std.proofs.lemmas.List.{length-append, reverse-append, take_all}
use Rattle.scasp_forall.specs.Covers.{AreNumbered, first_of, next_in, on_last, opening_in, universals_in}
use Rattle.scasp_forall.specs.Inside.Kept.{cover_of, covers_from, remainder_of}
use Rattle.scasp_forall.specs.Inside.Listed.{listed}
use Rattle.scasp_forall.specs.declared.scope.Rest.{Rest}
use Rattle.scasp_forall.specs.declared.scope.Scope.{Scope}
use Rattle.scasp_lines_places.specs.Places.Chains.{chained}
use Rattle.scasp_search_rules.specs.Successors.Replacing.{has_universals}
use Rattle.scasp_search_rules.specs.Successors.Search.{is_waiting, waits}
use Rattle.scasp_search_rules.specs.Successors.Splits.{at_depth}
use Rattle.scasp_search_rules.specs.Successors.Variables.{is_empty}
use Rattle.scasp_search_rules.specs.declared.states.covers.Cover.{Cover}
use Rattle.scasp_search_rules.specs.declared.states.covers.Remainder.{Remainder}
use Rattle.scasp_trail.specs.Past.{earlier, is_marked, latest}

length-from : (d : ℕ) (ss : List Scope) → length (covers_from d ss) ≡ length ss
length-from d [] = refl
length-from d (s ∷ ss) = ap suc (length-from (suc d) ss)

pub covers_length : (ss : List Scope) → length (covers_from 1 ss) ≡ length ss
covers_length ss = length-from 1 ss

numbered_from : (d : ℕ) (ss : List Scope) → AreNumbered d (covers_from d ss)
numbered_from d [] = tt
numbered_from d (s ∷ ss) = (refl, numbered_from (suc d) ss)

pub numbered : (ss : List Scope) → AreNumbered 1 (covers_from 1 ss)
numbered ss = numbered_from 1 ss

-- ---- one cover more, and one fewer

more_from : (d j : ℕ) (ss : List Scope) (s : Scope) → d + length ss ≡ j → covers_from d (ss ++ s ∷ []) ≡ covers_from d ss ++ cover_of j s ∷ []
more_from d j [] s q = let p : d ≡ j = omega (arith, q) in ap (λ (k : ℕ). cover_of k s ∷ []) p
more_from d j (r ∷ ss) s q = ap (λ cs. cover_of d r ∷ cs) (more_from (suc d) j ss s (omega (arith, q)))

pub one_more : (ss : List Scope) (s : Scope) (c : ℕ → Cover) → ((d : ℕ) → cover_of d s ≡ c d) → covers_from 1 (ss ++ s ∷ []) ≡ covers_from 1 ss ++ c (length (covers_from 1 ss) + 1) ∷ []
one_more ss s c h =
    let j : ℕ = length (covers_from 1 ss) + 1 in
    more_from 1 j ss s (omega (arith, covers_length ss)) ∙ ap (λ b. covers_from 1 ss ++ b ∷ []) (h j)

taken_from : (d n : ℕ) (ss : List Scope) → covers_from d (take n ss) ≡ take n (covers_from d ss)
taken_from d zero ss = refl
taken_from d (suc n) [] = refl
taken_from d (suc n) (s ∷ ss) = ap (λ cs. cover_of d s ∷ cs) (taken_from (suc d) n ss)

pub covers_taken : (n : ℕ) (ss : List Scope) → covers_from 1 (take n ss) ≡ take n (covers_from 1 ss)
covers_taken n ss = taken_from 1 n ss

place_from : (d j n : ℕ) (ss : List Scope) (s : Scope) → d + n ≡ j → slice_get ss n ≡ Some s → take (suc n) (covers_from d ss) ≡ take n (covers_from d ss) ++ cover_of j s ∷ []
place_from d j n [] s q g = absurd (cc g)
place_from d j zero (r ∷ ss) s q g =
    let p : d ≡ j = omega (arith, q) in
    let e : r ≡ s = cc g in
    λ i. cover_of (p i) (e i) ∷ []
place_from d j (suc n) (r ∷ ss) s q g = ap (λ cs. cover_of d r ∷ cs) (place_from (suc d) j n ss s (omega (arith, q)) g)

-- one cover more is copied
pub taken_more : (n m j : ℕ) (ss : List Scope) (s : Scope) → m ≡ n + 1 → j ≡ n + 1 → slice_get ss n ≡ Some s → take m (covers_from 1 ss) ≡ take n (covers_from 1 ss) ++ cover_of j s ∷ []
taken_more n m j ss s e q g =
    let p : m ≡ suc n = omega (arith, e) in
    ap (λ k. take k (covers_from 1 ss)) p ∙ place_from 1 j n ss s (omega (arith, q)) g

pub all_taken : (n : ℕ) (ss : List Scope) → length ss ≤ n → take n (covers_from 1 ss) ≡ covers_from 1 ss
all_taken n ss h = take_all n (covers_from 1 ss) (omega (arith, h, covers_length ss))

-- ---- the cover of a depth

unequal : (a b : ℕ) → a < b → nat_eq a b ≡ false
unequal a b h = by (nat_eq a b) refl
  where
    by : (c : Bool) → nat_eq a b ≡ c → c ≡ false
    by true e = absurd (omega (arith, h, (Decides-eqb a b).0 e))
    by false e = refl

unequal_below : (a b : ℕ) → b < a → nat_eq a b ≡ false
unequal_below a b h = by (nat_eq a b) refl
  where
    by : (c : Bool) → nat_eq a b ≡ c → c ≡ false
    by true e = absurd (omega (arith, h, (Decides-eqb a b).0 e))
    by false e = refl

untouched : (d j : ℕ) (f : Cover → Cover) (ss : List Scope) → j < d → at_depth j f (covers_from d ss) ≡ covers_from d ss
untouched d j f [] h = refl
untouched d j f (s ∷ ss) h =
    let c : Cover = cover_of d s in
    λ i. (if unequal_below d j h i then f c else c) ∷ untouched (suc d) j f ss (omega (arith, h)) i

beyond_from : (d j : ℕ) (f : Cover → Cover) (ss : List Scope) → d + length ss ≤ j → at_depth j f (covers_from d ss) ≡ covers_from d ss
beyond_from d j f [] h = refl
beyond_from d j f (s ∷ ss) h =
    let c : Cover = cover_of d s in
    λ i. (if unequal d j (omega (arith, h)) i then f c else c) ∷ beyond_from (suc d) j f ss (omega (arith, h)) i

changed_from : (d j n : ℕ) (f : Cover → Cover) (ss : List Scope) (s t : Scope) → d + n ≡ j → slice_get ss n ≡ Some s → cover_of j t ≡ f (cover_of j s)
    → covers_from d (slice_set ss n t) ≡ at_depth j f (covers_from d ss)
changed_from d j n f [] s t q g h = absurd (cc g)
changed_from d j zero f (r ∷ ss) s t q g h =
    let p : d ≡ j = omega (arith, q) in
    let e : r ≡ s = cc g in
    let c : Cover = cover_of d r in
    λ i. (ap (λ (k : ℕ). cover_of k t) p ∙ h ∙ (λ k. f (cover_of (sym p k) (sym e k))) ∙ ap (λ (b : Bool). if b then f c else c) (sym ((Decides-eqb d j).1 p))) i
    ∷ sym (untouched (suc d) j f ss (omega (arith, q))) i
changed_from d j (suc n) f (r ∷ ss) s t q g h =
    let c : Cover = cover_of d r in
    λ i. ap (λ (b : Bool). if b then f c else c) (sym (unequal d j (omega (arith, q)))) i ∷ changed_from (suc d) j n f ss s t (omega (arith, q)) g h i

-- no cover has depth 0
pub none_outside : (j : ℕ) (f : Cover → Cover) (ss : List Scope) → j < 1 → covers_from 1 ss ≡ at_depth j f (covers_from 1 ss)
none_outside j f ss h = sym (untouched 1 j f ss h)

-- nor one past the innermost
pub none_inside : (j : ℕ) (f : Cover → Cover) (ss : List Scope) → 0 < j → length ss ≤ j - 1 → covers_from 1 ss ≡ at_depth j f (covers_from 1 ss)
none_inside j f ss p h = sym (beyond_from 1 j f ss (omega (arith, p, h)))

pub changed_at : (j : ℕ) (f : Cover → Cover) (ss : List Scope) (s t : Scope) → 0 < j → slice_get ss (j - 1) ≡ Some s → ((d : ℕ) → cover_of d t ≡ f (cover_of d s))
    → covers_from 1 (slice_set ss (j - 1) t) ≡ at_depth j f (covers_from 1 ss)
changed_at j f ss s t p g h = changed_from 1 j (j - 1) f ss s t (omega (arith, p)) g (h j)

-- ---- the innermost cover

pub none_last : (ss : List Scope) → length ss ≡ 0 → reverse (covers_from 1 ss) ≡ []
none_last [] h = refl
none_last (s ∷ ss) h = absurd (omega (arith, h))

pub last_is : (ss before : List Scope) (s : Scope) → ss ≡ before ++ s ∷ [] → reverse (covers_from 1 ss) ≡ cover_of (1 + length before) s ∷ reverse (covers_from 1 before)
last_is ss before s e =
    let n : ℕ = 1 + length before in
    ap (λ rs. reverse (covers_from 1 rs)) e ∙ ap reverse (more_from 1 n before s refl) ∙ reverse-append (covers_from 1 before) (cover_of n s ∷ [])

pub no_opening : (ss : List Scope) → length ss ≡ 0 → None ≡ opening_in (reverse (covers_from 1 ss))
no_opening ss h = sym (ap opening_in (none_last ss h))

pub opening_is : (ss before : List Scope) (s : Scope) → ss ≡ before ++ s ∷ [] → Some s.opening ≡ opening_in (reverse (covers_from 1 ss))
opening_is ss before s e = sym (ap opening_in (last_is ss before s e))

pub no_universals : (ss : List Scope) → length ss ≡ 0 → [] ≡ universals_in (reverse (covers_from 1 ss))
no_universals ss h = sym (ap universals_in (none_last ss h))

pub universals_are : (ss before : List Scope) (s : Scope) → ss ≡ before ++ s ∷ [] → listed s.universals ≡ universals_in (reverse (covers_from 1 ss))
universals_are ss before s e = sym (ap universals_in (last_is ss before s e))

pub none_universal : (ss : List Scope) → length ss ≡ 0 → false ≡ has_universals (reverse (covers_from 1 ss))
none_universal ss h = sym (ap has_universals (none_last ss h))

pub some_universal : (ss before : List Scope) (s : Scope) → ss ≡ before ++ s ∷ [] → not (is_empty (listed s.universals)) ≡ has_universals (reverse (covers_from 1 ss))
some_universal ss before s e = sym (ap has_universals (last_is ss before s e))

pub no_rest : (ss : List Scope) → length ss ≡ 0 → None ≡ next_in (reverse (covers_from 1 ss))
no_rest ss h = sym (ap next_in (none_last ss h))

pub rest_none : (ss before : List Scope) (s : Scope) → ss ≡ before ++ s ∷ [] → chained s.waiting ≡ [] → None ≡ next_in (reverse (covers_from 1 ss))
rest_none ss before s e w = sym (ap next_in (last_is ss before s e) ∙ ap (λ (rs : List Rest). first_of (map remainder_of rs)) w)

pub rest_is : (ss before : List Scope) (s : Scope) (r : Rest) (rs : List Rest) → ss ≡ before ++ s ∷ [] → chained s.waiting ≡ r ∷ rs → Some (remainder_of r) ≡ next_in (reverse (covers_from 1 ss))
rest_is ss before s r rs e w = sym (ap next_in (last_is ss before s e) ∙ ap (λ (qs : List Rest). first_of (map remainder_of qs)) w)

next_waits : (cs : List Cover) → is_some (next_in cs) ≡ waits cs
next_waits [] = refl
next_waits (c ∷ cs) = by c.waiting
  where
    by : (rs : List Remainder) → is_some (first_of rs) ≡ is_waiting rs
    by [] = refl
    by (r ∷ rs) = refl

pub some_waiting : (cs : List Cover) (r : Remainder) → Some r ≡ next_in cs → true ≡ waits cs
some_waiting cs r e = ap is_some e ∙ next_waits cs

pub none_waiting : (cs : List Cover) → None ≡ next_in cs → false ≡ waits cs
none_waiting cs e = ap is_some e ∙ next_waits cs

on_last_from : (d n : ℕ) (f : Cover → Cover) (ss : List Scope) (s t : Scope) → n ≡ length ss → ((k : ℕ) → cover_of k t ≡ f (cover_of k s))
    → covers_from d (slice_set (ss ++ s ∷ []) n t) ≡ on_last f (covers_from d (ss ++ s ∷ []))
on_last_from d zero f [] s t q h = ap (λ c. c ∷ []) (h d)
on_last_from d (suc n) f [] s t q h = absurd (omega (arith, q))
on_last_from d zero f (r ∷ ss) s t q h = absurd (omega (arith, q))
on_last_from d (suc n) f (r ∷ []) s t q h =
    let z : n ≡ 0 = omega (arith, q) in
    ap (λ (k : ℕ). cover_of d r ∷ covers_from (suc d) (slice_set (s ∷ []) k t)) z ∙ ap (λ c. cover_of d r ∷ c ∷ []) (h (suc d))
on_last_from d (suc n) f (r ∷ p ∷ ss) s t q h = ap (λ cs. cover_of d r ∷ cs) (on_last_from (suc d) n f (p ∷ ss) s t (omega (arith, q)) h)

pub last_changed : (f : Cover → Cover) (ss before : List Scope) (s t : Scope) (n : ℕ) → ss ≡ before ++ s ∷ [] → n ≡ length ss - 1 → ((k : ℕ) → cover_of k t ≡ f (cover_of k s))
    → covers_from 1 (slice_set ss n t) ≡ on_last f (covers_from 1 ss)
last_changed f ss before s t n e q h =
    let m : n ≡ length before = omega (arith, q, ap length e, length-append before (s ∷ [])) in
    ap (λ rs. covers_from 1 (slice_set rs n t)) e ∙ on_last_from 1 n f before s t m h ∙ ap (λ rs. on_last f (covers_from 1 rs)) (sym e)

kept_from : (d : ℕ) (f : Cover → Cover) (ss : List Scope) (s : Scope) → ((k : ℕ) → f (cover_of k s) ≡ cover_of k s) → covers_from d (ss ++ s ∷ []) ≡ on_last f (covers_from d (ss ++ s ∷ []))
kept_from d f [] s h = ap (λ c. c ∷ []) (sym (h d))
kept_from d f (r ∷ []) s h = ap (λ c. cover_of d r ∷ c ∷ []) (sym (h (suc d)))
kept_from d f (r ∷ p ∷ ss) s h = ap (λ cs. cover_of d r ∷ cs) (kept_from (suc d) f (p ∷ ss) s h)

-- nothing changes where the last stays
pub last_kept : (f : Cover → Cover) (ss before : List Scope) (s : Scope) → ss ≡ before ++ s ∷ [] → ((k : ℕ) → f (cover_of k s) ≡ cover_of k s) → covers_from 1 ss ≡ on_last f (covers_from 1 ss)
last_kept f ss before s e h = ap (covers_from 1) e ∙ kept_from 1 f before s h ∙ ap (λ rs. on_last f (covers_from 1 rs)) (sym e)

pub none_changed : (f : Cover → Cover) (ss : List Scope) → length ss ≡ 0 → covers_from 1 ss ≡ on_last f (covers_from 1 ss)
none_changed f [] h = refl
none_changed f (s ∷ ss) h = absurd (omega (arith, h))

-- ---- at the latest mark

pub covers_latest : (ss : List Scope) (sss : List (List Scope)) → covers_from 1 (latest ss sss) ≡ latest (covers_from 1 ss) (map (covers_from 1) sss)
covers_latest ss [] = refl
covers_latest ss (rs ∷ sss) = refl

pub covers_earlier : (sss : List (List Scope)) → map (covers_from 1) (earlier sss) ≡ earlier (map (covers_from 1) sss)
covers_earlier [] = refl
covers_earlier (rs ∷ sss) = refl

pub still_marked : (sss : List (List Scope)) → is_marked (map (covers_from 1) sss) ≡ is_marked sss
still_marked [] = refl
still_marked (rs ∷ sss) = refl
