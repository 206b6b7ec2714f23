-- Places of items, and the items at places.
use Rattle.std.proofs.Common.{◌≡◌, ℕ, suc, ◌<◌, Bool, true, false, ◌&&◌, ◌||◌, cond, if◌then◌else◌, List, [], ◌∷◌, ◌++◌, length, map, filter, Option, None, Some, slice_get, refl, sym, ap, ◌∙◌, arith}
use Rattle.std.specs.List.{cons_option, filter_map, last_or, list_any}
use Rattle.std.proofs.lemmas.Bool.{false_from_ne_true, false≢true, ne_eqb}
use Rattle.std.proofs.lemmas.List.{map-append}
use Rattle.scasp_diseq.specs.Inside.Indexed.{AreBelow, places_where}
use Rattle.scasp_diseq.specs.Inside.Noting.{ends_with, is_some_of}

-- ---- places

pub places_where-more : {A : Type 0} (q : A → Bool) (xs : List A) (x : A) → places_where q (xs ++ x ∷ []) ≡ places_where q xs ++ (if q x then length xs ∷ [] else [])
places_where-more q [] x = refl
places_where-more q (z ∷ zs) x = ap (λ ps. if q z then 0 ∷ map suc ps else map suc ps) (places_where-more q zs x) ∙ by (q z) (q x)
  where
    by : (a b : Bool) → (if a then 0 ∷ map suc (places_where q zs ++ (if b then length zs ∷ [] else [])) else map suc (places_where q zs ++ (if b then length zs ∷ [] else [])))
        ≡ (if a then 0 ∷ map suc (places_where q zs) else map suc (places_where q zs)) ++ (if b then suc (length zs) ∷ [] else [])
    by true true = ap (λ l. 0 ∷ l) (map-append suc (places_where q zs) (length zs ∷ []))
    by true false = ap (λ l. 0 ∷ l) (map-append suc (places_where q zs) [])
    by false true = map-append suc (places_where q zs) (length zs ∷ [])
    by false false = map-append suc (places_where q zs) []

below-suc : (n : ℕ) (ps : List ℕ) → AreBelow n ps → AreBelow (suc n) (map suc ps)
below-suc n [] h = tt
below-suc n (p ∷ ps) h = (omega (arith, h.0), below-suc n ps h.1)

pub below-where : {A : Type 0} (q : A → Bool) (xs : List A) → AreBelow (length xs) (places_where q xs)
below-where q [] = tt
below-where q (x ∷ xs) = by (below-where q xs) (q x)
  where
    by : AreBelow (length xs) (places_where q xs) → (b : Bool) → AreBelow (suc (length xs)) (if b then 0 ∷ map suc (places_where q xs) else map suc (places_where q xs))
    by h true = (omega arith, below-suc (length xs) (places_where q xs) h)
    by h false = below-suc (length xs) (places_where q xs) h

pub below-parts : (n : ℕ) (ps : List ℕ) (p : ℕ) → AreBelow n (ps ++ p ∷ []) → AreBelow n ps × (p < n)
below-parts n [] p h = (tt, h.0)
below-parts n (q ∷ qs) p h = let r = below-parts n qs p h.1 in ((h.0, r.0), r.1)

pub ends-below : (n : ℕ) (ps : List ℕ) → AreBelow n ps → ends_with n ps ≡ false
ends-below n ps h = by None ps refl h
  where
    by : (o : Option ℕ) (ps : List ℕ) → is_some_of n o ≡ false → AreBelow n ps → is_some_of n (last_or o ps) ≡ false
    by o [] e h = e
    by o (p ∷ ps) e h = by (Some p) ps (ne_eqb p n (λ s. absurd (omega (arith, h.0, s)))) h.1

-- ---- the items at places

picked-later : {A : Type 0} (x : A) (xs : List A) (ps : List ℕ) → filter_map (slice_get (x ∷ xs)) (map suc ps) ≡ filter_map (slice_get xs) ps
picked-later x xs [] = refl
picked-later x xs (p ∷ ps) = ap (cons_option (slice_get xs p)) (picked-later x xs ps)

pub picked-where : {A : Type 0} (q : A → Bool) (xs : List A) → filter_map (slice_get xs) (places_where q xs) ≡ filter q xs
picked-where q [] = refl
picked-where q (x ∷ xs) = by (picked-later x xs (places_where q xs) ∙ picked-where q xs) (q x)
  where
    by : filter_map (slice_get (x ∷ xs)) (map suc (places_where q xs)) ≡ filter q xs → (b : Bool) → filter_map (slice_get (x ∷ xs)) (if b then 0 ∷ map suc (places_where q xs) else map suc (places_where q xs)) ≡ cond b (x ∷ filter q xs) (filter q xs)
    by rest true = ap (λ l. x ∷ l) rest
    by rest false = rest

-- ---- tests of the items that pass another one

pub filter-filter : {A : Type 0} (p q r : A → Bool) → ((x : A) → (q x && p x) ≡ r x) → (xs : List A) → filter p (filter q xs) ≡ filter r xs
filter-filter p q r h [] = refl
filter-filter p q r h (x ∷ xs) = by (filter-filter p q r h xs) (q x) refl
  where
    by : filter p (filter q xs) ≡ filter r xs → (b : Bool) → q x ≡ b → filter p (cond (q x) (x ∷ filter q xs) (filter q xs)) ≡ cond (r x) (x ∷ filter r xs) (filter r xs)
    by rest true e =
        let same : p x ≡ r x = sym (ap (λ c. c && p x) e) ∙ h x in
        ap (λ c. filter p (cond c (x ∷ filter q xs) (filter q xs))) e
        ∙ ap (λ c. cond c (x ∷ filter p (filter q xs)) (filter p (filter q xs))) same
        ∙ ap (λ l. cond (r x) (x ∷ l) l) rest
    by rest false e =
        let same : r x ≡ false = sym (h x) ∙ ap (λ c. c && p x) e in
        ap (λ c. filter p (cond c (x ∷ filter q xs) (filter q xs))) e
        ∙ rest
        ∙ sym (ap (λ c. cond c (x ∷ filter r xs) (filter r xs)) same)

pub any-filter : {A : Type 0} (p q : A → Bool) → ((x : A) → p x ≡ true → q x ≡ true) → (xs : List A) → list_any p (filter q xs) ≡ list_any p xs
any-filter p q h [] = refl
any-filter p q h (x ∷ xs) = by (any-filter p q h xs) (q x) refl
  where
    by : list_any p (filter q xs) ≡ list_any p xs → (b : Bool) → q x ≡ b → list_any p (cond (q x) (x ∷ filter q xs) (filter q xs)) ≡ (p x || list_any p xs)
    by rest true e = ap (λ c. list_any p (cond c (x ∷ filter q xs) (filter q xs))) e ∙ ap (λ c. p x || c) rest
    by rest false e =
        let not_it : p x ≡ false = false_from_ne_true (p x) (λ s. false≢true (sym e ∙ h x s)) in
        ap (λ c. list_any p (cond c (x ∷ filter q xs) (filter q xs))) e ∙ rest ∙ sym (ap (λ c. c || list_any p xs) not_it)
