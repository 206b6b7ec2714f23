-- Lists of keys that are read as texts, as a table keeps them.
use Rattle.std.proofs.Common.{◌≡◌, ℕ, ◌<◌, zero, suc, Bool, true, false, ◌||◌, List, [], ◌∷◌, ◌++◌, length, get_or, map, slice_get, position, Some, length-append, refl, sym, ap, ◌∙◌, arith, true≢false, if◌then◌else◌}
use Rattle.std.specs.List.{list_any, IsDistinct, AllByRecursion}
use Rattle.std.specs.Str.{bytes_eq}
use Rattle.std.proofs.lemmas.Slice.Eq.{bytes_eq-Decides}
use Rattle.std.proofs.lemmas.Option.{slice_get-map, slice_get-get_or, slice_get_within}
use Rattle.std.proofs.lemmas.List.Quantifiers.{position-Some}
use Rattle.std.proofs.Math.ListN.{get_or-append}
use Rattle.std.specs.Option.{option_map}
use Rattle.scasp_name.specs.Texts.{has_text, with_text, AreDistinct, BeginWithLists}

module _ {K : Type 0} (read : K → List ℕ) where
  pub has_text-map : (keys : List K) (text : List ℕ) → has_text (map read keys) text ≡ list_any (λ k. bytes_eq text (read k)) keys
  has_text-map [] text = refl
  has_text-map (k ∷ keys) text = ap (λ b. bytes_eq text (read k) || b) (has_text-map keys text)

  -- the key at the place that a test for the text finds has that text
  pub text_at-position : (keys : List K) (text : List ℕ) (i : ℕ) → position (λ k. bytes_eq text (read k)) keys ≡ Some i → slice_get (map read keys) i ≡ Some text
  text_at-position [] text i e = cc
  text_at-position (k ∷ keys) text i e =
      let p = position-Some (λ x. bytes_eq text (read x)) (k ∷ keys) i k e in
      let same = (bytes_eq-Decides text (read (get_or (k ∷ keys) i k))).0 p.1 in
      slice_get-map read (k ∷ keys) i ∙ ap (option_map read) (slice_get-get_or (k ∷ keys) i k p.0) ∙ ap Some (sym same)

  -- a key that is stored for the text has that text
  pub text_at-stored : (keys : List K) (text : List ℕ) (i : ℕ) (k : K) → slice_get keys i ≡ Some k → bytes_eq text (read k) ≡ true → slice_get (map read keys) i ≡ Some text
  text_at-stored keys text i k at e =
      slice_get-map read keys i ∙ ap (option_map read) at ∙ ap Some (sym ((bytes_eq-Decides text (read k)).0 e))

  map-push : (keys : List K) (k : K) → map read (keys ++ k ∷ []) ≡ map read keys ++ read k ∷ []
  map-push [] k = refl
  map-push (x ∷ keys) k = ap (λ l. read x ∷ l) (map-push keys k)

  -- an insert among the keys is one among the texts
  pub with_text-map : (keys : List K) (k : K) → map read (if list_any (λ x. bytes_eq (read k) (read x)) keys then keys else keys ++ k ∷ []) ≡ with_text (map read keys) (read k)
  with_text-map keys k = by (list_any (λ x. bytes_eq (read k) (read x)) keys) refl (has_text-map keys (read k))
    where
      by : (b : Bool) → list_any (λ x. bytes_eq (read k) (read x)) keys ≡ b → has_text (map read keys) (read k) ≡ list_any (λ x. bytes_eq (read k) (read x)) keys
          → map read (if list_any (λ x. bytes_eq (read k) (read x)) keys then keys else keys ++ k ∷ []) ≡ with_text (map read keys) (read k)
      by true e h = rw (h, e) refl
      by false e h = rw (h, e) (map-push keys k)

  distinct_head : (k : K) (keys : List K) → AllByRecursion (λ x. bytes_eq (read k) (read x) ≡ false) keys → has_text (map read keys) (read k) ≡ false
  distinct_head k [] h = refl
  distinct_head k (x ∷ keys) h = rw h.0 (distinct_head k keys h.1)

  pub AreDistinct-map : (keys : List K) → IsDistinct (λ a b. bytes_eq (read a) (read b)) keys → AreDistinct (map read keys)
  unfolding IsDistinct
  AreDistinct-map [] h = tt
  AreDistinct-map (k ∷ keys) h = (distinct_head k keys h.0, AreDistinct-map keys h.1)

-- old places keep their texts
pub slice_get-with_text : (texts : List (List ℕ)) (text : List ℕ) (i : ℕ) → i < length texts → slice_get (with_text texts text) i ≡ slice_get texts i
slice_get-with_text texts text i h = by (has_text texts text) refl
  where
    grown : slice_get (texts ++ text ∷ []) i ≡ slice_get texts i
    grown =
        slice_get-get_or (texts ++ text ∷ []) i text (omega (arith, length-append texts (text ∷ []))) ∙ ap Some (get_or-append texts (text ∷ []) text i h) ∙ sym (slice_get-get_or texts i text h)

    by : (b : Bool) → has_text texts text ≡ b → slice_get (with_text texts text) i ≡ slice_get texts i
    by true e = rw e refl
    by false e = rw e grown

-- the names of lists keep their places
pub BeginWithLists-with_text : (texts : List (List ℕ)) (text : List ℕ) → BeginWithLists texts → BeginWithLists (with_text texts text)
BeginWithLists-with_text texts text h = record {
  nil = slice_get-with_text texts text 0 (slice_get_within texts 0 _ h.nil) ∙ h.nil;
  pair = slice_get-with_text texts text 1 (slice_get_within texts 1 _ h.pair) ∙ h.pair;
}

-- a text that stands at a place is in the table
pub has_text-at : (texts : List (List ℕ)) (text : List ℕ) (i : ℕ) → slice_get texts i ≡ Some text → has_text texts text ≡ true
has_text-at [] text i e = cc
has_text-at (t ∷ texts) text zero e = let same : t ≡ text = cc in rw same (rw ((bytes_eq-Decides text text).1 refl) refl)
has_text-at (t ∷ texts) text (suc i) e = rw (has_text-at texts text i e) (or_true (bytes_eq text t))
  where
    or_true : (b : Bool) → (b || true) ≡ true
    or_true true = refl
    or_true false = refl

-- such a text is not added
pub with_text-at : (texts : List (List ℕ)) (text : List ℕ) (i : ℕ) → slice_get texts i ≡ Some text → texts ≡ with_text texts text
with_text-at texts text i e = rw (has_text-at texts text i e) refl

-- where texts are distinct, a text has one place
pub place_of_text : (texts : List (List ℕ)) (text : List ℕ) (i j : ℕ) → AreDistinct texts → slice_get texts i ≡ Some text → slice_get texts j ≡ Some text → i ≡ j
place_of_text [] text i j h p q = cc
place_of_text (t ∷ texts) text zero zero h p q = refl
place_of_text (t ∷ texts) text zero (suc j) h p q =
    let same : t ≡ text = cc in absurd (true≢false (sym (has_text-at texts t j (rw same q)) ∙ h.0))
place_of_text (t ∷ texts) text (suc i) zero h p q =
    let same : t ≡ text = cc in absurd (true≢false (sym (has_text-at texts t i (rw same p)) ∙ h.0))
place_of_text (t ∷ texts) text (suc i) (suc j) h p q = ap suc (place_of_text texts text i j h.1 p q)

-- so equal texts below the length have equal places
pub same_place : (texts : List (List ℕ)) (i j : ℕ) → AreDistinct texts → i < length texts → slice_get texts i ≡ slice_get texts j → i ≡ j
same_place texts i j h below e =
    let at = slice_get-get_or texts i [] below in
    place_of_text texts (get_or texts i []) i j h at (sym e ∙ at)
