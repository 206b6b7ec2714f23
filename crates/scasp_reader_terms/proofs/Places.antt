-- The place of a text in a table.
use Rattle.std.proofs.Common.{◌≡◌, ℕ, ◌<◌, ◌+◌, length, get_or, drop, zero, suc, Bool, true, false, ◌||◌, List, [], ◌∷◌, ◌++◌, slice_get, Some, refl, sym, ap, ◌∙◌, arith, true≢false, if◌then◌else◌}
use Rattle.std.specs.List.{position_from}
use Rattle.std.specs.Str.{bytes_eq}
use Rattle.std.proofs.lemmas.List.{at_drop_more}
use Rattle.std.proofs.lemmas.Slice.Eq.{bytes_eq-Decides}
use Rattle.scasp_name.specs.Texts.{has_text, with_text, AreDistinct}
use Rattle.scasp_name.proofs.TextLemmas.{has_text-at}
use Rattle.scasp_reader_terms.specs.Names.{place_in}

bytes_eq-self : (text : List ℕ) → bytes_eq text text ≡ true
bytes_eq-self text = (bytes_eq-Decides text text).1 refl

-- where texts are distinct, the place at which a text stands is its place
pub place_in-at : (names : List (List ℕ)) (text : List ℕ) (i : ℕ) → AreDistinct names → slice_get names i ≡ Some text → i ≡ place_in names text
place_in-at [] text i d e = cc
place_in-at (t ∷ names) text zero d e = let same : t ≡ text = cc in rw same (rw (bytes_eq-self text) refl)
place_in-at (t ∷ names) text (suc i) d e = by (bytes_eq text t) refl (place_in-at names text i d.1 e)
  where
    by : (b : Bool) → bytes_eq text t ≡ b → i ≡ place_in names text → suc i ≡ (if bytes_eq text t then 0 else place_in names text + 1)
    by true q h =
        let same : text ≡ t = (bytes_eq-Decides text t).0 q in
        absurd (true≢false (sym (has_text-at names t i (rw (sym same) e)) ∙ d.0))
    by false q h = rw q (omega arith)

-- a new text stands behind all others
place_in-push : (names : List (List ℕ)) (text : List ℕ) → has_text names text ≡ false → place_in (names ++ text ∷ []) text ≡ place_in names text
place_in-push [] text h = rw (bytes_eq-self text) refl
place_in-push (t ∷ names) text h = by (bytes_eq text t) refl h (place_in-push names text)
  where
    by : (b : Bool) → bytes_eq text t ≡ b → (b || has_text names text) ≡ false → (has_text names text ≡ false → place_in (names ++ text ∷ []) text ≡ place_in names text)
        → place_in (t ∷ names ++ text ∷ []) text ≡ place_in (t ∷ names) text
    by true q g h = cc
    by false q g h = rw q (ap (λ n. n + 1) (h g))

pub place_in-with_text : (names : List (List ℕ)) (text : List ℕ) → place_in (with_text names text) text ≡ place_in names text
place_in-with_text names text = by (has_text names text) refl
  where
    by : (b : Bool) → has_text names text ≡ b → place_in (with_text names text) text ≡ place_in names text
    by true q = rw q refl
    by false q = rw q (place_in-push names text q)

-- the text of a variable is not this one, or it is
module _ (text : List ℕ) (variables : List (List ℕ)) (i : ℕ) (below : i < length variables) where
  pub position_from-passed : bytes_eq text (get_or variables i []) ≡ false → position_from (bytes_eq text) i (drop i variables) ≡ position_from (bytes_eq text) (i + 1) (drop (i + 1) variables)
  position_from-passed e = at_drop_more (position_from (bytes_eq text) i) variables i [] below ∙ rw e refl

  pub position_from-found : bytes_eq text (get_or variables i []) ≡ true → position_from (bytes_eq text) i (drop i variables) ≡ Some i
  position_from-found e = at_drop_more (position_from (bytes_eq text) i) variables i [] below ∙ rw e refl
