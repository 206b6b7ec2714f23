-- Names have their texts in the table, and these texts their places.
use Rattle.std.proofs.Common.{◌≡◌, ℕ, zero, suc, ◌+◌, Bool, true, false, cond, ◌||◌, nat_lt, List, [], ◌∷◌, length, refl, sym, ap, ◌∙◌, arith, add-one}
use Rattle.std.specs.List.{list_any}
use Rattle.std.specs.Str.{IsUtf8, bytes_eq}
use Rattle.std.proofs.lemmas.Bool.{false≢true}
use Rattle.std.proofs.lemmas.Slice.Eq.{bytes_eq-Decides}
use Rattle.std.proofs.lemmas.Bool.Decides.{nat_tests}
use Rattle.scasp_list.specs.Each.{Each}
use Rattle.scasp_name.specs.Texts.{has_text, AreDistinct}
use Rattle.scasp_cert.specs.Text.Names.{text_at}
use Rattle.scasp_reader_terms.specs.Names.{place_in}
use Rattle.scasp_law_answer_text.specs.LineReadback.Writable.{IsTable}

none-below : (f : ℕ) → nat_lt f 0 ≡ true → ⊥
none-below f h = grind (arith, nat_tests)

one-below : (f n : ℕ) → nat_lt (suc f) (suc n) ≡ true → nat_lt f n ≡ true
one-below f n h = grind (arith, nat_tests)

utf8-at : (names : List (List ℕ)) (f : ℕ) → Each IsUtf8 names → nat_lt f (length names) ≡ true → IsUtf8 (text_at names f)
utf8-at [] f u h = absurd (none-below f h)
utf8-at (t ∷ names) zero u h = u.0
utf8-at (t ∷ names) (suc f) u h = utf8-at names f u.1 (one-below f (length names) h)

false-parts : (a b : Bool) → (a || b) ≡ false → (a ≡ false) × (b ≡ false)
false-parts true b e = absurd (false≢true (sym e))
false-parts false b e = (refl, e)

-- the text of a later place is another one
other-text : (t : List ℕ) (names : List (List ℕ)) (f : ℕ) → has_text names t ≡ false → nat_lt f (length names) ≡ true → bytes_eq t (text_at names f) ≡ false
other-text t [] f e h = absurd (none-below f h)
other-text t (u ∷ names) zero e h = (false-parts (bytes_eq t u) (list_any (bytes_eq t) names) e).0
other-text t (u ∷ names) (suc f) e h = other-text t names f (false-parts (bytes_eq t u) (list_any (bytes_eq t) names) e).1 (one-below f (length names) h)

pub turned : (a b : List ℕ) → bytes_eq a b ≡ false → bytes_eq b a ≡ false
turned a b e = by (bytes_eq b a) refl
  where
    by : (t : Bool) → bytes_eq b a ≡ t → bytes_eq b a ≡ false
    by false h = h
    by true h = let same : a ≡ b = sym ((bytes_eq-Decides b a).0 h) in absurd (false≢true (sym e ∙ (bytes_eq-Decides a b).1 same))

pub place-at : (names : List (List ℕ)) (f : ℕ) → AreDistinct names → nat_lt f (length names) ≡ true → place_in names (text_at names f) ≡ f
place-at [] f d h = absurd (none-below f h)
place-at (t ∷ names) zero d h = let e : bytes_eq t t ≡ true = (bytes_eq-Decides t t).1 refl in rw e refl
place-at (t ∷ names) (suc f) d h =
    let below = one-below f (length names) h in
    let e : bytes_eq (text_at names f) t ≡ false = turned t (text_at names f) (other-text t names f d.0 below) in
    rw e (ap (λ n. n + 1) (place-at names f d.1 below) ∙ add-one f)

pub text-utf8 : (names : List (List ℕ)) → IsTable names → (f : ℕ) → nat_lt f (length names) ≡ true → IsUtf8 (text_at names f)
text-utf8 names t f h = utf8-at names f t.utf8 h

pub text-place : (names : List (List ℕ)) → IsTable names → (f : ℕ) → nat_lt f (length names) ≡ true → place_in names (text_at names f) ≡ f
text-place names t f h = place-at names f t.distinct h
