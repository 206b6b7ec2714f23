-- The place of a text that a table has not.
use Rattle.std.proofs.Common.{◌≡◌, ℕ, length, Bool, true, false, ◌||◌, List, [], ◌∷◌, refl, arith}
use Rattle.std.specs.Str.{bytes_eq}
use Rattle.scasp_name.specs.Texts.{has_text}
use Rattle.scasp_reader_terms.specs.Names.{place_in}

pub place_in-absent : (names : List (List ℕ)) (text : List ℕ) → has_text names text ≡ false → length names ≡ place_in names text
place_in-absent [] text h = refl
place_in-absent (t ∷ names) text h = by (bytes_eq text t) refl h (place_in-absent names text)
  where
    by : (b : Bool) → bytes_eq text t ≡ b → (b || has_text names text) ≡ false → (has_text names text ≡ false → length names ≡ place_in names text)
        → length (t ∷ names) ≡ place_in (t ∷ names) text
    by true q g k = cc
    by false q g k = let e = k g in rw q (omega (arith, e))
