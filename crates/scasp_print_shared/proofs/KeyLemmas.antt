-- Keys as lists of numbers: two are the same where their words and their classes are.
use Rattle.std.proofs.Common.{◌≡◌, ◌∙◌, ℕ, Bool, true, false, ◌&&◌, List, [], ◌∷◌, ◌++◌, length, refl, sym, arith}
use Rattle.std.specs.Str.{bytes_eq}
use Rattle.std.proofs.lemmas.Bool.{true≢false, and_from, and_parts, false_from_ne_true}
use Rattle.std.proofs.lemmas.Slice.Eq.{bytes_eq-Decides}
use Rattle.scasp_print_shared.specs.Inside.Keys.{numbers}

front-same : (a b c d : List ℕ) → length a ≡ length b → a ++ c ≡ b ++ d → (a ≡ b) × (c ≡ d)
front-same [] [] c d n e = (refl, e)
front-same [] (y ∷ b) c d n e = absurd (omega (arith, n))
front-same (x ∷ a) [] c d n e = absurd (omega (arith, n))
front-same (x ∷ a) (y ∷ b) c d n e =
    let first : x ≡ y = cc in
    let others : a ++ c ≡ b ++ d = cc in
    let r = front-same a b c d (omega (arith, n)) others in
    (λ j. first j ∷ r.0 j, r.1)

same-parts : (a b c d : List ℕ) → numbers a c ≡ numbers b d → (a ≡ b) × (c ≡ d)
same-parts a b c d e =
    let n : length a ≡ length b = cc in
    let t : a ++ c ≡ b ++ d = cc in
    front-same a b c d n t

pub equal-parts : (a b c d : List ℕ) → bytes_eq (numbers a c) (numbers b d) ≡ (bytes_eq a b && bytes_eq c d)
equal-parts a b c d = by (bytes_eq a b && bytes_eq c d) refl
  where
    by : (t : Bool) → (bytes_eq a b && bytes_eq c d) ≡ t → bytes_eq (numbers a c) (numbers b d) ≡ t
    by true q =
        let p = and_parts (bytes_eq a b) (bytes_eq c d) q in
        let words = (bytes_eq-Decides a b).0 p.0 in
        let classes = (bytes_eq-Decides c d).0 p.1 in
        (bytes_eq-Decides (numbers a c) (numbers b d)).1 (λ j. numbers (words j) (classes j))
    by false q =
        false_from_ne_true (bytes_eq (numbers a c) (numbers b d))
        (λ h.
        let p = same-parts a b c d ((bytes_eq-Decides (numbers a c) (numbers b d)).0 h) in
        let both = and_from (bytes_eq a b) (bytes_eq c d) ((bytes_eq-Decides a b).1 p.0) ((bytes_eq-Decides c d).1 p.1) in
        true≢false (sym both ∙ q))
