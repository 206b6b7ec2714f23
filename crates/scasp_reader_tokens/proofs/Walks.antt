-- A walk along bytes, a place after the other: `rest` are the bytes from the place on.
use Rattle.std.proofs.Common.{◌≡◌, ℕ, ◌+◌, ◌<◌, ◌≤◌, List, length, drop, Option, None, Some, refl, sym, ap, ◌∙◌, arith, length-drop}
use Rattle.std.proofs.lemmas.List.{drop-drop}
use Rattle.scasp_reader_tokens.specs.Bytes.{farther}

pub farther-farther : (m n : ℕ) (o : Option ℕ) → farther m (farther n o) ≡ farther (m + n) o
farther-farther m n None = refl
farther-farther m n (Some k) = let e : k + n + m ≡ k + (m + n) = omega arith in ap (λ x. Some x) e

pub farther-zero : (o : Option ℕ) → farther 0 o ≡ o
farther-zero None = refl
farther-zero (Some k) = let e : k + 0 ≡ k = omega arith in ap (λ x. Some x) e

module _ (bytes rest : List ℕ) (at : ℕ) (is_rest : rest ≡ drop at bytes) where
  pub some_left : at < length bytes → 0 < length rest
  some_left h = omega (arith, ap length is_rest, length-drop at bytes)

  pub all_left : length rest ≤ length bytes
  all_left = omega (arith, ap length is_rest, length-drop at bytes)

  pub drop-rest : (n : ℕ) → drop n rest ≡ drop (at + n) bytes
  drop-rest n = ap (drop n) is_rest ∙ drop-drop n at bytes

  module _ (F : List ℕ → Option ℕ) (p : ℕ) (whole : Option ℕ) (known : farther p (F (drop at bytes)) ≡ whole) where
    -- what stands n bytes on is n bytes farther from a place before
    pub walk : (n : ℕ) → F rest ≡ farther n (F (drop n rest)) → farther (p + n) (F (drop (at + n) bytes)) ≡ whole
    walk n e =
        ap (λ r. farther (p + n) (F r)) (sym (drop-rest n)) ∙ sym (farther-farther p n (F (drop n rest))) ∙ ap (farther p) (sym e ∙ ap F is_rest) ∙ known

    -- what stands here
    pub found : F rest ≡ Some 0 → Some p ≡ whole
    found e = let z : p ≡ 0 + p = omega arith in ap (λ x. Some x) z ∙ ap (farther p) (sym e ∙ ap F is_rest) ∙ known

    pub nowhere : F rest ≡ None → None ≡ whole
    nowhere e = ap (farther p) (sym e ∙ ap F is_rest) ∙ known
