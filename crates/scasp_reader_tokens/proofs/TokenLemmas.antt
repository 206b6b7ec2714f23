-- All tokens, one front after the other.
use Rattle.std.proofs.Common.{◌≡◌, ℕ, zero, suc, ◌+◌, ◌-◌, ◌<◌, ◌≤◌, List, [], ◌∷◌, ◌++◌, length, drop, refl, sym, ap, ◌∙◌, arith, append_assoc}
use Rattle.std.proofs.lemmas.List.{drop-drop}
use Rattle.scasp_reader_tokens.specs.declared.token.Token.{Token}
use Rattle.scasp_reader_tokens.specs.declared.token.Placed.{Placed}
use Rattle.scasp_reader_tokens.specs.declared.token.Front.{Front}
use Rattle.scasp_reader_tokens.specs.declared.token.Front.TheVariants.{Gap, Found}
use Rattle.scasp_reader_tokens.specs.Tokens.{front, placed, tokens_from, tokens_behind, tokens_of}

pub tokens_of-is : (bytes : List ℕ) → tokens_behind 0 0 bytes ≡ tokens_of bytes
unfolding tokens_of
tokens_of-is bytes = refl

tokens_behind-skip : (bytes : List ℕ) (n at : ℕ) → n ≤ length bytes → tokens_behind n at bytes ≡ tokens_behind 0 (at + n) (drop n bytes)
tokens_behind-skip [] zero at h = let e : at ≡ at + 0 = omega arith in ap (λ a. tokens_behind 0 a []) e
tokens_behind-skip [] (suc n) at h = absurd (omega arith)
tokens_behind-skip (b ∷ bytes) zero at h = let e : at ≡ at + 0 = omega arith in ap (λ a. tokens_behind 0 a (b ∷ bytes)) e
tokens_behind-skip (b ∷ bytes) (suc n) at h =
    let e : at + 1 + n ≡ at + suc n = omega arith in
    let left : n ≤ length bytes = omega arith in
    tokens_behind-skip bytes n (at + 1) left ∙ ap (λ a. tokens_behind 0 a (drop n bytes)) e

-- those behind the n bytes of a front
after : (b : ℕ) (bytes : List ℕ) (n at : ℕ) → 0 < n → n ≤ length (b ∷ bytes) → tokens_behind (n - 1) (at + 1) bytes ≡ tokens_behind 0 (at + n) (drop n (b ∷ bytes))
after b bytes zero at some h = absurd (omega arith)
after b bytes (suc n) at some h = let e : suc n - 1 ≡ n = omega arith in ap (λ k. tokens_behind k (at + 1) bytes) e ∙ tokens_behind-skip (b ∷ bytes) (suc n) at h

-- what `front` gives decides the tokens
first : (b : ℕ) (bytes : List ℕ) (at : ℕ) (f : Front) → f ≡ front (b ∷ bytes) → tokens_behind 0 at (b ∷ bytes) ≡ tokens_from at f (λ n. tokens_behind (n - 1) (at + 1) bytes)
first b bytes at f e = ap (λ x. tokens_from at x (λ n. tokens_behind (n - 1) (at + 1) bytes)) (sym e)

module _ (bytes rest : List ℕ) (at : ℕ) (is_rest : rest ≡ drop at bytes) (tokens all : List Placed) (known : tokens ++ tokens_behind 0 at (drop at bytes) ≡ all) where
  at_rest : tokens ++ tokens_behind 0 at rest ≡ all
  at_rest = ap (λ r. tokens ++ tokens_behind 0 at r) is_rest ∙ known

  onward : (n : ℕ) → tokens_behind 0 (at + n) (drop n rest) ≡ tokens_behind 0 (at + n) (drop (at + n) bytes)
  onward n = ap (tokens_behind 0 (at + n)) (ap (drop n) is_rest ∙ drop-drop n at bytes)

  gap_in : (r : List ℕ) (n : ℕ) → Gap n ≡ front r → 0 < n → n ≤ length r → tokens_behind 0 at r ≡ tokens_behind 0 (at + n) (drop n r)
  gap_in [] n e some h = absurd (omega arith)
  gap_in (b ∷ r) n e some h = first b r at (Gap n) e ∙ after b r n at some h

  pub tokens-gap : (n : ℕ) → Gap n ≡ front rest → 0 < n → n ≤ length rest → tokens ++ tokens_behind 0 (at + n) (drop (at + n) bytes) ≡ all
  tokens-gap n e some h = ap (λ r. tokens ++ r) (sym (onward n) ∙ sym (gap_in rest n e some h)) ∙ at_rest

  found_in : (r : List ℕ) (t : Token) (n : ℕ) → Found t n ≡ front r → 0 < n → n ≤ length r → tokens_behind 0 at r ≡ placed at t ∷ tokens_behind 0 (at + n) (drop n r)
  found_in [] t n e some h = absurd (omega arith)
  found_in (b ∷ r) t n e some h = first b r at (Found t n) e ∙ ap (λ ts. placed at t ∷ ts) (after b r n at some h)

  pub tokens-found : (t : Token) (n : ℕ) → Found t n ≡ front rest → 0 < n → n ≤ length rest → (tokens ++ placed at t ∷ []) ++ tokens_behind 0 (at + n) (drop (at + n) bytes) ≡ all
  tokens-found t n e some h =
      append_assoc tokens (placed at t ∷ []) _ ∙ ap (λ r. tokens ++ placed at t ∷ r) (sym (onward n)) ∙ ap (λ r. tokens ++ r) (sym (found_in rest t n e some h)) ∙ at_rest
