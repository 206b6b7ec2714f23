-- The tokens of bytes, one front after the other.
use Rattle.std.proofs.Common.{◌≡◌, ◌<◌, ◌≤◌, ℕ, zero, suc, ◌+◌, false, List, [], ◌∷◌, drop, length, Some, refl, ap, ◌∙◌, add-one, arith}
use Rattle.scasp_answers_terms.specs.Tokens.Tokens.{Front, front_at, first_front, tokens_from, tokens_in}
use Rattle.scasp_answers_terms.specs.Tokens.View.{first_token, is_over}

pub tokens-skip : (n : ℕ) (bytes : List ℕ) → tokens_from n bytes ≡ tokens_in (drop n bytes)
unfolding tokens_in
tokens-skip zero [] = refl
tokens-skip (suc n) [] = refl
tokens-skip zero (b ∷ bs) = refl
tokens-skip (suc n) (b ∷ bs) = tokens-skip n bs

pub tokens-none : (bytes : List ℕ) → length bytes < 1 → tokens_in bytes ≡ []
unfolding tokens_in
tokens-none [] h = refl
tokens-none (b ∷ bs) h = absurd (omega arith)

pub tokens-some : (bytes : List ℕ) → 1 ≤ length bytes → is_over (tokens_in bytes) ≡ false
unfolding tokens_in
tokens-some [] h = absurd (omega arith)
tokens-some (b ∷ bs) h = refl

pub tokens-front : (bytes : List ℕ) (f : Front) → first_front bytes ≡ Some f → tokens_in bytes ≡ f.token ∷ tokens_in (drop (f.more + 1) bytes)
unfolding tokens_in
tokens-front [] f e = cc
tokens-front (b ∷ bs) f e =
    let same : front_at b bs ≡ f = cc in
    ap (λ g. g.token ∷ tokens_from g.more bs) same ∙ ap (λ ts. f.token ∷ ts) (tokens-skip f.more bs) ∙ rw add-one refl

pub tokens-first : (bytes : List ℕ) (f : Front) → first_front bytes ≡ Some f → first_token (tokens_in bytes) ≡ Some f.token
tokens-first bytes f e = ap first_token (tokens-front bytes f e)

pub tokens-behind : (bytes : List ℕ) (f : Front) → first_front bytes ≡ Some f → drop 1 (tokens_in bytes) ≡ tokens_in (drop (f.more + 1) bytes)
tokens-behind bytes f e = ap (drop 1) (tokens-front bytes f e)
