-- The tokens behind others, one after the other.
use Rattle.std.proofs.Common.{◌≡◌, ◌∙◌, ℕ, Bool, true, false, List, [], ◌∷◌, None, Some, refl, ap}
use Rattle.std.specs.Prelude.{if◌then◌else◌}
use Rattle.scasp_answers_terms.specs.Tokens.Tokens.{Token, sign_token, is_sign, tokens_in}
use Rattle.scasp_answers_terms.specs.Tokens.Readers.{same_token, past, past_text}
use Rattle.scasp_answers_terms.proofs.TokensLemmas.SignLemmas.{same-sign, tokens-sign}

pub past-more : (t : Token) (front ts rest : List Token) → past (t ∷ []) ts ≡ Some rest → past (t ∷ front) ts ≡ past front rest
past-more t front [] rest e = cc
past-more t front (u ∷ ts) rest e = by (same_token t u) e
  where
    by : (c : Bool) → (if c then Some ts else None) ≡ Some rest → (if c then past front ts else None) ≡ past front rest
    by true h = let same : ts ≡ rest = cc in ap (past front) same
    by false h = cc

pub past-none : (t : Token) (front ts : List Token) → past (t ∷ []) ts ≡ None → past (t ∷ front) ts ≡ None
past-none t front [] e = refl
past-none t front (u ∷ ts) e = by (same_token t u) e
  where
    by : (c : Bool) → (if c then Some ts else None) ≡ None → (if c then past front ts else None) ≡ None
    by true h = cc
    by false h = refl

pub past-sign : (b : ℕ) (behind text : List ℕ) (ts rest : List Token) → text ≡ b ∷ behind → is_sign b ≡ true → ts ≡ sign_token b ∷ rest → past_text text ts ≡ past_text behind rest
unfolding past_text
past-sign b behind text ts rest e s t =
    ap (λ x. past (tokens_in x) ts) e
    ∙ ap (λ x. past x ts) (tokens-sign b behind s)
    ∙ ap (past (sign_token b ∷ tokens_in behind)) t
    ∙ ap (λ (c : Bool). if c then past (tokens_in behind) rest else None) (same-sign b)
