-- Bytes that are one token, and then those behind it.
use Rattle.std.proofs.Common.{◌≡◌, ℕ, Bool, true, false, ◌||◌, ◌==◌, List, [], ◌∷◌, ◌++◌, length, refl, ap, ◌∙◌, subst, sym}
use Rattle.std.proofs.lemmas.Bool.{false≢true}
use borrow.Author.Tests.{eqb-true}
use Rattle.scasp_law_program_text.specs.Readback.Endings.{ends_name}
use Rattle.scasp_answers_terms.specs.Tokens.Tokens.{Token, minus, plus, star, comma, bar, paren, close, bracket, unbracket, sign, front, front_at, tokens_from, tokens_in, digits_at, digits_below}
use Rattle.scasp_law_answer_text.specs.LineReadback.Endings.{ends_part}

passed : (bytes rest : List ℕ) → tokens_from (length bytes) (bytes ++ rest) ≡ tokens_in rest
unfolding tokens_in
passed [] rest = refl
passed (b ∷ bytes) rest = passed bytes rest

pub token-read : (b : ℕ) (bytes rest : List ℕ) (t : Token) → front_at b (bytes ++ rest) ≡ front t (length bytes) → tokens_in ((b ∷ bytes) ++ rest) ≡ t ∷ tokens_in rest
unfolding tokens_in
token-read b bytes rest t e = ap (λ f. f.token ∷ tokens_from f.more (bytes ++ rest)) e ∙ ap (λ ts. t ∷ ts) (passed bytes rest)

-- ---- signs

pub minus-read : (rest : List ℕ) → tokens_in (45 ∷ rest) ≡ minus ∷ tokens_in rest
unfolding tokens_in
minus-read rest = refl

pub plus-read : (rest : List ℕ) → tokens_in (43 ∷ rest) ≡ plus ∷ tokens_in rest
unfolding tokens_in
plus-read rest = refl

pub star-read : (rest : List ℕ) → tokens_in (42 ∷ rest) ≡ star ∷ tokens_in rest
unfolding tokens_in
star-read rest = refl

pub blank-read : (rest : List ℕ) → tokens_in (32 ∷ rest) ≡ sign 32 ∷ tokens_in rest
unfolding tokens_in
blank-read rest = refl

pub comma-read : (rest : List ℕ) → tokens_in (44 ∷ rest) ≡ comma ∷ tokens_in rest
unfolding tokens_in
comma-read rest = refl

pub bar-read : (rest : List ℕ) → tokens_in (124 ∷ rest) ≡ bar ∷ tokens_in rest
unfolding tokens_in
bar-read rest = refl

pub paren-read : (rest : List ℕ) → tokens_in (40 ∷ rest) ≡ paren ∷ tokens_in rest
unfolding tokens_in
paren-read rest = refl

pub close-read : (rest : List ℕ) → tokens_in (41 ∷ rest) ≡ close ∷ tokens_in rest
unfolding tokens_in
close-read rest = refl

pub bracket-read : (rest : List ℕ) → tokens_in (91 ∷ rest) ≡ bracket ∷ tokens_in rest
unfolding tokens_in
bracket-read rest = refl

pub unbracket-read : (rest : List ℕ) → tokens_in (93 ∷ rest) ≡ unbracket ∷ tokens_in rest
unfolding tokens_in
unbracket-read rest = refl

pub empty-read : (rest : List ℕ) → tokens_in (91 ∷ 93 ∷ rest) ≡ bracket ∷ unbracket ∷ tokens_in rest
unfolding tokens_in
empty-read rest = refl

-- ---- the end of a part

-- what holds at the end, and before each byte of `ends_part`
pub record AtEnds (P : List ℕ → Type 0) : Type 0 where
  pub none : P []
  pub blank : (r : List ℕ) → P (32 ∷ r)
  pub close : (r : List ℕ) → P (41 ∷ r)
  pub star : (r : List ℕ) → P (42 ∷ r)
  pub plus : (r : List ℕ) → P (43 ∷ r)
  pub comma : (r : List ℕ) → P (44 ∷ r)
  pub minus : (r : List ℕ) → P (45 ∷ r)
  pub point : (r : List ℕ) → P (46 ∷ r)
  pub semicolon : (r : List ℕ) → P (59 ∷ r)
  pub unbracket : (r : List ℕ) → P (93 ∷ r)
  pub bar : (r : List ℕ) → P (124 ∷ r)

-- holds before all that ends a part
pub at-ends : (P : List ℕ → Type 0) → AtEnds P → (rest : List ℕ) → ends_part rest ≡ true → P rest
at-ends P h [] e = h.none
at-ends P h (b ∷ r) e = by (b == 32) (b == 41) (b == 42) (b == 43) (b == 44) (b == 45) (b == 46) (b == 59) (b == 93) (b == 124) refl refl refl refl refl refl refl refl refl refl e
  where
    is : (n : ℕ) → P (n ∷ r) → (b == n) ≡ true → P (b ∷ r)
    is n p t = subst (λ m. P (m ∷ r)) (sym (eqb-true b n t)) p

    by : (c1 c2 c3 c4 c5 c6 c7 c8 c9 c10 : Bool) → (b == 32) ≡ c1 → (b == 41) ≡ c2 → (b == 42) ≡ c3 → (b == 43) ≡ c4 → (b == 44) ≡ c5 → (b == 45) ≡ c6 → (b == 46) ≡ c7 → (b == 59) ≡ c8
        → (b == 93) ≡ c9 → (b == 124) ≡ c10 → (c1 || c2 || c3 || c4 || c5 || c6 || c7 || c8 || c9 || c10) ≡ true → P (b ∷ r)
    by true c2 c3 c4 c5 c6 c7 c8 c9 c10 e1 e2 e3 e4 e5 e6 e7 e8 e9 e10 t = is 32 (h.blank r) e1
    by false true c3 c4 c5 c6 c7 c8 c9 c10 e1 e2 e3 e4 e5 e6 e7 e8 e9 e10 t = is 41 (h.close r) e2
    by false false true c4 c5 c6 c7 c8 c9 c10 e1 e2 e3 e4 e5 e6 e7 e8 e9 e10 t = is 42 (h.star r) e3
    by false false false true c5 c6 c7 c8 c9 c10 e1 e2 e3 e4 e5 e6 e7 e8 e9 e10 t = is 43 (h.plus r) e4
    by false false false false true c6 c7 c8 c9 c10 e1 e2 e3 e4 e5 e6 e7 e8 e9 e10 t = is 44 (h.comma r) e5
    by false false false false false true c7 c8 c9 c10 e1 e2 e3 e4 e5 e6 e7 e8 e9 e10 t = is 45 (h.minus r) e6
    by false false false false false false true c8 c9 c10 e1 e2 e3 e4 e5 e6 e7 e8 e9 e10 t = is 46 (h.point r) e7
    by false false false false false false false true c9 c10 e1 e2 e3 e4 e5 e6 e7 e8 e9 e10 t = is 59 (h.semicolon r) e8
    by false false false false false false false false true c10 e1 e2 e3 e4 e5 e6 e7 e8 e9 e10 t = is 93 (h.unbracket r) e9
    by false false false false false false false false false true e1 e2 e3 e4 e5 e6 e7 e8 e9 e10 t = is 124 (h.bar r) e10
    by false false false false false false false false false false e1 e2 e3 e4 e5 e6 e7 e8 e9 e10 t = absurd (false≢true t)

pub ends-name : (rest : List ℕ) → ends_part rest ≡ true → ends_name rest ≡ true
ends-name =
    at-ends (λ rest. ends_name rest ≡ true) (record {
      none = refl;
      blank = λ r. refl;
      close = λ r. refl;
      star = λ r. refl;
      plus = λ r. refl;
      comma = λ r. refl;
      minus = λ r. refl;
      point = λ r. refl;
      semicolon = λ r. refl;
      unbracket = λ r. refl;
      bar = λ r. refl;
    })

-- no digits, and no slash with digits
abbrev pub EndsDigits : List ℕ → Type 0
EndsDigits rest = (digits_at rest ≡ []) × (digits_below rest ≡ [])

pub ends-digits : (rest : List ℕ) → ends_part rest ≡ true → EndsDigits rest
ends-digits =
    at-ends EndsDigits (record {
      none = (refl, refl);
      blank = λ r. (refl, refl);
      close = λ r. (refl, refl);
      star = λ r. (refl, refl);
      plus = λ r. (refl, refl);
      comma = λ r. (refl, refl);
      minus = λ r. (refl, refl);
      point = λ r. (refl, refl);
      semicolon = λ r. (refl, refl);
      unbracket = λ r. (refl, refl);
      bar = λ r. (refl, refl);
    })
