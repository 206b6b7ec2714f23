-- Reading from the front of tokens.
use Rattle.std.specs.Prelude.{ℕ, zero, suc, ◌==◌, Bool, true, false, if◌then◌else◌, List, [], ◌∷◌, bytes_eq, Option, None, Some, option_map}
use Rattle.scasp_num.specs.Arithmetic.{◌>>=◌}
use Rattle.scasp_answers_terms.specs.Tokens.Tokens.{Token, word, digits, minus, plus, star, comma, bar, paren, close, bracket, unbracket, sign, tokens_in}

-- what is read, and the tokens behind it
abbrev pub Parsed : Type 0 → Type 0
Parsed A = Option (A × List Token)

-- the same token, of those that stand in the forms' own texts
abbrev pub same_token : Token → Token → Bool
same_token (word v) (word w) = bytes_eq v w
same_token (digits m) (digits n) = m == n
same_token (sign a) (sign b) = a == b
same_token minus minus = true
same_token plus plus = true
same_token star star = true
same_token comma comma = true
same_token bar bar = true
same_token paren paren = true
same_token close close = true
same_token bracket bracket = true
same_token unbracket unbracket = true
same_token _ _ = false

-- the tokens behind these
abbrev pub past : List Token → List Token → Option (List Token)
past [] ts = Some ts
past (t ∷ front) [] = None
past (t ∷ front) (u ∷ ts) = if same_token t u then past front ts else None

-- the tokens behind those of the text
unfoldable pub past_text : List ℕ → List Token → Option (List Token)
past_text text ts = past (tokens_in text) ts

-- what is read, put together
abbrev pub made : {A B : Type 0} → (A → B) → Parsed A → Parsed B
made make read = option_map (λ r. (make r.0, r.1)) read

-- the text, and then what is read, put together
abbrev pub keyed : {A B : Type 0} → List ℕ → (List Token → Parsed A) → (A → B) → List Token → Parsed B
keyed text reads make ts = past_text text ts >>= (λ rest. made make (reads rest))

-- one thing, the text, and another thing
abbrev pub both : {A B : Type 0} → (List Token → Parsed A) → List ℕ → (List Token → Parsed B) → List Token → Parsed (A × B)
both first text second ts =
    first ts >>= (λ r. past_text text r.1 >>= (λ rest. option_map (λ q. ((r.0, q.0), q.1)) (second rest)))

-- the thing, and the text behind it
abbrev pub until : {A : Type 0} → List ℕ → (List Token → Parsed A) → List Token → Parsed A
until text reads ts = reads ts >>= (λ r. option_map (λ rest. (r.0, rest)) (past_text text r.1))

-- the thing between two texts
abbrev pub between : {A : Type 0} → List ℕ → (List Token → Parsed A) → List ℕ → List Token → Parsed A
between front reads behind ts = past_text front ts >>= until behind reads

-- nothing but the text
abbrev pub alone : {A : Type 0} → List ℕ → A → List Token → Parsed A
alone text value ts = option_map (λ rest. (value, rest)) (past_text text ts)

-- the first of the readings that applies
abbrev pub any_of : {A : Type 0} → List (List Token → Parsed A) → List Token → Parsed A
any_of [] ts = None
any_of (r ∷ rs) ts = elim (r ts) [ None ↦ any_of rs ts | Some found ↦ Some found ]

-- what is read, where it passes the test
abbrev pub only : {A : Type 0} → (A → Bool) → (List Token → Parsed A) → List Token → Parsed A
only test reads ts = reads ts >>= (λ r. if test r.0 then Some r else None)

-- one thing or more, with the token between them; `zero` is never reached from the number of tokens on
abbrev pub separated_within : {A : Type 0} → ℕ → Token → (List Token → Parsed A) → List Token → Parsed (List A)
separated_within zero separator reads ts = None
separated_within (suc n) separator reads ts =
    reads ts >>= (λ r. elim (past (separator ∷ []) r.1) [
      | None ↦ Some (r.0 ∷ [], r.1)
      | Some rest ↦ made (λ more. r.0 ∷ more) (separated_within n separator reads rest)
    ])

abbrev pub number_at : List Token → Parsed ℕ
number_at (digits n ∷ ts) = Some (n, ts)
number_at _ = None

-- ---- forms that are told apart by their first word

-- a form: its first word, and how what stands behind that is read
pub record Form (A : Type 0) : Type 0 where
  pub first : List ℕ
  pub reads : List Token → Parsed A

abbrev pub form : {A : Type 0} → List ℕ → (List Token → Parsed A) → Form A
form first reads = record { first = first; reads = reads }

-- what is read behind the word, by the form that begins with it
abbrev pub behind_word : {A : Type 0} → List (Form A) → List ℕ → List Token → Parsed A
behind_word [] w ts = None
behind_word (f ∷ forms) w ts = if bytes_eq w f.first then f.reads ts else behind_word forms w ts

abbrev pub by_form : {A : Type 0} → List (Form A) → List Token → Parsed A
by_form forms (word w ∷ ts) = behind_word forms w ts
by_form forms _ = None

-- nothing stands behind the word
abbrev pub nothing_more : {A : Type 0} → A → List Token → Parsed A
nothing_more value ts = Some (value, ts)
