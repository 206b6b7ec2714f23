-- Tokens of one byte.
use Rattle.std.proofs.Common.{◌≡◌, ◌≢◌, ◌≤◌, ℕ, ◌+◌, ◌-◌, Bool, true, false, not, ◌||◌, ◌&&◌, ◌==◌, List, [], ◌∷◌, drop, take, length, Option, None, Some, refl, ap, ◌∙◌, subst, sym, eq-eqb, arith, slice_index_or}
use Rattle.std.specs.Prelude.{if◌then◌else◌}
use Rattle.std.specs.List.{take_while}
use Rattle.std.specs.Str.{is_utf8}
use Rattle.std.proofs.lemmas.Bool.{eqb-true, false≢true}
use Rattle.scasp_cert.specs.Text.Names.{is_plain}
use Rattle.scasp_reader_tokens.specs.Bytes.{is_lower, is_digit, is_name_byte}
use Rattle.scasp_reader_tokens.specs.Quoted.{text_of}
use Rattle.scasp_answers_terms.specs.Tokens.View.{first_token}
use Rattle.scasp_answers_terms.specs.Tokens.Readers.{same_token}
use Rattle.scasp_answers_terms.specs.Tokens.Tokens.{Token, word, quoted, variable, digits, fraction, minus, plus, star, comma, bar, paren, close, bracket, unbracket, sign, bad, Front, front, front_at, word_front, sign_token, is_sign, value_of, is_numeral, number_front, variable_front, quoted_length, between_quotes, quoted_front, digits_at, digits_below, tokens_in}

-- holds of each byte and the token of one byte that it is
pub at-signs : (P : ℕ → Token → Type 0) → P 45 minus → P 43 plus → P 42 star → P 44 comma → P 124 bar → P 40 paren → P 41 close → P 91 bracket → P 93 unbracket → ((b : ℕ) → P b (sign b))
    → (b : ℕ) → P b (sign_token b)
at-signs P h1 h2 h3 h4 h5 h6 h7 h8 h9 h b = by (b == 45) (b == 43) (b == 42) (b == 44) (b == 124) (b == 40) (b == 41) (b == 91) (b == 93) refl refl refl refl refl refl refl refl refl
  where
    is : (n : ℕ) (t : Token) → P n t → (b == n) ≡ true → P b t
    is n t p e = subst (λ m. P m t) (sym (eqb-true b n e)) p

    by : (c1 c2 c3 c4 c5 c6 c7 c8 c9 : Bool) → (b == 45) ≡ c1 → (b == 43) ≡ c2 → (b == 42) ≡ c3 → (b == 44) ≡ c4 → (b == 124) ≡ c5 → (b == 40) ≡ c6 → (b == 41) ≡ c7 → (b == 91) ≡ c8 → (b == 93) ≡ c9
        → P b (if c1 then minus else (if c2 then plus else (if c3 then star else (if c4 then comma else (if c5 then bar else (if c6 then paren else (if c7 then close else (if c8 then bracket else (if c9 then unbracket else sign b)))))))))
    by true c2 c3 c4 c5 c6 c7 c8 c9 e1 e2 e3 e4 e5 e6 e7 e8 e9 = is 45 minus h1 e1
    by false true c3 c4 c5 c6 c7 c8 c9 e1 e2 e3 e4 e5 e6 e7 e8 e9 = is 43 plus h2 e2
    by false false true c4 c5 c6 c7 c8 c9 e1 e2 e3 e4 e5 e6 e7 e8 e9 = is 42 star h3 e3
    by false false false true c5 c6 c7 c8 c9 e1 e2 e3 e4 e5 e6 e7 e8 e9 = is 44 comma h4 e4
    by false false false false true c6 c7 c8 c9 e1 e2 e3 e4 e5 e6 e7 e8 e9 = is 124 bar h5 e5
    by false false false false false true c7 c8 c9 e1 e2 e3 e4 e5 e6 e7 e8 e9 = is 40 paren h6 e6
    by false false false false false false true c8 c9 e1 e2 e3 e4 e5 e6 e7 e8 e9 = is 41 close h7 e7
    by false false false false false false false true c9 e1 e2 e3 e4 e5 e6 e7 e8 e9 = is 91 bracket h8 e8
    by false false false false false false false false true e1 e2 e3 e4 e5 e6 e7 e8 e9 = is 93 unbracket h9 e9
    by false false false false false false false false false e1 e2 e3 e4 e5 e6 e7 e8 e9 = h b

pub same-sign : (b : ℕ) → same_token (sign_token b) (sign_token b) ≡ true
same-sign = at-signs (λ b t. same_token t t ≡ true) refl refl refl refl refl refl refl refl refl (λ b. eq-eqb b b refl)

-- the byte of a token of one byte
abbrev byte_of : Token → Option ℕ
byte_of (word w) = None
byte_of (quoted q) = None
byte_of (variable x) = None
byte_of (digits n) = None
byte_of (fraction n d) = None
byte_of minus = Some 45
byte_of plus = Some 43
byte_of star = Some 42
byte_of comma = Some 44
byte_of bar = Some 124
byte_of paren = Some 40
byte_of close = Some 41
byte_of bracket = Some 91
byte_of unbracket = Some 93
byte_of (sign b) = Some b
byte_of bad = None

sign-byte : (b : ℕ) → byte_of (sign_token b) ≡ Some b
sign-byte = at-signs (λ b t. byte_of t ≡ Some b) refl refl refl refl refl refl refl refl refl (λ b. refl)

-- ---- what begins with a byte

pub tokens-sign : (b : ℕ) (bytes : List ℕ) → is_sign b ≡ true → tokens_in (b ∷ bytes) ≡ sign_token b ∷ tokens_in bytes
unfolding tokens_in
tokens-sign b bytes e = by (is_lower b) (is_digit b) (b == 86) (b == 39) refl refl refl refl e
  where
    by : (l d v q : Bool) → is_lower b ≡ l → is_digit b ≡ d → (b == 86) ≡ v → (b == 39) ≡ q → not (l || d || v || q) ≡ true → tokens_in (b ∷ bytes) ≡ sign_token b ∷ tokens_in bytes
    by true d v q el ed ev eq t = absurd (false≢true t)
    by false true v q el ed ev eq t = absurd (false≢true t)
    by false false true q el ed ev eq t = absurd (false≢true t)
    by false false false true el ed ev eq t = absurd (false≢true t)
    by false false false false el ed ev eq t = rw el rw ed rw ev rw eq refl

none-if : (c : Bool) (f g : Front) → byte_of f.token ≡ None → byte_of g.token ≡ None → byte_of (if c then f else g).token ≡ None
none-if true f g p q = p
none-if false f g p q = q

number-byte : (ds es : List ℕ) → byte_of (number_front ds es).token ≡ None
number-byte ds [] = none-if (is_numeral ds) (front (digits (value_of ds)) (length ds - 1)) (front bad 0) refl refl
number-byte ds (e ∷ es) =
    none-if (is_numeral ds && is_numeral (e ∷ es)) (front (fraction (value_of ds) (value_of (e ∷ es))) (length ds + length (e ∷ es))) (front bad 0) refl refl

variable-byte : (ds : List ℕ) → byte_of (variable_front ds).token ≡ None
variable-byte ds = none-if (is_numeral ds) (front (variable (value_of ds)) (length ds)) (front bad 0) refl refl

token-if : (c : Bool) (t u : Token) → byte_of t ≡ None → byte_of u ≡ None → byte_of (if c then t else u) ≡ None
token-if true t u p q = p
token-if false t u p q = q

quoted-byte : (bytes : List ℕ) → byte_of (quoted_front bytes).token ≡ None
quoted-byte bytes = by (quoted_length false bytes)
  where
    found : Option ℕ → Front
    found n = elim n [ None ↦ front bad (length bytes) | Some n ↦ between_quotes (take n bytes) ]

    by : (n : Option ℕ) → byte_of (found n).token ≡ None
    by None = refl
    by (Some n) = let text = take n bytes in token-if (is_utf8 text && not (is_plain text)) (quoted (text_of text)) bad refl refl

front-byte : (b : ℕ) (bytes : List ℕ) → is_sign b ≡ false → byte_of (front_at b bytes).token ≡ None
front-byte b bytes e = by (is_lower b) (is_digit b) (b == 86) (b == 39) e
  where
    ds : List ℕ
    ds = digits_at (b ∷ bytes)

    es : List ℕ
    es = digits_below (drop (length ds) (b ∷ bytes))

    by : (l d v q : Bool) → not (l || d || v || q) ≡ false
        → byte_of (if l then word_front (take_while is_name_byte (b ∷ bytes)) else (if d then number_front ds es else (if v then variable_front (digits_at bytes) else (if q then quoted_front bytes else front (sign_token b) 0)))).token ≡ None
    by true d v q t = refl
    by false true v q t = number-byte ds es
    by false false true q t = variable-byte (digits_at bytes)
    by false false false true t = quoted-byte bytes
    by false false false false t = absurd (false≢true (sym t))

-- another byte begins another token
pub other-first : (a b : ℕ) (bytes : List ℕ) → b ≢ a → first_token (tokens_in (b ∷ bytes)) ≢ Some (sign_token a)
unfolding tokens_in
other-first a b bytes h e = by (is_sign b) refl
  where
    same : (front_at b bytes).token ≡ sign_token a
    same = cc

    is : Some a ≡ byte_of (front_at b bytes).token
    is = sym (ap byte_of same ∙ sign-byte a)

    by : (s : Bool) → is_sign b ≡ s → ⊥
    by true t =
        let found : first_token (tokens_in (b ∷ bytes)) ≡ Some (sign_token b) = ap first_token (tokens-sign b bytes t) in
        let token : (front_at b bytes).token ≡ sign_token b = cc in
        let byte : Some a ≡ Some b = is ∙ ap byte_of token ∙ sign-byte b in
        h (cc)
    by false t = let none : Some a ≡ None = is ∙ front-byte b bytes t in cc

-- ---- a token of one byte at the front

pub takes-other : (a : ℕ) (bytes : List ℕ) → 1 ≤ length bytes → slice_index_or bytes 0 0 ≢ a → first_token (tokens_in bytes) ≢ Some (sign_token a)
takes-other a [] h n = absurd (omega arith)
takes-other a (c ∷ cs) h n = other-first a c cs n
