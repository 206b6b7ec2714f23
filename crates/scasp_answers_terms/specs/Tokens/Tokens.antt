-- The tokens of a line: each has one spelling.
use Rattle.std.specs.Prelude.{ℕ, zero, suc, ◌+◌, ◌-◌, ◌^◌, ◌==◌, min, Bool, true, false, not, ◌&&◌, ◌||◌, if◌then◌else◌, List, [], ◌∷◌, ◌++◌, length, take, drop, flat_map, codes, decimal, Option, None, Some}
use Rattle.std.specs.List.{take_while}
use Rattle.std.specs.Str.{is_utf8}
use Rattle.scasp_cert.specs.Text.Names.{is_plain, escaped}
use Rattle.scasp_reader_tokens.specs.Bytes.{is_lower, is_digit, is_name_byte, farther}
use Rattle.scasp_reader_tokens.specs.Numbers.{digits_value}
use Rattle.scasp_reader_tokens.specs.Quoted.{is_escape, text_of}
use Rattle.scasp_answers_terms.specs.declared.tokens.token.QuoteStep.{QuoteStep}
use Rattle.scasp_answers_terms.specs.declared.tokens.token.QuoteStep.TheVariants.{Inside, Closing, Unwritten}

-- A word is a lower-case letter with letters, digits and `_` behind it; a quoted text is one that needs its quotes.
pub data Token : Type 0 where
  word : List ℕ → Token
  quoted : List ℕ → Token
  variable : ℕ → Token
  digits : ℕ → Token
  fraction : ℕ → ℕ → Token
  minus : Token
  plus : Token
  star : Token
  comma : Token
  bar : Token
  paren : Token
  close : Token
  bracket : Token
  unbracket : Token
  sign : ℕ → Token
  bad : Token  -- a byte at which no token begins as it is printed, with the text behind it where it is a quote

unfoldable pub token_text : Token → List ℕ
token_text (word w) = w
token_text (quoted text) = codes "'" ++ flat_map escaped text ++ codes "'"
token_text (variable x) = codes "V" ++ decimal x
token_text (digits n) = decimal n
token_text (fraction n d) = decimal n ++ codes "/" ++ decimal d
token_text minus = codes "-"
token_text plus = codes "+"
token_text star = codes "*"
token_text comma = codes ","
token_text bar = codes "|"
token_text paren = codes "("
token_text close = codes ")"
token_text bracket = codes "["
token_text unbracket = codes "]"
token_text (sign b) = b ∷ []
token_text bad = []

-- ---- the token at the front of bytes

-- a token, and how many bytes behind its first belong to it
pub record Front : Type 0 where
  pub token : Token
  pub more : ℕ

abbrev pub front : Token → ℕ → Front
front t more = record { token = t; more = more }

-- the number that the digits spell, or the largest of 128 bits where that is larger: no line may have either
abbrev pub value_of : List ℕ → ℕ
value_of ds = min (digits_value 0 ds) (2 ^ 128 - 1)

-- the digits are how a number is written: there are some, and no 0 stands in front
abbrev pub is_numeral : List ℕ → Bool
is_numeral [] = false
is_numeral (d ∷ []) = true
is_numeral (d ∷ e ∷ ds) = not (d == 48)

abbrev pub digits_at : List ℕ → List ℕ
digits_at bytes = take_while is_digit bytes

-- the digits behind a slash
abbrev pub digits_below : List ℕ → List ℕ
digits_below [] = []
digits_below (b ∷ bs) = if b == 47 then digits_at bs else []

-- digits, and where others stand behind a slash the fraction
abbrev pub number_front : List ℕ → List ℕ → Front
number_front ds [] = if is_numeral ds then front (digits (value_of ds)) (length ds - 1) else front bad 0
number_front ds (e ∷ es) =
    if is_numeral ds && is_numeral (e ∷ es) then front (fraction (value_of ds) (value_of (e ∷ es))) (length ds + length (e ∷ es)) else front bad 0

-- `V`, and the number of a variable
abbrev pub variable_front : List ℕ → Front
variable_front ds = if is_numeral ds then front (variable (value_of ds)) (length ds) else front bad 0

-- What a byte between quotes does, where it may stand behind a backslash. A tab and a line feed are written with one, and so are a
-- quote and a backslash; no other byte is.
abbrev pub quote_step : Bool → ℕ → QuoteStep
quote_step true b = if is_escape b then Inside false else Unwritten
quote_step false b = if b == 39 then Closing else (if (b == 9) || (b == 10) then Unwritten else Inside (b == 92))

-- the bytes before the quote that ends the text, from those behind this byte
abbrev pub length_by : QuoteStep → (Bool → Option ℕ) → Option ℕ
length_by (Inside is_escaped) behind = farther 1 (behind is_escaped)
length_by Closing behind = Some 0
length_by Unwritten behind = None

-- the bytes before the quote that ends a text, where one does; the first byte may stand behind a backslash
abbrev pub quoted_length : Bool → List ℕ → Option ℕ
quoted_length is_escaped [] = None
quoted_length is_escaped (b ∷ bs) = length_by (quote_step is_escaped b) (λ e. quoted_length e bs)

-- the bytes between two quotes are those of a text that needs quotes
abbrev pub quoted_token : List ℕ → Token
quoted_token bytes = if is_utf8 bytes && not (is_plain bytes) then quoted (text_of bytes) else bad

-- the bytes between two quotes, and the second quote
abbrev pub between_quotes : List ℕ → Front
between_quotes bytes = front (quoted_token bytes) (length bytes + 1)

-- all behind a quote, where no quote ends the text: so no byte is gone through once more from another quote
abbrev pub quoted_front : List ℕ → Front
quoted_front bs = elim (quoted_length false bs) [ None ↦ front bad (length bs) | Some n ↦ between_quotes (take n bs) ]

abbrev pub sign_token : ℕ → Token
sign_token b =
    if b == 45 then minus else (if b == 43 then plus else (if b == 42 then star else (if b == 44 then comma
    else (if b == 124 then bar else (if b == 40 then paren else (if b == 41 then close
    else (if b == 91 then bracket else (if b == 93 then unbracket else sign b))))))))

-- a byte with which only a token of one byte begins
abbrev pub is_sign : ℕ → Bool
is_sign b = not (is_lower b || is_digit b || (b == 86) || (b == 39))

abbrev pub word_front : List ℕ → Front
word_front text = front (word text) (length text - 1)

-- the token that begins with this byte, with these bytes behind it: the longest
abbrev pub front_at : ℕ → List ℕ → Front
front_at b bs =
    if is_lower b then word_front (take_while is_name_byte (b ∷ bs))
    else (if is_digit b then number_front (digits_at (b ∷ bs)) (digits_below (drop (length (digits_at (b ∷ bs))) (b ∷ bs)))
    else (if b == 86 then variable_front (digits_at bs)
    else (if b == 39 then quoted_front bs
    else front (sign_token b) 0)))

-- the token at the front of bytes
abbrev pub first_front : List ℕ → Option Front
first_front [] = None
first_front (b ∷ bs) = Some (front_at b bs)

-- the tokens of bytes of which so many at the front belong to the token before
abbrev pub tokens_from : ℕ → List ℕ → List Token
tokens_from n [] = []
tokens_from (suc n) (b ∷ bs) = tokens_from n bs
tokens_from zero (b ∷ bs) = (front_at b bs).token ∷ tokens_from (front_at b bs).more bs

unfoldable pub tokens_in : List ℕ → List Token
tokens_in bytes = tokens_from 0 bytes
