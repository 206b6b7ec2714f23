-- Names in quotes: a quote in them is written twice or behind a backslash.
use Rattle.std.specs.Prelude.{ℕ, Bool, false, ◌||◌, ◌&&◌, ◌==◌, min, List, [], ◌∷◌, if◌then◌else◌, Option, None, Some}
use Rattle.std.specs.Str.Lossy.{utf8_valid_len}
use Rattle.scasp_reader_tokens.specs.Bytes.{farther}

-- a backslash and the byte behind it, or two quotes: the two stand for one byte
abbrev pub is_pair : ℕ → ℕ → Bool
is_pair b c = b == 92 || (b == 39 && c == 39)

abbrev pub begins_pair : List ℕ → Bool
begins_pair [] = false
begins_pair (b ∷ []) = false
begins_pair (b ∷ c ∷ bytes) = is_pair b c

-- the bytes before the quote that ends the name
abbrev pub quoted_length : List ℕ → Option ℕ
quoted_length [] = None
quoted_length (b ∷ []) = if b == 39 then Some 0 else None
quoted_length (b ∷ c ∷ bytes) =
    if is_pair b c then farther 2 (quoted_length bytes)
    else (if b == 39 then Some 0 else farther 1 (quoted_length (c ∷ bytes)))

-- what a quote, a backslash, `n` and `t` stand for as the second of two
abbrev pub byte_of_escape : ℕ → ℕ
byte_of_escape c = if c == 110 then 10 else (if c == 116 then 9 else c)

-- the text that the bytes between the quotes stand for
abbrev pub text_of : List ℕ → List ℕ
text_of [] = []
text_of (b ∷ []) = b ∷ []
text_of (b ∷ c ∷ bytes) = if is_pair b c then byte_of_escape c ∷ text_of bytes else b ∷ text_of (c ∷ bytes)

-- a byte that may stand behind a backslash
abbrev pub is_escape : ℕ → Bool
is_escape c = c == 39 || c == 92 || c == 110 || c == 116

-- the bytes before the first backslash with another byte behind it
abbrev pub length_before_bad : List ℕ → Option ℕ
length_before_bad [] = None
length_before_bad (b ∷ []) = None
length_before_bad (b ∷ c ∷ bytes) =
    if is_pair b c then (if is_escape c then farther 2 (length_before_bad bytes) else Some 0)
    else farther 1 (length_before_bad (c ∷ bytes))

-- the bytes at the front that may stand so between quotes: UTF-8 without a bad backslash
abbrev pub good_length : List ℕ → ℕ
good_length bytes = elim (length_before_bad bytes) [ None ↦ utf8_valid_len bytes | Some n ↦ min n (utf8_valid_len bytes) ]
