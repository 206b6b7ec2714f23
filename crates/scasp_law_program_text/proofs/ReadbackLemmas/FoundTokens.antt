-- What the tokens of a text are: names that are UTF-8, variables that begin as such, numbers worked out from digits. The end stands last alone.
use Rattle.std.proofs.Common.{◌≡◌, ◌⊎◌, inl, inr, ℕ, zero, suc, ◌+◌, ◌-◌, ◌≤◌, Bool, true, false, cond, ◌||◌, ◌==◌, nat_lt, min, if◌then◌else◌, List, [], ◌∷◌, length, take, drop, codes, Option, None, Some, refl, sym, ap, subst, ◌∙◌, arith}
use Rattle.std.specs.List.{take_while, list_all}
use Rattle.std.specs.Str.{IsUtf8, is_utf8, bytes_eq}
use Rattle.std.specs.Str.Lossy.{utf8_valid_len, valid_len_up_to}
use Rattle.std.proofs.lemmas.Bool.{and_parts, and_from, ltb-false}
use Rattle.std.proofs.lemmas.Bool.Decides.{nat_tests}
use Rattle.std.proofs.lemmas.List.{take_all}
use Rattle.std.proofs.lemmas.List.Sums.{take_while-cons}
use Rattle.std.proofs.lemmas.Str.{IsUtf8-nil, IsUtf8-from_ascii, IsUtf8-from_is_utf8}
use Rattle.scasp_num.specs.Number.{Number}
use Rattle.scasp_reader_tokens.specs.declared.token.Token.{Token}
use Rattle.scasp_reader_tokens.specs.declared.token.Token.TheVariants as token
use Rattle.scasp_reader_tokens.specs.declared.token.Placed.{Placed}
use Rattle.scasp_reader_tokens.specs.declared.token.Front.{Front}
use Rattle.scasp_reader_tokens.specs.declared.token.Front.TheVariants.{Gap, Found, Last}
use Rattle.scasp_reader_tokens.specs.Bytes.{is_blank, is_lower, is_upper, is_digit, is_name_byte, begins}
use Rattle.scasp_reader_tokens.specs.Comments.{line_length, block_length}
use Rattle.scasp_reader_tokens.specs.Directives.{begins_directive, is_skipped_name, is_abducible_name, length_to_stop}
use Rattle.scasp_reader_tokens.specs.Numbers.{digits, decimals, literal_value}
use Rattle.scasp_reader_tokens.specs.Quoted.{quoted_length, text_of, length_before_bad, good_length}
use Rattle.scasp_reader_tokens.specs.Signs.{Entry, signs, entry_at}
use Rattle.scasp_reader_tokens.specs.Tokens.{block_comment, word, variable, between_quotes, quoted_name, number, skipped_directive, directive, sign_or_directive, front, tokens_from, tokens_behind, tokens_of}
use Rattle.scasp_reader_tokens.proofs.NameLemmas.{name-IsAscii}
use Rattle.scasp_reader_tokens.proofs.Utf8Lemmas.{IsUtf8-text_of}
use Rattle.scasp_law_program_text.specs.Readback.Endings.{is_variable_text}

-- ---- names and variables

-- a name without quotes
pub name-utf8 : (bytes : List ℕ) → IsUtf8 (take_while is_name_byte bytes)
name-utf8 bytes = IsUtf8-from_ascii (take_while is_name_byte bytes) (name-IsAscii bytes)

-- bytes that may all stand in such a name
name-bytes-utf8 : (bytes : List ℕ) → list_all is_name_byte bytes ≡ true → IsUtf8 bytes
name-bytes-utf8 bytes h = subst IsUtf8 (whole bytes h) (name-utf8 bytes)
  where
    whole : (bytes : List ℕ) → list_all is_name_byte bytes ≡ true → take_while is_name_byte bytes ≡ bytes
    whole [] h = refl
    whole (b ∷ bytes) h =
        let p = and_parts (is_name_byte b) (list_all is_name_byte bytes) h in
        take_while-cons is_name_byte b bytes ∙ ap (λ t. cond t (b ∷ take_while is_name_byte bytes) []) p.0 ∙ ap (λ bs. b ∷ bs) (whole bytes p.1)

pub variable-utf8 : (text : List ℕ) → is_variable_text text ≡ true → IsUtf8 text
variable-utf8 [] h = cc
variable-utf8 (b ∷ bytes) h =
    let p = and_parts (is_upper b || b == 95) (list_all is_name_byte bytes) h in
    let byte : is_name_byte b ≡ true = grind (arith, nat_tests, p.0) in
    name-bytes-utf8 (b ∷ bytes) (and_from (is_name_byte b) (list_all is_name_byte bytes) byte p.1)

names-taken : (bytes : List ℕ) → list_all is_name_byte (take_while is_name_byte bytes) ≡ true
names-taken [] = refl
names-taken (b ∷ bytes) =
    subst (λ text. list_all is_name_byte text ≡ true) (sym (take_while-cons is_name_byte b bytes)) (by (is_name_byte b) refl (names-taken bytes))
  where
    by : (t : Bool) → is_name_byte b ≡ t → list_all is_name_byte (take_while is_name_byte bytes) ≡ true → list_all is_name_byte (cond t (b ∷ take_while is_name_byte bytes) []) ≡ true
    by true e h = and_from (is_name_byte b) (list_all is_name_byte (take_while is_name_byte bytes)) e h
    by false e h = refl

variable-text : (b : ℕ) (bytes : List ℕ) → (is_upper b || b == 95) ≡ true → is_variable_text (take_while is_name_byte (b ∷ bytes)) ≡ true
variable-text b bytes e =
    let byte : is_name_byte b ≡ true = grind (arith, nat_tests, e) in
    subst (λ text. is_variable_text text ≡ true) (sym (take_while-cons is_name_byte b bytes ∙ ap (λ t. cond t (b ∷ take_while is_name_byte bytes) []) byte))
    (and_from (is_upper b || b == 95) (list_all is_name_byte (take_while is_name_byte bytes)) e (names-taken bytes))

valid-within : (bytes : List ℕ) (n : ℕ) → valid_len_up_to bytes n ≤ n
valid-within bytes zero = omega arith
valid-within bytes (suc n) = by (is_utf8 (take (suc n) bytes)) (valid-within bytes n)
  where
    by : (t : Bool) → valid_len_up_to bytes n ≤ n → (if t then suc n else valid_len_up_to bytes n) ≤ suc n
    by true h = omega arith
    by false h = omega (arith, h)

valid-utf8 : (bytes : List ℕ) → length bytes ≤ utf8_valid_len bytes → IsUtf8 bytes
unfolding utf8_valid_len
valid-utf8 bytes h = by (length bytes) refl h
  where
    whole : (n : ℕ) → length bytes ≡ suc n → (t : Bool) → is_utf8 (take (suc n) bytes) ≡ t → suc n ≤ (if t then suc n else valid_len_up_to bytes n) → IsUtf8 bytes
    whole n e true q k = subst IsUtf8 (take_all (suc n) bytes (omega (arith, e))) (IsUtf8-from_is_utf8 (take (suc n) bytes) q)
    whole n e false q k = absurd (omega (arith, k, valid-within bytes n))

    none : (bytes : List ℕ) → length bytes ≡ 0 → IsUtf8 bytes
    none [] e = IsUtf8-nil
    none (b ∷ bytes) e = absurd (omega (arith, e))

    by : (n : ℕ) → length bytes ≡ n → n ≤ valid_len_up_to bytes n → IsUtf8 bytes
    by zero e k = none bytes e
    by (suc n) e k = whole n e (is_utf8 (take (suc n) bytes)) refl k

good-utf8 : (bytes : List ℕ) → nat_lt (good_length bytes) (length bytes) ≡ false → IsUtf8 bytes
good-utf8 bytes e = valid-utf8 bytes (by (length_before_bad bytes) (ltb-false (good_length bytes) (length bytes) e))
  where
    by : (o : Option ℕ) → length bytes ≤ elim o [ None ↦ utf8_valid_len bytes | Some n ↦ min n (utf8_valid_len bytes) ] → length bytes ≤ utf8_valid_len bytes
    by None h = h
    by (Some n) h = omega (arith, h)

-- ---- what bytes begin with

-- What a token before the end of a text is.
abbrev pub IsFound : Token → Type 0
IsFound (token.Name text) = IsUtf8 text
IsFound (token.Variable text) = is_variable_text text ≡ true
IsFound (token.Number q) = (whole : List ℕ) × (part : List ℕ) × (q ≡ literal_value whole part)
IsFound token.End = ⊥
IsFound t = Unit {0}

abbrev IsFront : Front → Type 0
IsFront (Gap n) = Unit {0}
IsFront (Found t n) = IsFound t
IsFront (Last t n) = IsFound t

block-front : (bytes : List ℕ) → IsFront (block_comment bytes)
block-front bytes = by (block_length bytes)
  where
    by : (o : Option ℕ) → IsFront (elim o [ None ↦ Last token.Unclosed 0 | Some n ↦ Gap n ])
    by None = tt
    by (Some n) = tt

word-front : (bytes : List ℕ) → IsFront (word bytes)
word-front bytes = by (bytes_eq (take_while is_name_byte bytes) (codes "not"))
  where
    by : (t : Bool) → IsFound (if t then token.Not else token.Name (take_while is_name_byte bytes))
    by true = tt
    by false = name-utf8 bytes

quoted-front : (bytes : List ℕ) → IsFront (quoted_name bytes)
quoted-front bytes = by (quoted_length (drop 1 bytes))
  where
    inside : (text : List ℕ) (t : Bool) → nat_lt (good_length text) (length text) ≡ t
        → IsFront (if t then Last token.BadByte (good_length text + 1) else Found (token.Name (text_of text)) (length text + 2))
    inside text true e = tt
    inside text false e = IsUtf8-text_of text (good-utf8 text e)

    by : (o : Option ℕ) → IsFront (elim o [ None ↦ Last token.Unclosed 0 | Some n ↦ between_quotes (take n (drop 1 bytes)) ])
    by None = tt
    by (Some n) = let text = take n (drop 1 bytes) in inside text (nat_lt (good_length text) (length text)) refl

sign-front : (bytes : List ℕ) → IsFront (sign_or_directive bytes)
sign-front bytes = by (entry_at signs bytes)
  where
    skipped : (o : Option ℕ) → IsFront (elim o [ None ↦ Last token.UnclosedDirective 0 | Some n ↦ Found token.SkippedDirective (n + 5) ])
    skipped None = tt
    skipped (Some n) = tt

    unskipped : (name : List ℕ) (t : Bool) → IsFront (if t then Found token.Abducible (length name + 1) else Last token.OtherDirective 0)
    unskipped name true = tt
    unskipped name false = tt

    named : (name : List ℕ) (t : Bool) → IsFront (if t then skipped_directive bytes else (if is_abducible_name name then Found token.Abducible (length name + 1) else Last token.OtherDirective 0))
    named name true = skipped (length_to_stop 0 (drop 5 bytes))
    named name false = unskipped name (is_abducible_name name)

    other : (t : Bool) → IsFront (if t then directive bytes else Last token.BadByte 0)
    other true = let name = take_while is_name_byte (drop 1 bytes) in named name (is_skipped_name name)
    other false = tt

    by : (o : Option Entry) → IsFront (elim o [ None ↦ (if begins_directive bytes then directive bytes else Last token.BadByte 0) | Some e ↦ Found (token.Sign e.sign) (length e.text) ])
    by None = other (begins_directive bytes)
    by (Some e) = tt

front-of : (all : List ℕ) (blank line block lower quote upper digit : Bool) → (upper ≡ true → is_variable_text (take_while is_name_byte all) ≡ true)
    → IsFront (if blank then Gap 1
    else (if line then Gap (line_length all)
    else (if block then block_comment all
    else (if lower then word all
    else (if quote then quoted_name all
    else (if upper then variable all
    else (if digit then number all
    else sign_or_directive all)))))))
front-of all true line block lower quote upper digit h = tt
front-of all false true block lower quote upper digit h = tt
front-of all false false true lower quote upper digit h = block-front all
front-of all false false false true quote upper digit h = word-front all
front-of all false false false false true upper digit h = quoted-front all
front-of all false false false false false true digit h = h refl
front-of all false false false false false false true h = (digits all, decimals (drop (length (digits all)) all), refl)
front-of all false false false false false false false h = sign-front all

front-is : (b : ℕ) (bytes : List ℕ) → IsFront (front (b ∷ bytes))
front-is b bytes =
    front-of (b ∷ bytes) (is_blank b) (b == 37) (begins (b ∷ bytes) (codes "/*")) (is_lower b) (b == 39) (is_upper b || b == 95) (is_digit b) (variable-text b bytes)

-- ---- all tokens

-- each token is such a one, or the end with nothing behind it
abbrev pub AreFound : List Placed → Type 0
AreFound [] = Unit {0}
AreFound (t ∷ ts) = (IsFound t.token ⊎ ((t.token ≡ token.End) × (ts ≡ []))) × AreFound ts

behind-are : (skip at : ℕ) (bytes : List ℕ) → AreFound (tokens_behind skip at bytes)
behind-are skip at [] = (inr (refl, refl), tt)
behind-are (suc skip) at (b ∷ bytes) = behind-are skip (at + 1) bytes
behind-are zero at (b ∷ bytes) = by (front (b ∷ bytes)) (front-is b bytes) (λ n. behind-are (n - 1) (at + 1) bytes)
  where
    by : (f : Front) → IsFront f → ((n : ℕ) → AreFound (tokens_behind (n - 1) (at + 1) bytes)) → AreFound (tokens_from at f (λ n. tokens_behind (n - 1) (at + 1) bytes))
    by (Gap n) h rest = rest n
    by (Found t n) h rest = (inl h, rest n)
    by (Last t n) h rest = (inl h, tt)

pub tokens-found : (bytes : List ℕ) → AreFound (tokens_of bytes)
unfolding tokens_of
tokens-found bytes = behind-are 0 0 bytes
