-- A name that is written is read back.
use Rattle.std.proofs.Common.{◌≡◌, ℕ, ◌+◌, ◌<◌, Bool, true, false, cond, not, ◌&&◌, ◌||◌, ◌==◌, List, [], ◌∷◌, ◌++◌, length, take, drop, None, Some, codes, flat_map, nat_lt, min, refl, sym, ap, ◌∙◌, subst, arith, append_assoc, length-append}
use Rattle.std.specs.List.{list_all, take_while}
use Rattle.std.specs.Str.{IsUtf8, bytes_eq}
use Rattle.std.specs.Char.{is_ascii_lowercase}
use Rattle.std.specs.Str.Lossy.{utf8_valid_len}
use Rattle.std.proofs.lemmas.Bool.{and_parts}
use Rattle.std.proofs.lemmas.List.Sums.{take_while-cons}
use Rattle.std.proofs.lemmas.Bool.Decides.{nat_tests}
use Rattle.std.proofs.lemmas.Str.{utf8_valid_len-IsUtf8}
use Rattle.std.proofs.Math.Seq.{take-append_seam}
use Rattle.scasp_cert.specs.Text.Names.{escaped, is_plain, is_word, is_word_byte, quoted_text}
use Rattle.scasp_reader_tokens.specs.declared.token.Token.TheVariants as token
use Rattle.scasp_reader_tokens.specs.declared.token.Front.{Front}
use Rattle.scasp_reader_tokens.specs.declared.token.Front.TheVariants.{Found, Last}
use Rattle.scasp_reader_tokens.specs.Bytes.{is_blank, is_lower, is_name_byte, begins}
use Rattle.scasp_reader_tokens.specs.Quoted.{quoted_length, text_of, length_before_bad, good_length}
use Rattle.scasp_reader_tokens.specs.Tokens.{front, placed, tokens_behind, word, word_token, quoted_name, between_quotes}
use Rattle.scasp_law_program_text.specs.Readback.Endings.{ends_name}
use Rattle.scasp_law_program_text.proofs.ReadbackLemmas.Fronts.{found-read}
use Rattle.scasp_law_program_text.proofs.ReadbackLemmas.QuotedNames.{text_of-escapes, bad-escapes, length-escapes, escapes-IsUtf8}

-- ---- a word

pub not-true : (b : Bool) → not b ≡ true → b ≡ false
not-true true e = cc
not-true false e = refl

pub ends-word : (rest : List ℕ) → ends_name rest ≡ true → take_while is_name_byte rest ≡ []
ends-word [] e = refl
ends-word (b ∷ rest) e = rw (not-true (is_name_byte b) (and_parts (not (is_name_byte b)) (not (b == 39)) e).0) refl

same-byte : (b : ℕ) → is_word_byte b ≡ true → is_name_byte b ≡ true
same-byte b e = grind (arith, nat_tests)

pub one-taken : (b : ℕ) (bytes name : List ℕ) → is_name_byte b ≡ true → take_while is_name_byte bytes ≡ name → take_while is_name_byte (b ∷ bytes) ≡ b ∷ name
one-taken b bytes name e h =
    take_while-cons is_name_byte b bytes ∙ ap (λ t. cond t (b ∷ take_while is_name_byte bytes) []) e ∙ ap (λ r. b ∷ r) h

pub all-taken : (bytes rest : List ℕ) → list_all is_word_byte bytes ≡ true → ends_name rest ≡ true → take_while is_name_byte (bytes ++ rest) ≡ bytes
all-taken [] rest e end = ends-word rest end
all-taken (b ∷ bytes) rest e end =
    let parts = and_parts (is_word_byte b) (list_all is_word_byte bytes) e in
    one-taken b (bytes ++ rest) bytes (same-byte b parts.0) (all-taken bytes rest parts.1 end)

lower-front : (b : ℕ) (bytes : List ℕ) → is_ascii_lowercase b ≡ true → front (b ∷ bytes) ≡ word (b ∷ bytes)
lower-front b bytes e =
    let blank : is_blank b ≡ false = grind (arith, nat_tests) in
    let percent : (b == 37) ≡ false = grind (arith, nat_tests) in
    let slash : begins (b ∷ bytes) (codes "/*") ≡ false = grind (arith, nat_tests) in
    let lower : is_lower b ≡ true = grind (arith, nat_tests) in
    rw (blank, percent, slash, lower) refl

plain-front : (text rest : List ℕ) → is_plain text ≡ true → ends_name rest ≡ true → front (text ++ rest) ≡ Found (token.Name text) (length text)
plain-front [] rest e end = cc
plain-front (b ∷ text) rest e end =
    let parts = and_parts (is_word (b ∷ text)) (not (bytes_eq (b ∷ text) (codes "not"))) e in
    let letters = and_parts (is_ascii_lowercase b) (list_all is_word_byte text) parts.0 in
    let byte : is_word_byte b ≡ true = grind (arith, nat_tests, letters.0) in
    let all : take_while is_name_byte ((b ∷ text) ++ rest) ≡ b ∷ text = one-taken b (text ++ rest) text (same-byte b byte) (all-taken text rest letters.1 end) in
    lower-front b (text ++ rest) letters.0
    ∙ ap (λ t. Found (word_token t) (length t)) all
    ∙ rw (not-true (bytes_eq (b ∷ text) (codes "not")) parts.1) refl

-- ---- a name in quotes

ends-quote : (rest : List ℕ) → ends_name rest ≡ true → quoted_length (39 ∷ rest) ≡ Some 0
ends-quote [] e = refl
ends-quote (b ∷ rest) e = rw (not-true (b == 39) (and_parts (not (is_name_byte b)) (not (b == 39)) e).1) refl

all-good : (text : List ℕ) → IsUtf8 text → good_length (flat_map escaped text) ≡ length (flat_map escaped text)
all-good text u =
    let bytes = flat_map escaped text in
    ap (λ o. elim o [ None ↦ utf8_valid_len bytes | Some n ↦ min n (utf8_valid_len bytes) ]) (bad-escapes text)
    ∙ utf8_valid_len-IsUtf8 bytes (escapes-IsUtf8 text u)

not-below : (n : ℕ) → nat_lt n n ≡ false
not-below n = grind (arith, nat_tests)

between-front : (text : List ℕ) → IsUtf8 text → between_quotes (flat_map escaped text) ≡ Found (token.Name text) (length (flat_map escaped text) + 2)
between-front text u =
    let n = length (flat_map escaped text) in
    rw (all-good text u) (rw (not-below n) (ap (λ t. Found (token.Name t) (n + 2)) (text_of-escapes text)))

quoted-front : (text rest : List ℕ) → IsUtf8 text → ends_name rest ≡ true
    → front (39 ∷ (flat_map escaped text ++ 39 ∷ rest)) ≡ Found (token.Name text) (length (flat_map escaped text) + 2)
quoted-front text rest u end =
    let bytes = flat_map escaped text ++ 39 ∷ rest in
    ap (λ o. elim o [ None ↦ Last token.Unclosed 0 | Some n ↦ between_quotes (take n bytes) ]) (length-escapes text (39 ∷ rest) (ends-quote rest end))
    ∙ ap between_quotes (take-append_seam (flat_map escaped text) (39 ∷ rest)) ∙ between-front text u

-- ---- any name

pub name-read : (text rest : List ℕ) (at : ℕ) → IsUtf8 text → ends_name rest ≡ true
    → tokens_behind 0 at (quoted_text text ++ rest) ≡ placed at (token.Name text) ∷ tokens_behind 0 (at + length (quoted_text text)) rest
name-read text rest at u end = by (is_plain text) refl
  where
    written : Bool → List ℕ
    written plain = cond plain text (codes "'" ++ flat_map escaped text ++ codes "'")

    by-word : (t : List ℕ) → is_plain t ≡ true → tokens_behind 0 at (t ++ rest) ≡ placed at (token.Name t) ∷ tokens_behind 0 (at + length t) rest
    by-word [] e = cc
    by-word (b ∷ t) e = found-read b t rest (token.Name (b ∷ t)) at (plain-front (b ∷ t) rest e end)

    by : (plain : Bool) → is_plain text ≡ plain
        → tokens_behind 0 at (written plain ++ rest) ≡ placed at (token.Name text) ∷ tokens_behind 0 (at + length (written plain)) rest
    by true e = by-word text e
    by false e =
        let inner = flat_map escaped text ++ codes "'" in
        let l : length (flat_map escaped text) + 2 ≡ length (39 ∷ inner) = omega (arith, length-append (flat_map escaped text) (codes "'")) in
        found-read 39 inner rest (token.Name text) at
        (ap (λ r. front (39 ∷ r)) (append_assoc (flat_map escaped text) (codes "'") rest) ∙ quoted-front text rest u end ∙ ap (Found (token.Name text)) l)
