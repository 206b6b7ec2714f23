-- The token of a name's text.
use Rattle.std.proofs.Common.{◌≡◌, ℕ, ◌+◌, ◌-◌, Bool, true, false, cond, not, ◌&&◌, ◌||◌, ◌==◌, List, [], ◌∷◌, ◌++◌, length, take, Option, None, Some, codes, flat_map, refl, sym, ap, ◌∙◌, subst, arith, append_assoc, length-append}
use Rattle.std.specs.List.{list_all, take_while}
use Rattle.std.specs.Str.{IsUtf8, is_utf8, bytes_eq}
use Rattle.std.specs.Char.{is_ascii_lowercase}
use Rattle.std.proofs.lemmas.Bool.{and_parts, and_from, false≢true}
use Rattle.std.proofs.lemmas.Bool.Decides.{nat_tests}
use Rattle.std.proofs.lemmas.Str.{is_utf8-from_IsUtf8}
use Rattle.std.proofs.Math.Seq.{take-append_seam}
use Rattle.scasp_cert.specs.Text.Names.{escaped, is_plain, is_word, is_word_byte, quoted_text}
use Rattle.scasp_reader_tokens.specs.Bytes.{is_lower, is_name_byte, farther}
use Rattle.scasp_reader_tokens.specs.Quoted.{text_of, byte_of_escape, is_escape}
use Rattle.scasp_law_program_text.specs.Readback.Endings.{ends_name}
use Rattle.scasp_law_program_text.proofs.ReadbackLemmas.NameReading.{not-true, one-taken, all-taken}
use Rattle.scasp_law_program_text.proofs.ReadbackLemmas.QuotedNames.{Escape, pair, alone, escape-of, text_of-escapes, escapes-IsUtf8}
use Rattle.scasp_answers_terms.specs.declared.tokens.token.QuoteStep.{QuoteStep}
use Rattle.scasp_answers_terms.specs.declared.tokens.token.QuoteStep.TheVariants.{Inside, Closing, Unwritten}
use Rattle.scasp_answers_terms.specs.Tokens.Tokens.{Token, word, quoted, bad, Front, front, front_at, tokens_in, word_front, quoted_front, quoted_length, between_quotes, quote_step}
use Rattle.scasp_answers_terms.specs.Tokens.Names.{name_of}
use Rattle.scasp_law_answer_text.proofs.LineReadbackLemmas.Fronts.{token-read}

-- ---- a word

lower-front : (b : ℕ) (bytes : List ℕ) → is_ascii_lowercase b ≡ true → front_at b bytes ≡ word_front (take_while is_name_byte (b ∷ bytes))
lower-front b bytes e = let lower : is_lower b ≡ true = grind (arith, nat_tests) in rw lower refl

pub word-read : (text rest : List ℕ) → is_word text ≡ true → ends_name rest ≡ true → tokens_in (text ++ rest) ≡ word text ∷ tokens_in rest
word-read [] rest e end = absurd (false≢true e)
word-read (b ∷ text) rest e end =
    let letters = and_parts (is_ascii_lowercase b) (list_all is_word_byte text) e in
    let byte : is_name_byte b ≡ true = grind (arith, nat_tests, letters.0) in
    let all : take_while is_name_byte ((b ∷ text) ++ rest) ≡ b ∷ text = one-taken b (text ++ rest) text byte (all-taken text rest letters.1 end) in
    let more : length (b ∷ text) - 1 ≡ length text = omega arith in
    token-read b text rest (word (b ∷ text)) (lower-front b (text ++ rest) letters.0 ∙ ap word_front all ∙ ap (front (word (b ∷ text))) more)

-- ---- a text in quotes

length-escape : (c : ℕ) (bytes : List ℕ) (k : ℕ) → quoted_length false bytes ≡ Some k → quoted_length false (escaped c ++ bytes) ≡ Some (k + length (escaped c))
length-escape c bytes k h = by (c == 39) (c == 92) (c == 10) (c == 9) refl refl refl refl
  where
    two : (d : ℕ) → is_escape d ≡ true → quoted_length false (92 ∷ d ∷ bytes) ≡ Some (k + 2)
    two d e = rw (e, h) (let same : k + 1 + 1 ≡ k + 2 = omega arith in ap Some same)

    by : (q b n t : Bool) → (c == 39) ≡ q → (c == 92) ≡ b → (c == 10) ≡ n → (c == 9) ≡ t → quoted_length false (escaped c ++ bytes) ≡ Some (k + length (escaped c))
    by true b n t eq eb en et = rw eq (two 39 refl)
    by false true n t eq eb en et = rw (eq, eb) (two 92 refl)
    by false false true t eq eb en et = rw (eq, eb, en) (two 110 refl)
    by false false false true eq eb en et = rw (eq, eb, en, et) (two 116 refl)
    by false false false false eq eb en et = rw (eq, eb, en, et) (rw (eq, eb, en, et) (rw h refl))

length-escapes : (text rest : List ℕ) → quoted_length false (flat_map escaped text ++ 39 ∷ rest) ≡ Some (length (flat_map escaped text))
length-escapes [] rest = refl
length-escapes (c ∷ text) rest =
    let n : length (flat_map escaped text) + length (escaped c) ≡ length (escaped c ++ flat_map escaped text) = omega (arith, length-append (escaped c) (flat_map escaped text)) in
    ap (quoted_length false) (append_assoc (escaped c) (flat_map escaped text) (39 ∷ rest))
    ∙ length-escape c (flat_map escaped text ++ 39 ∷ rest) (length (flat_map escaped text)) (length-escapes text rest)
    ∙ ap Some n

-- a text whose bytes are those of words is written by itself
unescaped : (text : List ℕ) → list_all is_word_byte (flat_map escaped text) ≡ true → flat_map escaped text ≡ text
unescaped [] e = refl
unescaped (c ∷ text) e = by (escape-of c) (unescaped text)
  where
    by : Escape c → (list_all is_word_byte (flat_map escaped text) ≡ true → flat_map escaped text ≡ text) → flat_map escaped (c ∷ text) ≡ c ∷ text
    by (pair d s is can) more = absurd (false≢true (subst (λ x. list_all is_word_byte (x ++ flat_map escaped text) ≡ true) s e))
    by (alone s b q) more =
        let here : list_all is_word_byte (c ∷ flat_map escaped text) ≡ true = subst (λ x. list_all is_word_byte (x ++ flat_map escaped text) ≡ true) s e in
        ap (λ x. x ++ flat_map escaped text) s ∙ ap (λ r. c ∷ r) (more (and_parts (is_word_byte c) (list_all is_word_byte (flat_map escaped text)) here).1)

word-bytes : (text : List ℕ) → is_word text ≡ true → list_all is_word_byte text ≡ true
word-bytes [] e = refl
word-bytes (c ∷ text) e =
    let letters = and_parts (is_ascii_lowercase c) (list_all is_word_byte text) e in
    let byte : is_word_byte c ≡ true = grind (arith, nat_tests, letters.0) in
    and_from (is_word_byte c) (list_all is_word_byte text) byte letters.1

not-plain : (text : List ℕ) → is_plain text ≡ false → is_plain (flat_map escaped text) ≡ false
not-plain text e = by (is_plain (flat_map escaped text)) refl
  where
    by : (t : Bool) → is_plain (flat_map escaped text) ≡ t → is_plain (flat_map escaped text) ≡ false
    by false h = h
    by true h =
        let word = (and_parts (is_word (flat_map escaped text)) (not (bytes_eq (flat_map escaped text) (codes "not"))) h).0 in
        ap is_plain (unescaped text (word-bytes (flat_map escaped text) word)) ∙ e

between-front : (text : List ℕ) → IsUtf8 text → is_plain text ≡ false → between_quotes (flat_map escaped text) ≡ front (quoted text) (length (flat_map escaped text) + 1)
between-front text u p =
    let bytes = flat_map escaped text in
    let e : is_utf8 bytes ≡ true = is_utf8-from_IsUtf8 bytes (escapes-IsUtf8 text u) in
    let q : is_plain bytes ≡ false = not-plain text p in
    rw (e, q) (ap (λ t. front (quoted t) (length bytes + 1)) (text_of-escapes text))

quoted-front : (text rest : List ℕ) → IsUtf8 text → is_plain text ≡ false → quoted_front (flat_map escaped text ++ 39 ∷ rest) ≡ front (quoted text) (length (flat_map escaped text) + 1)
quoted-front text rest u p =
    let bytes = flat_map escaped text ++ 39 ∷ rest in
    ap (λ o. elim o [ None ↦ front bad (length bytes) | Some n ↦ between_quotes (take n bytes) ]) (length-escapes text rest)
    ∙ ap between_quotes (take-append_seam (flat_map escaped text) (39 ∷ rest)) ∙ between-front text u p

pub quoted-read : (text rest : List ℕ) → IsUtf8 text → is_plain text ≡ false → tokens_in ((codes "'" ++ flat_map escaped text ++ codes "'") ++ rest) ≡ quoted text ∷ tokens_in rest
quoted-read text rest u p =
    let inner = flat_map escaped text ++ codes "'" in
    let n : length (flat_map escaped text) + 1 ≡ length inner = omega (arith, length-append (flat_map escaped text) (codes "'")) in
    token-read 39 inner rest (quoted text)
    (ap quoted_front (append_assoc (flat_map escaped text) (codes "'") rest) ∙ quoted-front text rest u p ∙ ap (front (quoted text)) n)

-- ---- any name

abbrev pub name_token : List ℕ → Token
name_token text = cond (is_plain text) (word text) (quoted text)

pub name-read : (text rest : List ℕ) → IsUtf8 text → ends_name rest ≡ true → tokens_in (quoted_text text ++ rest) ≡ name_token text ∷ tokens_in rest
name-read text rest u end = by (is_plain text) refl
  where
    by : (plain : Bool) → is_plain text ≡ plain → tokens_in (cond plain text (codes "'" ++ flat_map escaped text ++ codes "'") ++ rest) ≡ cond plain (word text) (quoted text) ∷ tokens_in rest
    by true e = word-read text rest (and_parts (is_word text) (not (bytes_eq text (codes "not"))) e).0 end
    by false e = quoted-read text rest u e

pub plain-bytes : (text : List ℕ) → is_plain text ≡ true → list_all is_word_byte text ≡ true
plain-bytes text e = word-bytes text (and_parts (is_word text) (not (bytes_eq text (codes "not"))) e).0

pub named-word : (text : List ℕ) → bytes_eq text (codes "not") ≡ false → name_of (word text) ≡ Some text
named-word text e = rw e refl

pub plain-other : (text : List ℕ) → is_plain text ≡ true → bytes_eq text (codes "not") ≡ false
plain-other text e = not-true (bytes_eq text (codes "not")) (and_parts (is_word text) (not (bytes_eq text (codes "not"))) e).1
