-- The tables of a run and of a check of its text are proper ones, and each has the program's names first.
use Rattle.std.specs.Prelude.{◌≡◌, ℕ, zero, suc, ◌+◌, ◌/◌, ◌%◌, ◌<◌, nat_lt, Bool, true, false, ◌&&◌, ◌==◌, not, if◌then◌else◌, Option, None, Some, List, [], ◌∷◌, ◌++◌, codes, decimal, drop, length, slice_get, take, ⊤}
use Rattle.std.specs.Char.{encode_utf8}
use Rattle.std.specs.List.{take_while}
use Rattle.std.specs.Fmt.{digit_glyph, digits as numeral, digits_onto}
use Rattle.std.specs.Str.{IsAscii, IsUtf8, chars, is_utf8}
use Rattle.std.proofs.Common.{arith, refl, subst, sym}
use Rattle.std.proofs.lemmas.Bool.{and_parts}
use Rattle.std.proofs.lemmas.Str.{IsUtf8-append, IsUtf8-from_ascii, IsUtf8-from_is_utf8, IsUtf8-nil}
use Rattle.scasp_abduce.specs.NewNames.{Named, named, negated, new_name, or_empty, text_of as name_text_of}
use Rattle.scasp_abduce.specs.Occurrences.{has, names_of}
use Rattle.scasp_abduce.specs.Translation.{IsTranslation, opposed}
use Rattle.scasp_answers.specs.Blocks.Files.{indent, is_remark, split_lines}
use Rattle.scasp_answers.specs.Files.Texts.{with_lines, with_names, with_names_of, with_token, with_tokens}
use Rattle.scasp_answers_terms.specs.Tokens.Tokens.{Front, Token, bad, bar, between_quotes, bracket, close, comma, digits, digits_at, digits_below, fraction, front, front_at, is_numeral, minus, number_front, paren, plus, quoted, quoted_front, quoted_length, quoted_token, sign, sign_token, star, tokens_from, tokens_in, unbracket, value_of, variable, variable_front, word, word_front}
use Rattle.scasp_cert.specs.Text.Names.{is_plain}
use Rattle.scasp_law_answer_text.specs.LineReadback.Writable.{IsTable as IsWritingTable}
use Rattle.scasp_law_program_text.specs.CompoundReadback.Styles.{IsTable}
use Rattle.scasp_law_program_text.proofs.ReadbackLemmas.FoundTokens.{name-utf8}
use Rattle.scasp_law_program_text.proofs.TermFittingLemmas.Names.{follows_interned}
use Rattle.scasp_law_program_text.proofs.TermFittingLemmas.Tokens.{reader-starts}
use Rattle.scasp_law_tables.proofs.Places.{Grows, grows-on, grows-self, tokens-grow}
use Rattle.scasp_list.specs.Each.{Each}
use Rattle.scasp_list.proofs.EachLemmas.{Each-at}
use Rattle.scasp_name.specs.Texts.{with_text}
use Rattle.scasp_print_samples.specs.Samples.{with_samples}
use Rattle.scasp_reader_terms.specs.Steps.{start}
use Rattle.scasp_reader_tokens.specs.Bytes.{is_digit, is_lower, is_name_byte}
use Rattle.scasp_reader_tokens.specs.Quoted.{text_of}
use Rattle.scasp_reader_tokens.specs.Tokens as lexis
use Rattle.scasp_reader_tokens.proofs.Utf8Lemmas.{IsUtf8-text_of}
use Rattle.scasp_syntax.specs.declared.atom.Pred.{Pred}
use Rattle.scasp_syntax.specs.declared.program.Program.{Program}

-- ---- one text more

table-with : (names : List (List ℕ)) (text : List ℕ) → IsTable names → IsUtf8 text → IsTable (with_text names text)
table-with names text t u = (follows_interned text (start (lexis.tokens_of []) names) (reader-starts names [] t) u).reader.style.table

put-grows : (names : List (List ℕ)) (text : List ℕ) → Grows names (with_text names text)
put-grows names text = tokens-grow names (word text ∷ [])

-- a table is one for answer files
pub plain-table : (names : List (List ℕ)) → IsTable names → IsWritingTable names
plain-table names t = record { utf8 = t.utf8; distinct = t.distinct }

-- a proper table with the first names of another
pub record IsLarger (names table : List (List ℕ)) : Type 0 where
  pub grows : Grows names table
  pub is : IsTable table

with-one : (names table : List (List ℕ)) (text : List ℕ) → IsLarger names table → IsUtf8 text → IsLarger names (with_text table text)
with-one names table text h u = record { grows = grows-on names table (with_text table text) h.grows (put-grows table text); is = table-with table text h.is u }

-- ---- the names of a translation

some-text : (table : List (List ℕ)) → IsTable table → (f : ℕ) → IsUtf8 (name_text_of table f)
some-text table t f = by (slice_get table f) refl
  where
    by : (o : Option (List ℕ)) → slice_get table f ≡ o → IsUtf8 (or_empty o)
    by None e = IsUtf8-nil
    by (Some text) e = Each-at IsUtf8 table f text t.utf8 (sym e)

negated-utf8 : (text : List ℕ) → IsUtf8 text → IsUtf8 (negated text)
unfolding is_utf8 chars encode_utf8
negated-utf8 text u = IsUtf8-append (codes "no ") text (IsUtf8-from_is_utf8 (codes "no ") refl) u

new-larger : (names : List (List ℕ)) (taken : List ℕ) (tries : ℕ) (table : List (List ℕ)) (text : List ℕ) → IsLarger names table → IsUtf8 text
    → IsLarger names (new_name taken tries table text).names
new-larger names taken zero table text h u = with-one names table (negated text) h (negated-utf8 text u)
new-larger names taken (suc tries) table text h u =
    by (has taken (named table (negated text)).name) one (new-larger names taken tries (with_text table (negated text)) (negated text) one (negated-utf8 text u))
  where
    one : IsLarger names (with_text table (negated text))
    one = with-one names table (negated text) h (negated-utf8 text u)

    by : (b : Bool) → IsLarger names (named table (negated text)).names → IsLarger names (new_name taken tries (named table (negated text)).names (negated text)).names
        → IsLarger names (if b then new_name taken tries (named table (negated text)).names (negated text) else named table (negated text)).names
    by true k m = m
    by false k m = k

opposed-larger : (names : List (List ℕ)) (taken : List ℕ) (table : List (List ℕ)) (ps : List Pred) → IsLarger names table → IsLarger names (opposed taken table ps).names
opposed-larger names taken table [] h = h
opposed-larger names taken table (p ∷ ps) h =
    let new : Named = new_name taken (length taken) table (name_text_of table p.name) in
    opposed-larger names (new.name ∷ taken) new.names ps (new-larger names taken (length taken) table (name_text_of table p.name) h (some-text table h.is p.name))

pub translated-larger : (names : List (List ℕ)) (written p : Program) (table : List (List ℕ)) → IsTranslation names written p table → IsTable names → IsLarger names table
translated-larger names written p table is t =
    subst (IsLarger names) (sym is.names)
    (opposed-larger names (names_of written.clauses written.queries written.abducibles) names written.abducibles (record { grows = grows-self names; is = t }))

-- ---- the names of samples

ascii-more : (b : ℕ) (bytes : List ℕ) → b < 128 → IsAscii bytes → IsAscii (b ∷ bytes)
ascii-more b bytes h all zero = h
ascii-more b bytes h all (suc i) = all i

glyph-ascii : (d : ℕ) → d < 10 → digit_glyph false d < 128
glyph-ascii d h = by (nat_lt d 10)
  where
    by : (t : Bool) → (if t then 48 + d else 87 + d) < 128
    by true = omega (arith, h)
    by false = omega (arith, h)

digits-ascii : (k n : ℕ) (text : List ℕ) → IsAscii text → IsAscii (digits_onto k 10 false n text)
digits-ascii zero n text h = h
digits-ascii (suc k) n text h =
    let small : n % 10 < 10 = omega arith in
    let more : IsAscii (digit_glyph false (n % 10) ∷ text) = ascii-more (digit_glyph false (n % 10)) text (glyph-ascii (n % 10) small) h in
    by (n / 10 == 0) (digit_glyph false (n % 10) ∷ text) (digits_onto k 10 false (n / 10) (digit_glyph false (n % 10) ∷ text)) more (digits-ascii k (n / 10) (digit_glyph false (n % 10) ∷ text) more)
  where
    by : (t : Bool) (xs ys : List ℕ) → IsAscii xs → IsAscii ys → IsAscii (if t then xs else ys)
    by true xs ys p q = p
    by false xs ys p q = q

none-ascii : IsAscii []
none-ascii i = omega arith

decimal-utf8 : (n : ℕ) → IsUtf8 (decimal n)
unfolding numeral
decimal-utf8 n = IsUtf8-from_ascii (decimal n) (digits-ascii 64 n [] none-ascii)

sample-utf8 : (n : ℕ) → IsUtf8 (codes "w" ++ decimal n)
unfolding is_utf8 chars encode_utf8
sample-utf8 n = IsUtf8-append (codes "w") (decimal n) (IsUtf8-from_is_utf8 (codes "w") refl) (decimal-utf8 n)

pub samples-larger : (names : List (List ℕ)) (n : ℕ) → IsTable names → IsLarger names (with_samples names n)
samples-larger names zero t = record { grows = grows-self names; is = t }
samples-larger names (suc n) t = with-one names (with_samples names n) (codes "w" ++ decimal n) (samples-larger names n t) (sample-utf8 n)

pub samples-grow : (names : List (List ℕ)) (n more k : ℕ) → k ≡ more + n → Grows (with_samples names n) (with_samples names k)
samples-grow names n zero k e =
    let same : n ≡ k = omega (arith, e) in
    subst (λ (m : ℕ). Grows (with_samples names n) (with_samples names m)) same (grows-self (with_samples names n))
samples-grow names n (suc more) zero e = absurd (omega (arith, e))
samples-grow names n (suc more) (suc k) e =
    grows-on (with_samples names n) (with_samples names k) (with_samples names (suc k)) (samples-grow names n more k (omega (arith, e))) (put-grows (with_samples names k) (codes "w" ++ decimal k))

-- ---- the names of a file

-- a word, and a text in quotes, is UTF-8
abbrev IsFine : Token → Type 0
IsFine (word w) = IsUtf8 w
IsFine (quoted text) = IsUtf8 text
IsFine _ = ⊤

abbrev IsFineFront : Front → Type 0
IsFineFront f = IsFine f.token

either : (b : Bool) (f g : Front) → IsFineFront f → IsFineFront g → IsFineFront (if b then f else g)
either true f g h k = h
either false f g h k = k

fine-sign : (b : ℕ) → IsFine (sign_token b)
fine-sign b = by (b == 45) (b == 43) (b == 42) (b == 44) (b == 124) (b == 40) (b == 41) (b == 91) (b == 93)
  where
    pick : (t : Bool) (x y : Token) → IsFine x → IsFine y → IsFine (if t then x else y)
    pick true x y h k = h
    pick false x y h k = k

    by : (p q r s t u v w x : Bool) → IsFine (if p then minus else (if q then plus else (if r then star else (if s then comma else (if t then bar else (if u then paren else (if v then close else (if w then bracket else (if x then unbracket else sign b)))))))))
    by p q r s t u v w x =
        pick p minus _ tt (pick q plus _ tt (pick r star _ tt (pick s comma _ tt (pick t bar _ tt (pick u paren _ tt (pick v close _ tt (pick w bracket _ tt (pick x unbracket (sign b) tt tt))))))))

fine-number : (ds es : List ℕ) → IsFineFront (number_front ds es)
fine-number ds [] = either (is_numeral ds) (front (digits (value_of ds)) _) (front bad 0) tt tt
fine-number ds (e ∷ es) = either (is_numeral ds && is_numeral (e ∷ es)) (front (fraction (value_of ds) (value_of (e ∷ es))) _) (front bad 0) tt tt

fine-quoted : (bytes : List ℕ) → IsFine (quoted_token bytes)
fine-quoted bytes = by (is_utf8 bytes && not (is_plain bytes)) refl
  where
    by : (b : Bool) → (is_utf8 bytes && not (is_plain bytes)) ≡ b → IsFine (if b then quoted (text_of bytes) else bad)
    by true e = IsUtf8-text_of bytes (IsUtf8-from_is_utf8 bytes (and_parts (is_utf8 bytes) (not (is_plain bytes)) e).0)
    by false e = tt

fine-quotes : (bs : List ℕ) → IsFineFront (quoted_front bs)
fine-quotes bs = by (quoted_length false bs)
  where
    by : (o : Option ℕ) → IsFineFront (elim o [ None ↦ front bad (length bs) | Some n ↦ between_quotes (take n bs) ])
    by None = tt
    by (Some n) = fine-quoted (take n bs)

fine-front : (b : ℕ) (bs : List ℕ) → IsFineFront (front_at b bs)
fine-front b bs =
    either (is_lower b) (word_front (take_while is_name_byte (b ∷ bs))) _ (name-utf8 (b ∷ bs))
    (either (is_digit b) (number_front (digits_at (b ∷ bs)) (digits_below (drop (length (digits_at (b ∷ bs))) (b ∷ bs)))) _ (fine-number (digits_at (b ∷ bs)) (digits_below (drop (length (digits_at (b ∷ bs))) (b ∷ bs))))
    (either (b == 86) (variable_front (digits_at bs)) _ (either (is_numeral (digits_at bs)) (front (variable (value_of (digits_at bs))) _) (front bad 0) tt tt)
    (either (b == 39) (quoted_front bs) (front (sign_token b) 0) (fine-quotes bs) (fine-sign b))))

fine-tokens : (n : ℕ) (bytes : List ℕ) → Each IsFine (tokens_from n bytes)
fine-tokens zero [] = tt
fine-tokens (suc n) [] = tt
fine-tokens (suc n) (b ∷ bs) = fine-tokens n bs
fine-tokens zero (b ∷ bs) = (fine-front b bs, fine-tokens (front_at b bs).more bs)

all-fine : (bytes : List ℕ) → Each IsFine (tokens_in bytes)
unfolding tokens_in
all-fine bytes = fine-tokens 0 bytes

token-larger : (names table : List (List ℕ)) (t : Token) → IsLarger names table → IsFine t → IsLarger names (with_token table t)
token-larger names table (word w) h u = with-one names table w h u
token-larger names table (quoted w) h u = with-one names table w h u
token-larger names table _ h u = h

tokens-larger : (names table : List (List ℕ)) (ts : List Token) → IsLarger names table → Each IsFine ts → IsLarger names (with_tokens table ts)
tokens-larger names table [] h fine = h
tokens-larger names table (t ∷ ts) h fine = tokens-larger names (with_token table t) ts (token-larger names table t h fine.0) fine.1

line-larger : (names table : List (List ℕ)) (line : List ℕ) → IsLarger names table → IsLarger names (with_names_of table line)
line-larger names table line h = by (is_remark line)
  where
    rest : (ts : List Token) → Each IsFine ts → Each IsFine (drop 1 ts)
    rest [] fine = tt
    rest (t ∷ ts) fine = fine.1

    by : (b : Bool) → IsLarger names (if b then table else with_tokens table (drop 1 (tokens_in (drop (indent line) line))))
    by true = h
    by false = tokens-larger names table (drop 1 (tokens_in (drop (indent line) line))) h (rest (tokens_in (drop (indent line) line)) (all-fine (drop (indent line) line)))

lines-larger : (names table : List (List ℕ)) (lines : List (List ℕ)) → IsLarger names table → IsLarger names (with_lines table lines)
lines-larger names table [] h = h
lines-larger names table (line ∷ lines) h = lines-larger names (with_names_of table line) lines (line-larger names table line h)

pub file-larger : (names : List (List ℕ)) (bytes : List ℕ) → IsTable names → IsLarger names (with_names names bytes)
file-larger names bytes t = lines-larger names names (split_lines bytes).lines (record { grows = grows-self names; is = t })
