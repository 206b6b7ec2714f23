-- Variables, numbers and constants as terms.
use Rattle.std.proofs.Common.{◌≡◌, ℕ, zero, suc, ◌+◌, ◌<◌, ◌^◌, Bool, true, false, cond, not, ◌&&◌, ◌==◌, nat_lt, List, [], ◌∷◌, ◌++◌, length, codes, decimal, ℤ, pos, negsuc, ◌<ℤ◌, neg_ℤ, unsigned_abs, Option, None, Some, refl, sym, ap, subst, ◌∙◌, arith, append_assoc, append-nil}
use Rattle.std.specs.Prelude.{if◌then◌else◌, option_map}
use Rattle.std.specs.Fmt.{signed_decimal}
use Rattle.std.specs.Ordering.{int_eq}
use Rattle.std.specs.Str.{bytes_eq}
use Rattle.std.proofs.lemmas.Bool.{and_parts, false≢true}
use Rattle.std.proofs.lemmas.Bool.Decides.{nat_tests, Decides-int_eq}
use Rattle.std.proofs.lemmas.Int.{ints}
use borrow.Author.Tests.{eqb-true}
use Rattle.scasp_num.specs.Number.{Number}
use Rattle.scasp_num.specs.Arithmetic.{in_range, number}
use Rattle.scasp_num.proofs.Numbers.{number-at}
use Rattle.scasp_syntax.specs.Tm.{Tm, Tms, var, num, app, nil, cons}
use Rattle.scasp_cert.specs.Text.Names.{text_at, name_text, constant_text, is_plain}
use Rattle.scasp_cert.specs.Text.Terms.{var_text, number_text, term_text}
use Rattle.scasp_reader_terms.specs.Names.{place_in}
use Rattle.scasp_answers_terms.specs.Tokens.Tokens.{Token, word, quoted, variable, digits, fraction, minus, bracket, unbracket, tokens_in}
use Rattle.scasp_answers_terms.specs.Tokens.Names.{name_of}
use Rattle.scasp_answers_terms.specs.Tokens.Bounds.{is_place, is_count, bounded_place, term_fits}
use Rattle.scasp_answers_terms.specs.Tokens.Terms.{Bracket, wants, ends, variable_term, whole, quotient, constant, called}
use Rattle.scasp_law_answer_text.specs.LineReadback.Endings.{ends_part}
use Rattle.scasp_law_answer_text.specs.LineReadback.Writable.{IsTable}
use Rattle.scasp_law_answer_text.proofs.LineReadbackLemmas.Fronts.{AtEnds, at-ends, ends-name, ends-digits, minus-read, empty-read}
use Rattle.scasp_law_answer_text.proofs.LineReadbackLemmas.Words.{name_token, name-read, named-word, plain-other}
use Rattle.scasp_law_answer_text.proofs.LineReadbackLemmas.Numerals.{digits-read, fraction-read, variable-read}
use Rattle.scasp_law_answer_text.proofs.LineReadbackLemmas.Table.{text-utf8, text-place}

-- the text is read as this term, on each level, before these bytes
abbrev pub IsTerm : (List ℕ → ℕ) → List ℕ → Tm → List ℕ → Type 0
IsTerm place text t rest = (opens : List Bracket) (before : List Tm) → wants place opens before (tokens_in (text ++ rest)) ≡ ends place opens before (Some t) (tokens_in rest)

-- ---- a variable

pub place-below : (x : ℕ) → is_place x ≡ true → x < 2 ^ 128
place-below x h = let small : x < 2 ^ 63 = grind (arith, nat_tests) in omega (arith, small)

pub count-below : (n : ℕ) → is_count n ≡ true → n < 2 ^ 128
count-below n h = let small : n < 2 ^ 64 = grind (arith, nat_tests) in omega (arith, small)

pub place-same : (x : ℕ) → is_place x ≡ true → bounded_place x ≡ x
place-same x h = rw h refl

pub variable-term : (place : List ℕ → ℕ) (x : ℕ) (rest : List ℕ) → is_place x ≡ true → ends_part rest ≡ true → IsTerm place (var_text x) (var x) rest
variable-term place x rest h end opens before =
    ap (wants place opens before) (variable-read x rest (place-below x h) (ends-digits rest end))
    ∙ ap (λ y. ends place opens before (Some (var y)) (tokens_in rest)) (place-same x h)

-- ---- a number

pub integer-below : (n : ℕ) → in_range (pos n) ≡ true → n < 2 ^ 128
integer-below n h = let small : n < 2 ^ 127 = grind (arith, nat_tests) in omega (arith, small)

-- the token of n, or of n/k
abbrev pub size_token : ℕ → ℕ → Bool → Token
size_token n k is_whole = cond is_whole (digits n) (fraction n k)

abbrev pub number_tokens : ℤ → ℕ → Bool → List Token
number_tokens (pos n) k is_whole = size_token n k is_whole ∷ []
number_tokens (negsuc n) k is_whole = minus ∷ size_token (suc n) k is_whole ∷ []

-- how z/k is written
abbrev pub parts_text : ℤ → ℕ → Bool → List ℕ
parts_text z k is_whole = signed_decimal z ++ (if is_whole then [] else codes "/" ++ signed_decimal (pos k))

size-read : (n k : ℕ) (is_whole : Bool) (rest : List ℕ) → n < 2 ^ 128 → k < 2 ^ 128 → ends_part rest ≡ true
    → tokens_in ((decimal n ++ (if is_whole then [] else 47 ∷ decimal k)) ++ rest) ≡ size_token n k is_whole ∷ tokens_in rest
size-read n k true rest hn hk end = ap (λ r. tokens_in (r ++ rest)) (append-nil (decimal n)) ∙ digits-read n rest hn (ends-digits rest end)
size-read n k false rest hn hk end = ap tokens_in (append_assoc (decimal n) (47 ∷ decimal k) rest) ∙ fraction-read n k rest hn hk (ends-digits rest end)

pub number-read : (z : ℤ) (k : ℕ) (is_whole : Bool) (rest : List ℕ) → in_range z ≡ true → in_range (pos k) ≡ true → ends_part rest ≡ true
    → tokens_in (parts_text z k is_whole ++ rest) ≡ number_tokens z k is_whole ++ tokens_in rest
number-read (pos n) k t rest hn hk end = size-read n k t rest (integer-below n hn) (integer-below k hk) end
number-read (negsuc n) k t rest hn hk end =
    minus-read ((decimal (suc n) ++ (if t then [] else 47 ∷ decimal k)) ++ rest)
    ∙ ap (λ ts. minus ∷ ts) (size-read (suc n) k t rest (integer-below (suc n) hn) (integer-below k hk) end)

module _ (q : Number) where
  is-one : (k : ℕ) → int_eq (pos k) (pos 1) ≡ true → pos k ≡ pos 1
  is-one k t = (Decides-int_eq (pos k) (pos 1)).0 t

  above-one : (k : ℕ) → q.den ≡ pos k → int_eq (pos k) (pos 1) ≡ false → nat_lt 1 k ≡ true
  above-one zero e t = let p : pos 0 <ℤ pos 0 = subst (λ d. pos 0 <ℤ d) e q.reduced.positive in absurd (omega (arith, ints, p))
  above-one (suc zero) e t = absurd (false≢true (sym t))
  above-one (suc (suc k)) e t = grind (arith, nat_tests)

  -- what holds of each way to write a number
  pub by-number : (P : List ℕ → Type 0)
      → ((z : ℤ) (k : ℕ) (t : Bool) → q.num ≡ z → q.den ≡ pos k → in_range z ≡ true → in_range (pos k) ≡ true → int_eq (pos k) (pos 1) ≡ t → P (parts_text z k t))
      → term_fits (num q) ≡ true → P (number_text q)
  by-number P f h = by q.den refl
    where
      parts : (in_range q.num ≡ true) × (in_range q.den ≡ true)
      parts = and_parts (in_range q.num) (in_range q.den) h

      by : (d : ℤ) → q.den ≡ d → P (signed_decimal q.num ++ (if int_eq d (pos 1) then [] else codes "/" ++ signed_decimal d))
      by (pos k) e = f q.num k (int_eq (pos k) (pos 1)) refl e parts.0 (ap in_range (sym e) ∙ parts.1) refl
      by (negsuc k) e = let p : pos 0 <ℤ negsuc k = subst (λ d. pos 0 <ℤ d) e q.reduced.positive in absurd (omega (arith, ints, p))

  whole-same : (z : ℤ) → in_range z ≡ true → q.num ≡ z → q.den ≡ pos 1 → whole z ≡ Some (num q)
  whole-same z h en ed = rw h (ap (option_map num) (sym (number-at q z (pos 1) en ed)))

  quotient-same : (z : ℤ) (k : ℕ) → nat_lt 1 k ≡ true → in_range z ≡ true → in_range (pos k) ≡ true → q.num ≡ z → q.den ≡ pos k → quotient z k ≡ Some (num q)
  quotient-same z k above hn hk en ek = rw (above, hn, hk) (ap (option_map num) (sym (number-at q z (pos k) en ek)))

  not-zero : (n : ℕ) → (suc n == 0) ≡ false
  not-zero n = grind (arith, nat_tests)

  pub number-value : (place : List ℕ → ℕ) (opens : List Bracket) (before : List Tm) (ts : List Token) (z : ℤ) (k : ℕ) (t : Bool) → q.num ≡ z → q.den ≡ pos k → in_range z ≡ true → in_range (pos k) ≡ true
      → int_eq (pos k) (pos 1) ≡ t → wants place opens before (number_tokens z k t ++ ts) ≡ ends place opens before (Some (num q)) ts
  number-value place opens before ts (pos n) k true en ek hn hk t = ap (λ o. ends place opens before o ts) (whole-same (pos n) hn en (ek ∙ is-one k t))
  number-value place opens before ts (negsuc n) k true en ek hn hk t =
      ap (λ b. if b then None else ends place opens before (whole (negsuc n)) ts) (not-zero n) ∙ ap (λ o. ends place opens before o ts) (whole-same (negsuc n) hn en (ek ∙ is-one k t))
  number-value place opens before ts (pos n) k false en ek hn hk t = ap (λ o. ends place opens before o ts) (quotient-same (pos n) k (above-one k ek t) hn hk en ek)
  number-value place opens before ts (negsuc n) k false en ek hn hk t = ap (λ o. ends place opens before o ts) (quotient-same (negsuc n) k (above-one k ek t) hn hk en ek)

pub number-term : (place : List ℕ → ℕ) (q : Number) (rest : List ℕ) → term_fits (num q) ≡ true → ends_part rest ≡ true → IsTerm place (number_text q) (num q) rest
number-term place q rest h end =
    by-number q (λ text. IsTerm place text (num q) rest)
    (λ z k t en ek hn hk ht opens before.
    ap (wants place opens before) (number-read z k t rest hn hk end) ∙ number-value q place opens before (tokens_in rest) z k t en ek hn hk ht)
    h

-- ---- a name without arguments

ends-word : (place : List ℕ → ℕ) (opens : List Bracket) (before : List Tm) (w rest : List ℕ) → ends_part rest ≡ true
    → wants place opens before (word w ∷ tokens_in rest) ≡ ends place opens before (constant (option_map place (name_of (word w)))) (tokens_in rest)
unfolding tokens_in
ends-word place opens before w rest end =
    at-ends (λ r. wants place opens before (word w ∷ tokens_in r) ≡ ends place opens before (constant (option_map place (name_of (word w)))) (tokens_in r)) (record {
      none = refl;
      blank = λ r. refl;
      close = λ r. refl;
      star = λ r. refl;
      plus = λ r. refl;
      comma = λ r. refl;
      minus = λ r. refl;
      point = λ r. refl;
      semicolon = λ r. refl;
      unbracket = λ r. refl;
      bar = λ r. refl;
    }) rest end

ends-quoted : (place : List ℕ → ℕ) (opens : List Bracket) (before : List Tm) (text rest : List ℕ) → ends_part rest ≡ true
    → wants place opens before (quoted text ∷ tokens_in rest) ≡ ends place opens before (constant (Some (place text))) (tokens_in rest)
unfolding tokens_in
ends-quoted place opens before text rest end =
    at-ends (λ r. wants place opens before (quoted text ∷ tokens_in r) ≡ ends place opens before (constant (Some (place text))) (tokens_in r)) (record {
      none = refl;
      blank = λ r. refl;
      close = λ r. refl;
      star = λ r. refl;
      plus = λ r. refl;
      comma = λ r. refl;
      minus = λ r. refl;
      point = λ r. refl;
      semicolon = λ r. refl;
      unbracket = λ r. refl;
      bar = λ r. refl;
    }) rest end

pub name-ends : (place : List ℕ → ℕ) (opens : List Bracket) (before : List Tm) (text rest : List ℕ) → ends_part rest ≡ true
    → wants place opens before (name_token text ∷ tokens_in rest) ≡ ends place opens before (constant (Some (place text))) (tokens_in rest)
name-ends place opens before text rest end = by (is_plain text) refl
  where
    by : (plain : Bool) → is_plain text ≡ plain
        → wants place opens before (cond plain (word text) (quoted text) ∷ tokens_in rest) ≡ ends place opens before (constant (Some (place text))) (tokens_in rest)
    by true e =
        ends-word place opens before text rest end
        ∙ ap (λ o. ends place opens before (constant (option_map place o)) (tokens_in rest)) (named-word text (plain-other text e))
    by false e = ends-quoted place opens before text rest end

constant-same : (f : ℕ) → (f == 0) ≡ false → constant (Some f) ≡ Some (app f nil)
constant-same f e = rw e refl

module _ (names : List (List ℕ)) (table : IsTable names) where
  pub name-term : (f : ℕ) (rest : List ℕ) → nat_lt f (length names) ≡ true → (f == 0) ≡ false → ends_part rest ≡ true → IsTerm (place_in names) (name_text names f) (app f nil) rest
  name-term f rest h other end opens before =
      let place = place_in names in
      ap (wants place opens before) (name-read (text_at names f) rest (text-utf8 names table f h) (ends-name rest end))
      ∙ name-ends place opens before (text_at names f) rest end
      ∙ ap (λ g. ends place opens before (constant (Some g)) (tokens_in rest)) (text-place names table f h)
      ∙ ap (λ o. ends place opens before o (tokens_in rest)) (constant-same f other)

  pub constant-term : (f : ℕ) (rest : List ℕ) → nat_lt f (length names) ≡ true → ends_part rest ≡ true → IsTerm (place_in names) (constant_text names f) (app f nil) rest
  constant-term f rest h end = by (f == 0) refl
    where
      by : (t : Bool) → (f == 0) ≡ t → IsTerm (place_in names) (if t then codes "[]" else name_text names f) (app f nil) rest
      by true e =
          λ opens before.
          ap (wants (place_in names) opens before) (empty-read rest) ∙ ap (λ g. ends (place_in names) opens before (Some (app g nil)) (tokens_in rest)) (sym (eqb-true f 0 e))
      by false e = name-term f rest h e end
