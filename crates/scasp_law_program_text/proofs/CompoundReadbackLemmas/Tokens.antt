-- How many tokens a text has at least.
use Rattle.std.proofs.Common.{◌≡◌, ℕ, suc, ◌+◌, ◌≤◌, ◌<◌, ◌%◌, ◌^◌, Bool, true, false, ◌==◌, List, [], ◌∷◌, ◌++◌, length, codes, decimal, ℤ, pos, negsuc, ◌<ℤ◌, refl, sym, ap, subst, ◌∙◌, arith, lit≤, lit<, append_assoc, append-nil, length-append}
use Rattle.std.specs.Prelude.{if◌then◌else◌}
use Rattle.std.specs.Fmt.{signed_decimal}
use Rattle.std.specs.List.{list_all}
use Rattle.std.specs.Ordering.{int_eq}
use Rattle.std.specs.Str.{IsUtf8}
use Rattle.std.proofs.lemmas.Bool.{and_parts}
use Rattle.std.proofs.lemmas.Bool.Decides.{nat_tests}
use Rattle.std.proofs.lemmas.Fmt.{decimal_by_steps_wide}
use Rattle.std.proofs.lemmas.Int.{ints}
use Rattle.scasp_num.specs.Number.{Number, InRange}
use Rattle.scasp_num.specs.Arithmetic.{in_range, lowest}
use Rattle.scasp_num.proofs.Numbers.{ltb_lt}
use Rattle.scasp_reader_tokens.specs.Bytes.{is_digit}
use Rattle.scasp_reader_tokens.specs.declared.sign.Sign.{Sign}
use Rattle.scasp_reader_tokens.specs.declared.sign.Sign.TheVariants as sign
use Rattle.scasp_reader_tokens.specs.declared.token.Placed.{Placed}
use Rattle.scasp_reader_tokens.specs.declared.token.Token.{Token}
use Rattle.scasp_reader_tokens.specs.declared.token.Token.TheVariants as token
use Rattle.scasp_reader_tokens.specs.Tokens.{placed, tokens_behind}
use Rattle.scasp_cert.specs.Text.Names.{quoted_text}
use Rattle.scasp_cert.specs.Text.Terms.{number_text}
use Rattle.scasp_law_program_text.specs.Readback.Endings.{ends_name, ends_number, is_variable_text}
use Rattle.scasp_law_program_text.specs.Readback.SignTexts.{Reads}
use Rattle.scasp_law_program_text.proofs.ReadbackLemmas.NameReading.{name-read}
use Rattle.scasp_law_program_text.proofs.ReadbackLemmas.NumberReading.{number-read, decimal-digits}
use Rattle.scasp_law_program_text.proofs.ReadbackLemmas.SignReading.{minus_read, over_read}
use Rattle.scasp_law_program_text.proofs.ReadbackLemmas.VariableReading.{variable-read}
use Rattle.scasp_law_program_text.specs.CompoundReadback.Fitting.{number_fits}

-- the text has so many tokens at least, before these bytes
abbrev pub Has : ℕ → List ℕ → List ℕ → Type 0
Has k text rest = (at : ℕ) → k + length (tokens_behind 0 (at + length text) rest) ≤ length (tokens_behind 0 at (text ++ rest))

pub has-append : (j k : ℕ) (a b rest : List ℕ) → Has j a (b ++ rest) → Has k b rest → Has (j + k) (a ++ b) rest
has-append j k a b rest h g at =
    let place : at + length (a ++ b) ≡ at + length a + length b = omega (arith, length-append a b) in
    rw (place, append_assoc a b rest) (omega (arith, h at, g (at + length a)))

pub has-fewer : (j k : ℕ) (text rest : List ℕ) → j ≤ k → Has k text rest → Has j text rest
has-fewer j k text rest le h at = omega (arith, h at)

pub has-none : (rest : List ℕ) → Has 0 [] rest
has-none rest at = let e : at + 0 ≡ at = omega arith in subst (λ a. 0 + length (tokens_behind 0 a rest) ≤ length (tokens_behind 0 at rest)) (sym e) (omega arith)

pub has-token : (p : ℕ → Placed) (text rest : List ℕ) → ((at : ℕ) → tokens_behind 0 at (text ++ rest) ≡ p at ∷ tokens_behind 0 (at + length text) rest) → Has 1 text rest
has-token p text rest e at = rw (e at) (omega arith)

pub sign-has : (text : List ℕ) (s : Sign) → Reads text s → (rest : List ℕ) → Has 1 text rest
sign-has text s read rest = has-token (λ at. placed at (token.Sign s)) text rest (read rest)

pub name-has : (text rest : List ℕ) → IsUtf8 text → ends_name rest ≡ true → Has 1 (quoted_text text) rest
name-has text rest u end = has-token (λ at. placed at (token.Name text)) (quoted_text text) rest (λ at. name-read text rest at u end)

pub variable-has : (text rest : List ℕ) → is_variable_text text ≡ true → ends_name rest ≡ true → Has 1 text rest
variable-has text rest v end = has-token (λ at. placed at (token.Variable text)) text rest (λ at. variable-read text rest at v end)

-- ---- numbers

wide : (n : ℕ) → n < 2 ^ 127 → n < 10 ^ 64
wide n h = let big : 2 ^ 127 ≤ 10 ^ 64 = lit≤ tt in omega (arith, big, h)

some-digits : (n : ℕ) → n < 10 ^ 64 → 0 < length (decimal n)
some-digits n small = decimal_by_steps_wide (λ n ds. 0 < length ds) (λ n h. lit< tt) (λ n ds h s. omega (arith, length-append ds ((48 + n % 10) ∷ []))) n small

digits-has : (n : ℕ) (rest : List ℕ) → n < 2 ^ 127 → ends_number rest ≡ true → Has 1 (decimal n) rest
digits-has n rest h end = has-token (λ at. placed at (token.Number (lowest (pos n) (pos 1)))) (decimal n) rest (λ at. number-read n rest at h end)

-- a sign before digits, behind which these bytes stand
minus-token : (ds more : List ℕ) (at : ℕ) → 0 < length ds → list_all is_digit ds ≡ true → tokens_behind 0 at (45 ∷ (ds ++ more)) ≡ placed at (token.Sign sign.Minus) ∷ tokens_behind 0 (at + 1) (ds ++ more)
minus-token [] more at h e = absurd (omega arith)
minus-token (b ∷ ds) more at h e =
    let digit = (and_parts (is_digit b) (list_all is_digit ds) e).0 in
    let other : (62 == b) ≡ false = grind (arith, nat_tests, digit) in
    minus_read b other (ds ++ more) at

over-token : (ds more : List ℕ) (at : ℕ) → 0 < length ds → list_all is_digit ds ≡ true → tokens_behind 0 at (47 ∷ (ds ++ more)) ≡ placed at (token.Sign sign.Over) ∷ tokens_behind 0 (at + 1) (ds ++ more)
over-token [] more at h e = absurd (omega arith)
over-token (b ∷ ds) more at h e =
    let digit = (and_parts (is_digit b) (list_all is_digit ds) e).0 in
    let other : (42 == b) ≡ false = grind (arith, nat_tests, digit) in
    over_read b other (ds ++ more) at

minus-digits : (ds rest : List ℕ) → 0 < length ds → list_all is_digit ds ≡ true → Has 1 (codes "-") (ds ++ rest)
minus-digits ds rest h e = has-token (λ at. placed at (token.Sign sign.Minus)) (codes "-") (ds ++ rest) (λ at. minus-token ds rest at h e)

over-digits : (ds rest : List ℕ) → 0 < length ds → list_all is_digit ds ≡ true → Has 1 (codes "/") (ds ++ rest)
over-digits ds rest h e = has-token (λ at. placed at (token.Sign sign.Over)) (codes "/") (ds ++ rest) (λ at. over-token ds rest at h e)

signed-has : (z : ℤ) (rest : List ℕ) → InRange z → ends_number rest ≡ true → Has 1 (signed_decimal z) rest
signed-has (pos n) rest h end = digits-has n rest h end
signed-has (negsuc n) rest h end =
    let ds = decimal (suc n) in
    let small = wide (suc n) h in
    has-fewer 1 2 (codes "-" ++ ds) rest (omega arith)
    (has-append 1 1 (codes "-") ds rest (minus-digits ds rest (some-digits (suc n) small) (decimal-digits (suc n) small)) (digits-has (suc n) rest h end))

over-has : (z : ℤ) (rest : List ℕ) → InRange z → Has 1 (codes "/") (signed_decimal z ++ rest)
over-has (pos n) rest h = let small = wide n h in over-digits (decimal n) rest (some-digits n small) (decimal-digits n small)
over-has (negsuc n) rest h = has-token (λ at. placed at (token.Sign sign.Over)) (codes "/") (45 ∷ (decimal (suc n) ++ rest)) (over_read 45 refl (decimal (suc n) ++ rest))

slash-ends : (bytes : List ℕ) → ends_number (47 ∷ bytes) ≡ true
slash-ends [] = refl
slash-ends (b ∷ bytes) = refl

parts-have : (z d : ℤ) (t : Bool) (rest : List ℕ) → InRange z → InRange d → ends_number rest ≡ true → Has 1 (signed_decimal z ++ (if t then [] else codes "/" ++ signed_decimal d)) rest
parts-have z d true rest hz hd end = subst (λ text. Has 1 text rest) (sym (append-nil (signed_decimal z))) (signed-has z rest hz end)
parts-have z d false rest hz hd end =
    let over = codes "/" ++ signed_decimal d in
    has-fewer 1 3 (signed_decimal z ++ over) rest (omega arith)
    (has-append 1 2 (signed_decimal z) over rest (signed-has z (over ++ rest) hz (slash-ends (signed_decimal d ++ rest)))
    (has-append 1 1 (codes "/") (signed_decimal d) rest (over-has d rest hd) (signed-has d rest hd end)))

pub within-range : (z : ℤ) → in_range z ≡ true → InRange z
within-range z h = ltb_lt h

pub number-has : (q : Number) (rest : List ℕ) → number_fits q ≡ true → ends_number rest ≡ true → Has 1 (number_text q) rest
number-has q rest h end =
    let p = and_parts (in_range q.num) (in_range q.den) h in parts-have q.num q.den (int_eq q.den (pos 1)) rest (within-range q.num p.0) (within-range q.den p.1) end

-- ---- the tokens of a number

-- the token of a whole number
abbrev pub digits_token : ℕ → Token
digits_token n = token.Number (lowest (pos n) (pos 1))

module _ (rest : List ℕ) (end : ends_number rest ≡ true) where
  -- what holds of the tokens of n, or of n/k, holds of their text
  size-by : (n k : ℕ) (is_whole : Bool) (at : ℕ) → n < 2 ^ 127 → k < 2 ^ 127 → (P : List Placed → Type 0) → ((a : ℕ) → P (placed at (digits_token n) ∷ tokens_behind 0 a rest))
      → ((a b c : ℕ) → P (placed at (digits_token n) ∷ placed b (token.Sign sign.Over) ∷ placed c (digits_token k) ∷ tokens_behind 0 a rest))
      → P (tokens_behind 0 at ((decimal n ++ (if is_whole then [] else codes "/" ++ decimal k)) ++ rest))
  size-by n k true at hn hk P one two =
      subst P (sym (ap (λ ds. tokens_behind 0 at (ds ++ rest)) (append-nil (decimal n)) ∙ number-read n rest at hn end)) (one (at + length (decimal n)))
  size-by n k false at hn hk P one two =
      let small = wide k hk in
      let b = at + length (decimal n) in
      subst P
      (sym
      (ap (tokens_behind 0 at) (append_assoc (decimal n) (codes "/" ++ decimal k) rest)
      ∙ number-read n (47 ∷ (decimal k ++ rest)) at hn (slash-ends (decimal k ++ rest))
      ∙ ap (λ ts. placed at (digits_token n) ∷ ts) (over-token (decimal k) rest b (some-digits k small) (decimal-digits k small))
      ∙ ap (λ ts. placed at (digits_token n) ∷ placed b (token.Sign sign.Over) ∷ ts) (number-read k rest (b + 1) hk end)))
      (two (b + 1 + length (decimal k)) b (b + 1))

  pub record Forms (at : ℕ) (P : List Placed → Type 0) : Type 0 where
    pub whole : (n a : ℕ) → P (placed at (digits_token n) ∷ tokens_behind 0 a rest)
    pub fraction : (n k a b c : ℕ) → P (placed at (digits_token n) ∷ placed b (token.Sign sign.Over) ∷ placed c (digits_token k) ∷ tokens_behind 0 a rest)
    pub minus_whole : (n a b : ℕ) → P (placed at (token.Sign sign.Minus) ∷ placed b (digits_token n) ∷ tokens_behind 0 a rest)
    pub minus_fraction : (n k a b c d : ℕ)
        → P (placed at (token.Sign sign.Minus) ∷ placed b (digits_token n) ∷ placed c (token.Sign sign.Over) ∷ placed d (digits_token k) ∷ tokens_behind 0 a rest)

  signed-by : (z : ℤ) (k : ℕ) (is_whole : Bool) (at : ℕ) → InRange z → k < 2 ^ 127 → (P : List Placed → Type 0) → Forms at P → P (tokens_behind 0 at ((signed_decimal z ++ (if is_whole then [] else codes "/" ++ decimal k)) ++ rest))
  signed-by (pos n) k t at hn hk P f = size-by n k t at hn hk P (λ a. f.whole n a) (λ a b c. f.fraction n k a b c)
  signed-by (negsuc n) k t at hn hk P f =
      let small = wide (suc n) hn in
      let ds = decimal (suc n) in
      let over = if t then [] else codes "/" ++ decimal k in
      subst P
      (sym
      (ap (λ bs. tokens_behind 0 at (45 ∷ bs)) (append_assoc ds over rest)
      ∙ minus-token ds (over ++ rest) at (some-digits (suc n) small) (decimal-digits (suc n) small)
      ∙ ap (λ bs. placed at (token.Sign sign.Minus) ∷ tokens_behind 0 (at + 1) bs) (sym (append_assoc ds over rest))))
      (size-by (suc n) k t (at + 1) hn hk (λ ts. P (placed at (token.Sign sign.Minus) ∷ ts)) (λ a. f.minus_whole (suc n) a (at + 1)) (λ a b c. f.minus_fraction (suc n) k a (at + 1) b c))

  -- what holds of the tokens of each form holds of a number's text
  pub by-number : (q : Number) (at : ℕ) → number_fits q ≡ true → (P : List Placed → Type 0) → Forms at P → P (tokens_behind 0 at (number_text q ++ rest))
  by-number q at h P f = by q.den refl
    where
      parts : (in_range q.num ≡ true) × (in_range q.den ≡ true)
      parts = and_parts (in_range q.num) (in_range q.den) h

      by : (d : ℤ) → q.den ≡ d → P (tokens_behind 0 at ((signed_decimal q.num ++ (if int_eq d (pos 1) then [] else codes "/" ++ signed_decimal d)) ++ rest))
      by (pos k) e = signed-by q.num k (int_eq (pos k) (pos 1)) at (within-range q.num parts.0) (subst InRange e (within-range q.den parts.1)) P f
      by (negsuc k) e = let p : pos 0 <ℤ negsuc k = subst (λ d. pos 0 <ℤ d) e q.reduced.positive in absurd (omega (arith, ints, p))
