-- The digits of a whole number are read back.
use Rattle.std.proofs.Common.{◌≡◌, ℕ, ◌+◌, ◌-◌, ◌*◌, ◌/◌, ◌%◌, ◌<◌, ◌≤◌, ◌^◌, Bool, true, false, cond, not, ◌&&◌, ◌||◌, ◌==◌, nat_lt, List, [], ◌∷◌, ◌++◌, length, drop, codes, decimal, pos, Some, refl, sym, ap, ◌∙◌, arith, lit<, lit≤, length-append}
use Rattle.std.specs.List.{list_all, take_while}
use Rattle.std.proofs.lemmas.Bool.{and_parts, and_from}
use Rattle.std.proofs.lemmas.Bool.Decides.{nat_tests}
use Rattle.std.proofs.lemmas.Fmt.{decimal_by_steps_wide}
use Rattle.std.proofs.lemmas.List.{append-nil}
use Rattle.std.proofs.lemmas.List.Sums.{take_while-cons}
use Rattle.std.proofs.Math.Seq.{drop-append_seam}
use Rattle.scasp_num.specs.Number.{Number}
use Rattle.scasp_num.specs.Arithmetic.{number, within, lowest}
use Rattle.scasp_reader_tokens.specs.declared.token.Token.TheVariants as token
use Rattle.scasp_reader_tokens.specs.declared.token.Front.TheVariants.{Found}
use Rattle.scasp_reader_tokens.specs.Bytes.{is_blank, is_lower, is_upper, is_digit, begins}
use Rattle.scasp_reader_tokens.specs.Numbers.{digits, decimals, written_length, digits_value, literal_value}
use Rattle.scasp_reader_tokens.specs.Tokens as lexis
use Rattle.scasp_reader_tokens.specs.Tokens.{front, placed, tokens_behind}
use Rattle.scasp_reader_tokens.proofs.NumberLemmas.{digits_value-append}
use Rattle.scasp_law_program_text.specs.Readback.Endings.{ends_number}
use Rattle.scasp_law_program_text.proofs.ReadbackLemmas.Fronts.{found-read}
use Rattle.scasp_law_program_text.proofs.ReadbackLemmas.NameReading.{not-true}

-- ---- digits

all-append : (xs ys : List ℕ) → list_all is_digit xs ≡ true → list_all is_digit ys ≡ true → list_all is_digit (xs ++ ys) ≡ true
all-append [] ys h g = g
all-append (x ∷ xs) ys h g =
    let parts = and_parts (is_digit x) (list_all is_digit xs) h in
    and_from (is_digit x) (list_all is_digit (xs ++ ys)) parts.0 (all-append xs ys parts.1 g)

abbrev pub Spells : ℕ → List ℕ → Type 0
Spells n ds = (list_all is_digit ds ≡ true) × (digits_value 0 ds ≡ n)

one-digit : (n : ℕ) → n < 10 → Spells n ((48 + n) ∷ [])
one-digit n h =
    let digit : is_digit (48 + n) ≡ true = grind (arith, nat_tests) in
    let value : 10 * 0 + (48 + n - 48) ≡ n = omega arith in
    (and_from (is_digit (48 + n)) true digit refl, value)

more-digits : (n : ℕ) (ds : List ℕ) → 10 ≤ n → Spells (n / 10) ds → Spells n (ds ++ (48 + n % 10) ∷ [])
more-digits n ds h s =
    let digit : is_digit (48 + n % 10) ≡ true = grind (arith, nat_tests) in
    let value : 10 * (n / 10) + (48 + n % 10 - 48) ≡ n = omega arith in (
      all-append ds ((48 + n % 10) ∷ []) s.0 (and_from (is_digit (48 + n % 10)) true digit refl),
      digits_value-append 0 ds ((48 + n % 10) ∷ []) ∙ ap (λ v. 10 * v + (48 + n % 10 - 48)) s.1 ∙ value,
    )

pub spells : (n : ℕ) → n < 10 ^ 64 → Spells n (decimal n)
spells n h = decimal_by_steps_wide Spells one-digit more-digits n h

pub decimal-digits : (n : ℕ) → n < 10 ^ 64 → list_all is_digit (decimal n) ≡ true
decimal-digits n h = (spells n h).0

-- ---- a number at the front

ends-digits : (rest : List ℕ) → ends_number rest ≡ true → digits rest ≡ []
ends-digits [] e = refl
ends-digits (b ∷ []) e = rw (not-true (is_digit b) e) refl
ends-digits (b ∷ c ∷ rest) e = rw (not-true (is_digit b) (and_parts (not (is_digit b)) (not (b == 46 && is_digit c)) e).0) refl

all-taken : (ds rest : List ℕ) → list_all is_digit ds ≡ true → ends_number rest ≡ true → digits (ds ++ rest) ≡ ds
all-taken [] rest e end = ends-digits rest end
all-taken (d ∷ ds) rest e end =
    let parts = and_parts (is_digit d) (list_all is_digit ds) e in
    take_while-cons is_digit d (ds ++ rest) ∙ ap (λ t. cond t (d ∷ digits (ds ++ rest)) []) parts.0
    ∙ ap (λ r. d ∷ r) (all-taken ds rest parts.1 end)

-- no decimals stand behind the digits
no-decimals : (rest : List ℕ) → ends_number rest ≡ true → decimals rest ≡ []
no-decimals [] e = refl
no-decimals (b ∷ []) e = by (begins (b ∷ []) (codes "."))
  where
    by : (t : Bool) → cond t (digits []) [] ≡ []
    by true = refl
    by false = refl
no-decimals (b ∷ c ∷ rest) e = by (46 == b) (is_digit c) refl refl
  where
    stop : not (b == 46 && is_digit c) ≡ true
    stop = (and_parts (not (is_digit b)) (not (b == 46 && is_digit c)) e).1

    by : (p d : Bool) → (46 == b) ≡ p → is_digit c ≡ d → decimals (b ∷ c ∷ rest) ≡ []
    by false d ep ed = rw ep refl
    by true true ep ed = let is : (b == 46) ≡ true = grind (arith, nat_tests, ep) in cc (not-true (b == 46 && is_digit c) stop, is, ed)
    by true false ep ed = rw ep (rw ed refl)

digit-front : (b : ℕ) (bytes : List ℕ) → is_digit b ≡ true → front (b ∷ bytes) ≡ lexis.number (b ∷ bytes)
digit-front b bytes e =
    let blank : is_blank b ≡ false = grind (arith, nat_tests) in
    let percent : (b == 37) ≡ false = grind (arith, nat_tests) in
    let slash : begins (b ∷ bytes) (codes "/*") ≡ false = grind (arith, nat_tests) in
    let lower : is_lower b ≡ false = grind (arith, nat_tests) in
    let quote : (b == 39) ≡ false = grind (arith, nat_tests) in
    let upper : (is_upper b || b == 95) ≡ false = grind (arith, nat_tests) in
    rw (blank, percent, slash, lower, quote, upper, e) refl

number-front : (d : ℕ) (ds rest : List ℕ) → list_all is_digit (d ∷ ds) ≡ true → ends_number rest ≡ true
    → front ((d ∷ ds) ++ rest) ≡ Found (token.Number (literal_value (d ∷ ds) [])) (length (d ∷ ds))
number-front d ds rest e end =
    let whole = all-taken (d ∷ ds) rest e end in
    let part : decimals (drop (length (d ∷ ds)) ((d ∷ ds) ++ rest)) ≡ [] = ap decimals (drop-append_seam (d ∷ ds) rest) ∙ no-decimals rest end in
    digit-front d (ds ++ rest) (and_parts (is_digit d) (list_all is_digit ds) e).0
    ∙ ap (λ w. Found (token.Number (literal_value w (decimals (drop (length w) ((d ∷ ds) ++ rest))))) (written_length w (decimals (drop (length w) ((d ∷ ds) ++ rest))))) whole
    ∙ ap (λ p. Found (token.Number (literal_value (d ∷ ds) p)) (written_length (d ∷ ds) p)) part

digits-read : (ds rest : List ℕ) (at : ℕ) → 0 < length ds → list_all is_digit ds ≡ true → ends_number rest ≡ true
    → tokens_behind 0 at (ds ++ rest) ≡ placed at (token.Number (literal_value ds [])) ∷ tokens_behind 0 (at + length ds) rest
digits-read [] rest at some e end = absurd (omega arith)
digits-read (d ∷ ds) rest at some e end = found-read d ds rest (token.Number (literal_value (d ∷ ds) [])) at (number-front d ds rest e end)

-- ---- its value

in-range : (n : ℕ) → n < 2 ^ 127 → within (pos n) ≡ Some (pos n)
in-range n h = let e : nat_lt n (2 ^ 127) ≡ true = grind (arith, nat_tests) in rw e refl

whole-value : (n : ℕ) (ds : List ℕ) → n < 2 ^ 127 → digits_value 0 ds ≡ n → literal_value ds [] ≡ lowest (pos n) (pos 1)
unfolding literal_value
whole-value n ds h e = rw (append-nil ds) (rw e (rw (in-range n h) refl))

-- the digits of n, where it is within M, are read as n
pub number-read : (n : ℕ) (rest : List ℕ) (at : ℕ) → n < 2 ^ 127 → ends_number rest ≡ true
    → tokens_behind 0 at (decimal n ++ rest) ≡ placed at (token.Number (lowest (pos n) (pos 1))) ∷ tokens_behind 0 (at + length (decimal n)) rest
number-read n rest at h end =
    let big : 2 ^ 127 ≤ 10 ^ 64 = lit≤ tt in
    let small : n < 10 ^ 64 = omega (arith, big, h) in
    let s = spells n small in
    digits-read (decimal n) rest at (decimal-some n small) s.0 end
    ∙ ap (λ q. placed at (token.Number q) ∷ tokens_behind 0 (at + length (decimal n)) rest) (whole-value n (decimal n) h s.1)
  where
    decimal-some : (n : ℕ) → n < 10 ^ 64 → 0 < length (decimal n)
    decimal-some n small = decimal_by_steps_wide (λ n ds. 0 < length ds) (λ n h. lit< tt) (λ n ds h s. omega (arith, length-append ds ((48 + n % 10) ∷ []))) n small
