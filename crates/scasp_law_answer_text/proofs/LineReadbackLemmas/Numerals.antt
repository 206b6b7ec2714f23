-- The tokens of numbers and variables.
use Rattle.std.proofs.Common.{◌≡◌, ℕ, ◌+◌, ◌-◌, ◌*◌, ◌/◌, ◌%◌, ◌<◌, ◌≤◌, ◌^◌, Bool, true, false, cond, not, ◌&&◌, ◌||◌, ◌==◌, List, [], ◌∷◌, ◌++◌, length, drop, min, codes, decimal, refl, sym, ap, ◌∙◌, arith, lit≤, length-append, append_assoc}
use Rattle.std.specs.List.{list_all, take_while}
use Rattle.std.proofs.lemmas.Bool.{and_parts, false≢true}
use Rattle.std.proofs.lemmas.Bool.Decides.{nat_tests}
use Rattle.std.proofs.lemmas.Fmt.{decimal_by_steps_wide}
use Rattle.std.proofs.lemmas.List.Sums.{take_while-cons}
use Rattle.std.proofs.Math.Seq.{drop-append_seam}
use Rattle.scasp_reader_tokens.specs.Bytes.{is_lower, is_digit}
use Rattle.scasp_reader_tokens.specs.Numbers.{digits_value}
use Rattle.scasp_cert.specs.Text.Terms.{var_text}
use Rattle.scasp_law_program_text.proofs.ReadbackLemmas.NumberReading.{Spells, spells}
use Rattle.scasp_answers_terms.specs.Tokens.Tokens.{Token, variable, digits, fraction, front, front_at, tokens_in, is_numeral, value_of, digits_at, digits_below, number_front, variable_front}
use Rattle.scasp_law_answer_text.proofs.LineReadbackLemmas.Fronts.{token-read, EndsDigits}

-- ---- the digits of a number

-- the first digit is not 0
abbrev leads : List ℕ → Bool
leads [] = false
leads (d ∷ ds) = not (d == 48)

leads-more : (ds : List ℕ) (x : ℕ) → leads ds ≡ true → leads (ds ++ x ∷ []) ≡ true
leads-more [] x e = absurd (false≢true e)
leads-more (d ∷ ds) x e = e

numeral-more : (ds : List ℕ) (x : ℕ) → leads ds ≡ true → is_numeral (ds ++ x ∷ []) ≡ true
numeral-more [] x e = refl
numeral-more (d ∷ []) x e = e
numeral-more (d ∷ c ∷ ds) x e = e

abbrev Led : ℕ → List ℕ → Type 0
Led n ds = (is_numeral ds ≡ true) × (0 < n → leads ds ≡ true)

led-one : (n : ℕ) → n < 10 → Led n ((48 + n) ∷ [])
led-one n h = (refl, λ a. by n a)
  where
    by : (n : ℕ) → 0 < n → not (48 + n == 48) ≡ true
    by n a = grind (arith, nat_tests)

led-more : (n : ℕ) (ds : List ℕ) → 10 ≤ n → Led (n / 10) ds → Led n (ds ++ (48 + n % 10) ∷ [])
led-more n ds h s =
    let first : leads ds ≡ true = s.1 (omega arith) in
    (numeral-more ds (48 + n % 10) first, λ a. leads-more ds (48 + n % 10) first)

numeral : (n : ℕ) → n < 10 ^ 64 → is_numeral (decimal n) ≡ true
numeral n h = (decimal_by_steps_wide Led led-one led-more n h).0

pub wide : (n : ℕ) → n < 2 ^ 128 → n < 10 ^ 64
wide n h = let big : 2 ^ 128 ≤ 10 ^ 64 = lit≤ tt in omega (arith, big, h)

bounded : (n : ℕ) → n < 2 ^ 128 → min n (2 ^ 128 - 1) ≡ n
bounded n h = omega (arith, h)

value : (n : ℕ) → n < 2 ^ 128 → value_of (decimal n) ≡ n
value n h = ap (λ v. min v (2 ^ 128 - 1)) (spells n (wide n h)).1 ∙ bounded n h

-- ---- digits at the front

all-taken : (ds rest : List ℕ) → list_all is_digit ds ≡ true → digits_at rest ≡ [] → digits_at (ds ++ rest) ≡ ds
all-taken [] rest e end = end
all-taken (d ∷ ds) rest e end =
    let parts = and_parts (is_digit d) (list_all is_digit ds) e in
    take_while-cons is_digit d (ds ++ rest) ∙ ap (λ t. cond t (d ∷ digits_at (ds ++ rest)) []) parts.0 ∙ ap (λ r. d ∷ r) (all-taken ds rest parts.1 end)

digit-front : (b : ℕ) (bytes : List ℕ) → is_digit b ≡ true → front_at b bytes ≡ number_front (digits_at (b ∷ bytes)) (digits_below (drop (length (digits_at (b ∷ bytes))) (b ∷ bytes)))
digit-front b bytes e = let lower : is_lower b ≡ false = grind (arith, nat_tests) in rw (lower, e) refl

-- digits at the front, and those behind a slash
both-fronts : (d : ℕ) (ds rest : List ℕ) → list_all is_digit (d ∷ ds) ≡ true → digits_at rest ≡ [] → front_at d (ds ++ rest) ≡ number_front (d ∷ ds) (digits_below rest)
both-fronts d ds rest e end =
    let whole = all-taken (d ∷ ds) rest e end in
    digit-front d (ds ++ rest) (and_parts (is_digit d) (list_all is_digit ds) e).0
    ∙ ap (λ w. number_front w (digits_below (drop (length w) ((d ∷ ds) ++ rest)))) whole
    ∙ ap (λ r. number_front (d ∷ ds) (digits_below r)) (drop-append_seam (d ∷ ds) rest)

pub digits-by : (n : ℕ) (ds rest : List ℕ) → is_numeral ds ≡ true → list_all is_digit ds ≡ true → value_of ds ≡ n → EndsDigits rest → tokens_in (ds ++ rest) ≡ digits n ∷ tokens_in rest
digits-by n [] rest num e v end = absurd (false≢true num)
digits-by n (d ∷ ds) rest num e v end =
    let more : length (d ∷ ds) - 1 ≡ length ds = omega arith in
    token-read d ds rest (digits n)
    (both-fronts d ds rest e end.0 ∙ ap (number_front (d ∷ ds)) end.1 ∙ rw num (ap (λ k. front (digits (value_of (d ∷ ds))) k) more) ∙ ap (λ m. front (digits m) (length ds)) v)

pub digits-read : (n : ℕ) (rest : List ℕ) → n < 2 ^ 128 → EndsDigits rest → tokens_in (decimal n ++ rest) ≡ digits n ∷ tokens_in rest
digits-read n rest h end = digits-by n (decimal n) rest (numeral n (wide n h)) (spells n (wide n h)).0 (value n h) end

-- ---- a fraction

fraction-by : (n k : ℕ) (ds es rest : List ℕ) → is_numeral ds ≡ true → is_numeral es ≡ true → list_all is_digit ds ≡ true → list_all is_digit es ≡ true → value_of ds ≡ n → value_of es ≡ k
    → EndsDigits rest → tokens_in (ds ++ (47 ∷ (es ++ rest))) ≡ fraction n k ∷ tokens_in rest
fraction-by n k [] es rest nd ne ad ae vd ve end = absurd (false≢true nd)
fraction-by n k (d ∷ ds) [] rest nd ne ad ae vd ve end = absurd (false≢true ne)
fraction-by n k (d ∷ ds) (e ∷ es) rest nd ne ad ae vd ve end =
    let behind = 47 ∷ ((e ∷ es) ++ rest) in
    let more : length (d ∷ ds) + length (e ∷ es) ≡ length (ds ++ (47 ∷ e ∷ es)) = omega (arith, length-append ds (47 ∷ e ∷ es)) in
    let group : ds ++ behind ≡ (ds ++ (47 ∷ e ∷ es)) ++ rest = sym (append_assoc ds (47 ∷ e ∷ es) rest) in
    ap (λ r. tokens_in (d ∷ r)) group
    ∙ token-read d (ds ++ (47 ∷ e ∷ es)) rest (fraction n k)
    (ap (front_at d) (sym group) ∙ both-fronts d ds behind ad refl ∙ ap (number_front (d ∷ ds)) (all-taken (e ∷ es) rest ae end.0)
    ∙ rw (nd, ne) (ap (λ m. front (fraction (value_of (d ∷ ds)) (value_of (e ∷ es))) m) more)
    ∙ (λ i. front (fraction (vd i) (ve i)) (length (ds ++ (47 ∷ e ∷ es)))))

pub fraction-read : (n k : ℕ) (rest : List ℕ) → n < 2 ^ 128 → k < 2 ^ 128 → EndsDigits rest → tokens_in (decimal n ++ (47 ∷ (decimal k ++ rest))) ≡ fraction n k ∷ tokens_in rest
fraction-read n k rest hn hk end =
    let sn = spells n (wide n hn) in
    let sk = spells k (wide k hk) in
    fraction-by n k (decimal n) (decimal k) rest (numeral n (wide n hn)) (numeral k (wide k hk)) sn.0 sk.0 (value n hn) (value k hk) end

-- ---- a variable

pub variable-read : (x : ℕ) (rest : List ℕ) → x < 2 ^ 128 → EndsDigits rest → tokens_in (var_text x ++ rest) ≡ variable x ∷ tokens_in rest
variable-read x rest h end =
    let ds = decimal x in
    let num = numeral x (wide x h) in
    token-read 86 ds rest (variable x)
    (ap variable_front (all-taken ds rest (spells x (wide x h)).0 end.0) ∙ rw num (ap (λ v. front (variable v) (length ds)) (value x h)))
