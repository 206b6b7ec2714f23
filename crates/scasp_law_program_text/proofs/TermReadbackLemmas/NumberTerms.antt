-- A number that is written is read as this number.
use Rattle.std.proofs.Common.{◌≡◌, ℕ, zero, suc, ◌+◌, ◌<◌, ◌≤◌, ◌^◌, ◌%◌, Bool, true, false, ◌==◌, List, [], ◌∷◌, ◌++◌, length, codes, decimal, ℤ, pos, negsuc, ◌<ℤ◌, neg_ℤ, unsigned_abs, Some, Ok, refl, sym, ap, subst, ◌∙◌, arith, lit≤, lit<, append_assoc, append-nil, length-append}
use Rattle.std.specs.Prelude.{if◌then◌else◌}
use Rattle.std.specs.Fmt.{signed_decimal}
use Rattle.std.specs.Ordering.{int_eq}
use Rattle.std.specs.List.{list_all}
use Rattle.std.proofs.lemmas.Bool.{and_parts}
use Rattle.std.proofs.lemmas.Bool.Decides.{nat_tests, Decides-int_eq}
use Rattle.std.proofs.lemmas.Fmt.{decimal_by_steps_wide}
use Rattle.std.proofs.lemmas.Int.{ints}
use Rattle.scasp_num.specs.Gcd.{gcd}
use Rattle.scasp_num.specs.Number.{Number, InRange}
use Rattle.scasp_num.specs.Arithmetic.{quotient_of, negation_of}
use Rattle.scasp_num.specs.Linear.{is_zero}
use Rattle.scasp_num.proofs.Numbers.{number-of, number-at, some-same}
use Rattle.scasp_syntax.specs.Tm.{num}
use Rattle.scasp_reader_tokens.specs.Bytes.{is_digit}
use Rattle.scasp_reader_tokens.specs.declared.sign.Sign.TheVariants as sign
use Rattle.scasp_reader_tokens.specs.declared.token.Token.TheVariants as token
use Rattle.scasp_reader_tokens.specs.Tokens.{placed, tokens_behind}
use Rattle.scasp_cert.specs.Text.Terms.{number_text}
use Rattle.scasp_reader_terms.specs.Steps.{State}
use Rattle.scasp_reader_terms.specs.Terms.{term}
use Rattle.scasp_reader_terms.proofs.TermLemmas.{term_number, term_sign}
use Rattle.scasp_law_program_text.specs.Readback.Endings.{ends_number}
use Rattle.scasp_law_program_text.proofs.ReadbackLemmas.NumberReading.{number-read, decimal-digits}
use Rattle.scasp_law_program_text.proofs.ReadbackLemmas.SignReading.{minus_read, over_read}
use Rattle.scasp_law_program_text.specs.TermReadback.Reading.{behind_term, IsReadAs, ends_number_term}
use Rattle.scasp_law_program_text.proofs.TermReadbackLemmas.NumberFacts.{whole, lowest-whole, quotient-whole}
use Rattle.scasp_law_program_text.proofs.TermReadbackLemmas.NumberSteps.{whole-step, negative-step, fraction-step, negative_fraction-step}

-- ---- the tokens

digits-read : (n : ℕ) (rest : List ℕ) (at : ℕ) → n < 2 ^ 127 → ends_number rest ≡ true
    → tokens_behind 0 at (decimal n ++ rest) ≡ placed at (token.Number (Some (whole n))) ∷ tokens_behind 0 (at + length (decimal n)) rest
digits-read n rest at h end = number-read n rest at h end ∙ ap (λ q. placed at (token.Number q) ∷ tokens_behind 0 (at + length (decimal n)) rest) (lowest-whole n h)

decimal-some : (n : ℕ) → n < 10 ^ 64 → 0 < length (decimal n)
decimal-some n small = decimal_by_steps_wide (λ n ds. 0 < length ds) (λ n h. lit< tt) (λ n ds h s. omega (arith, length-append ds ((48 + n % 10) ∷ []))) n small

minus-digits : (ds rest : List ℕ) (at : ℕ) → 0 < length ds → list_all is_digit ds ≡ true → tokens_behind 0 at (codes "-" ++ (ds ++ rest)) ≡ placed at (token.Sign sign.Minus) ∷ tokens_behind 0 (at + 1) (ds ++ rest)
minus-digits [] rest at h e = absurd (omega arith)
minus-digits (b ∷ ds) rest at h e =
    let digit = (and_parts (is_digit b) (list_all is_digit ds) e).0 in
    let other : (62 == b) ≡ false = grind (arith, nat_tests, digit) in minus_read b other (ds ++ rest) at

over-digits : (ds rest : List ℕ) (at : ℕ) → 0 < length ds → list_all is_digit ds ≡ true → tokens_behind 0 at (codes "/" ++ (ds ++ rest)) ≡ placed at (token.Sign sign.Over) ∷ tokens_behind 0 (at + 1) (ds ++ rest)
over-digits [] rest at h e = absurd (omega arith)
over-digits (b ∷ ds) rest at h e =
    let digit = (and_parts (is_digit b) (list_all is_digit ds) e).0 in
    let other : (42 == b) ≡ false = grind (arith, nat_tests, digit) in over_read b other (ds ++ rest) at

wide : (n : ℕ) → n < 2 ^ 127 → n < 10 ^ 64
wide n h = let big : 2 ^ 127 ≤ 10 ^ 64 = lit≤ tt in omega (arith, big, h)

signed-read : (n : ℕ) (rest : List ℕ) (at : ℕ) → n < 2 ^ 127 → ends_number rest ≡ true
    → tokens_behind 0 at (codes "-" ++ (decimal n ++ rest)) ≡ placed at (token.Sign sign.Minus) ∷ placed (at + 1) (token.Number (Some (whole n))) ∷ tokens_behind 0 (at + 1 + length (decimal n)) rest
signed-read n rest at h end =
    minus-digits (decimal n) rest at (decimal-some n (wide n h)) (decimal-digits n (wide n h)) ∙ ap (λ ts. placed at (token.Sign sign.Minus) ∷ ts) (digits-read n rest (at + 1) h end)

over-read : (n : ℕ) (rest : List ℕ) (at : ℕ) → n < 2 ^ 127 → ends_number rest ≡ true
    → tokens_behind 0 at (codes "/" ++ (decimal n ++ rest)) ≡ placed at (token.Sign sign.Over) ∷ placed (at + 1) (token.Number (Some (whole n))) ∷ tokens_behind 0 (at + 1 + length (decimal n)) rest
over-read n rest at h end =
    over-digits (decimal n) rest at (decimal-some n (wide n h)) (decimal-digits n (wide n h)) ∙ ap (λ ts. placed at (token.Sign sign.Over) ∷ ts) (digits-read n rest (at + 1) h end)

-- the bytes of a fraction, up to those behind it
regroup : (ns ks rest : List ℕ) → (ns ++ (codes "/" ++ ks)) ++ rest ≡ ns ++ (codes "/" ++ (ks ++ rest))
regroup ns ks rest = append_assoc ns (codes "/" ++ ks) rest ∙ ap (λ l. ns ++ l) (append_assoc (codes "/") ks rest)

slash-ends : (bytes : List ℕ) → ends_number (codes "/" ++ bytes) ≡ true
slash-ends [] = refl
slash-ends (b ∷ bytes) = refl

fraction-read : (n k : ℕ) (rest : List ℕ) (at : ℕ) → n < 2 ^ 127 → k < 2 ^ 127 → ends_number rest ≡ true
    → tokens_behind 0 at (decimal n ++ (codes "/" ++ (decimal k ++ rest)))
    ≡ placed at (token.Number (Some (whole n))) ∷ placed (at + length (decimal n)) (token.Sign sign.Over)
    ∷ placed (at + length (decimal n) + 1) (token.Number (Some (whole k))) ∷ tokens_behind 0 (at + length (decimal n) + 1 + length (decimal k)) rest
fraction-read n k rest at hn hk end =
    digits-read n (codes "/" ++ (decimal k ++ rest)) at hn (slash-ends (decimal k ++ rest))
    ∙ ap (λ ts. placed at (token.Number (Some (whole n))) ∷ ts) (over-read k rest (at + length (decimal n)) hk end)

negative_fraction-read : (n k : ℕ) (rest : List ℕ) (at : ℕ) → n < 2 ^ 127 → k < 2 ^ 127 → ends_number rest ≡ true
    → tokens_behind 0 at (codes "-" ++ (decimal n ++ (codes "/" ++ (decimal k ++ rest))))
    ≡ placed at (token.Sign sign.Minus) ∷ placed (at + 1) (token.Number (Some (whole n))) ∷ placed (at + 1 + length (decimal n)) (token.Sign sign.Over)
    ∷ placed (at + 1 + length (decimal n) + 1) (token.Number (Some (whole k))) ∷ tokens_behind 0 (at + 1 + length (decimal n) + 1 + length (decimal k)) rest
negative_fraction-read n k rest at hn hk end =
    minus-digits (decimal n) (codes "/" ++ (decimal k ++ rest)) at (decimal-some n (wide n hn)) (decimal-digits n (wide n hn))
    ∙ ap (λ ts. placed at (token.Sign sign.Minus) ∷ ts) (fraction-read n k rest (at + 1) hn hk end)

-- ---- the four forms

module _ (q : Number) (rest : List ℕ) (room : ℕ) (s : State) (end : ends_number_term rest) where
  abbrev pub Reads : List ℕ → Type 0
  Reads text = IsReadAs room text (num q) s rest

  whole-form : (n : ℕ) → n < 2 ^ 127 → q ≡ whole n → Reads (decimal n)
  whole-form n h e at =
      let ts = tokens_behind 0 (at + length (decimal n)) rest in
      let tokens = digits-read n rest at h end.0 in
      ap (λ ts. term room (record s { tokens = ts })) tokens
      ∙ term_number room (record s { tokens = placed at (token.Number (Some (whole n))) ∷ ts }) (Some (whole n)) refl
      ∙ whole-step s ts at (whole n) (end.1 (at + length (decimal n)))
      ∙ ap (λ p. Ok (num p, record s { tokens = ts; is_behind_operand = true })) (sym e)

  negative-form : (n : ℕ) → n < 2 ^ 127 → q ≡ negation_of (whole n) → Reads (codes "-" ++ decimal n)
  negative-form n h e at =
      let ts = tokens_behind 0 (at + 1 + length (decimal n)) rest in
      let tokens = ap (tokens_behind 0 at) (append_assoc (codes "-") (decimal n) rest) ∙ signed-read n rest at h end.0 in
      let place : at + 1 + length (decimal n) ≡ at + length (codes "-" ++ decimal n) = omega (arith, length-append (codes "-") (decimal n)) in
      ap (λ ts. term room (record s { tokens = ts })) tokens
      ∙ term_sign room (record s { tokens = placed at (token.Sign sign.Minus) ∷ placed (at + 1) (token.Number (Some (whole n))) ∷ ts }) sign.Minus refl
      ∙ negative-step s ts at (at + 1) (whole n) (end.1 (at + 1 + length (decimal n)))
      ∙ ap (λ p. Ok (num p, record s { tokens = ts; is_behind_operand = true })) (sym e)
      ∙ ap (λ a. Ok (num q, behind_term s a rest)) place

  fraction-form : (n k : ℕ) → n < 2 ^ 127 → k < 2 ^ 127 → is_zero (pos k) ≡ false → quotient_of (whole n) (whole k) ≡ Some q → Reads (decimal n ++ (codes "/" ++ decimal k))
  fraction-form n k hn hk z e at =
      let a = at + length (decimal n) in
      let ts = tokens_behind 0 (a + 1 + length (decimal k)) rest in
      let place : a + 1 + length (decimal k) ≡ at + length (decimal n ++ (codes "/" ++ decimal k)) =
      omega (arith, length-append (decimal n) (codes "/" ++ decimal k), length-append (codes "/") (decimal k)) in
      ap (λ ts. term room (record s { tokens = ts })) (ap (tokens_behind 0 at) (regroup (decimal n) (decimal k) rest) ∙ fraction-read n k rest at hn hk end.0)
      ∙ term_number room (record s { tokens = placed at (token.Number (Some (whole n))) ∷ placed a (token.Sign sign.Over) ∷ placed (a + 1) (token.Number (Some (whole k))) ∷ ts }) (Some (whole n)) refl
      ∙ fraction-step s ts at a (a + 1) (whole n) (whole k) q z e
      ∙ ap (λ a. Ok (num q, behind_term s a rest)) place

  negative_fraction-form : (n k : ℕ) (p : Number) → n < 2 ^ 127 → k < 2 ^ 127 → is_zero (pos k) ≡ false → quotient_of (whole n) (whole k) ≡ Some p → q ≡ negation_of p
      → Reads (codes "-" ++ (decimal n ++ (codes "/" ++ decimal k)))
  negative_fraction-form n k p hn hk z e same at =
      let a = at + 1 + length (decimal n) in
      let ts = tokens_behind 0 (a + 1 + length (decimal k)) rest in
      let place : a + 1 + length (decimal k) ≡ at + length (codes "-" ++ (decimal n ++ (codes "/" ++ decimal k))) =
      omega (arith, length-append (codes "-") (decimal n ++ (codes "/" ++ decimal k)), length-append (decimal n) (codes "/" ++ decimal k), length-append (codes "/") (decimal k)) in
      let bytes = append_assoc (codes "-") (decimal n ++ (codes "/" ++ decimal k)) rest ∙ ap (λ l. codes "-" ++ l) (regroup (decimal n) (decimal k) rest) in
      ap (λ ts. term room (record s { tokens = ts })) (ap (tokens_behind 0 at) bytes ∙ negative_fraction-read n k rest at hn hk end.0)
      ∙ term_sign room (record s { tokens = placed at (token.Sign sign.Minus) ∷ placed (at + 1) (token.Number (Some (whole n))) ∷ placed a (token.Sign sign.Over) ∷ placed (a + 1) (token.Number (Some (whole k))) ∷ ts }) sign.Minus refl
      ∙ negative_fraction-step s ts at (at + 1) a (a + 1) (whole n) (whole k) p z e
      ∙ ap (λ r. Ok (num r, record s { tokens = ts; is_behind_operand = true })) (sym same)
      ∙ ap (λ a. Ok (num q, behind_term s a rest)) place

-- ---- every number

-- numbers of the same two integers are equal
same-parts : (p q : Number) → p.num ≡ q.num → p.den ≡ q.den → p ≡ q
same-parts p q e f = some-same (number-at p q.num q.den e f ∙ sym (number-of q))

module _ (q : Number) (rest : List ℕ) (room : ℕ) (s : State) (end : ends_number_term rest) where
  one-den : (k : ℕ) → int_eq (pos k) (pos 1) ≡ true → pos k ≡ pos 1
  one-den k t = (Decides-int_eq (pos k) (pos 1)).0 t

  above : (k : ℕ) → q.den ≡ pos k → 0 < k
  above k e = let p : pos 0 <ℤ pos k = subst (λ d. pos 0 <ℤ d) e q.reduced.positive in omega (arith, ints, p)

  not-zero : (k : ℕ) → 0 < k → is_zero (pos k) ≡ false
  not-zero zero h = absurd (omega arith)
  not-zero (suc k) h = refl

  coprime : (n k : ℕ) → unsigned_abs q.num ≡ n → q.den ≡ pos k → gcd n k ≡ 1
  coprime n k en ek = (λ i. gcd (sym en i) (unsigned_abs (sym ek i))) ∙ q.reduced.lowest

  whole-or_fraction : (z : ℤ) (k : ℕ) → q.num ≡ z → q.den ≡ pos k → InRange z → k < 2 ^ 127 → (t : Bool) → int_eq (pos k) (pos 1) ≡ t
      → IsReadAs room (signed_decimal z ++ (if t then [] else codes "/" ++ signed_decimal (pos k))) (num q) s rest
  whole-or_fraction (pos n) k en ek hn hk true t =
      let same = same-parts q (whole n) en (ek ∙ one-den k t) in
      subst (λ text. IsReadAs room text (num q) s rest) (sym (append-nil (decimal n))) (whole-form q rest room s end n hn same)
  whole-or_fraction (negsuc n) k en ek hn hk true t =
      let same = same-parts q (negation_of (whole (suc n))) en (ek ∙ one-den k t) in
      subst (λ text. IsReadAs room text (num q) s rest) (sym (append-nil (codes "-" ++ decimal (suc n)))) (negative-form q rest room s end (suc n) hn same)
  whole-or_fraction (pos n) k en ek hn hk false t =
      let h = above k ek in
      fraction-form q rest room s end n k hn hk (not-zero k h) (quotient-whole n k q h hn hk (coprime n k (ap unsigned_abs en) ek) en ek)
  whole-or_fraction (negsuc n) k en ek hn hk false t =
      let h = above k ek in
      let p = negation_of q in
      let same = same-parts q (negation_of p) (en ∙ ap (λ z. neg_ℤ (neg_ℤ z)) (sym en)) refl in
      negative_fraction-form q rest room s end (suc n) k p hn hk (not-zero k h) (quotient-whole (suc n) k p h hn hk (coprime (suc n) k (ap unsigned_abs en) ek) (ap neg_ℤ en) ek) same

  by-parts : (d : ℤ) → q.den ≡ d → InRange q.num → InRange d → IsReadAs room (signed_decimal q.num ++ (if int_eq d (pos 1) then [] else codes "/" ++ signed_decimal d)) (num q) s rest
  by-parts (pos k) e hn hk = whole-or_fraction q.num k refl e hn hk (int_eq (pos k) (pos 1)) refl
  by-parts (negsuc k) e hn hk = let p : pos 0 <ℤ negsuc k = subst (λ d. pos 0 <ℤ d) e q.reduced.positive in absurd (omega (arith, ints, p))

pub number-term : (q : Number) (rest : List ℕ) (room : ℕ) (s : State) → InRange q.num → InRange q.den → ends_number_term rest → IsReadAs room (number_text q) (num q) s rest
number-term q rest room s hn hd end = by-parts q rest room s end q.den refl hn hd
