-- Linear rows are read back.
use Rattle.std.proofs.Common.{◌≡◌, ℕ, zero, suc, ◌+◌, ◌<◌, ◌^◌, Bool, true, false, cond, not, ◌&&◌, ◌||◌, ◌==◌, nat_lt, List, [], ◌∷◌, ◌++◌, length, codes, decimal, ℤ, pos, negsuc, ◌<ℤ◌, neg_ℤ, Option, None, Some, refl, sym, ap, subst, ◌∙◌, arith, append_assoc, append-nil}
use Rattle.std.specs.Prelude.{if◌then◌else◌, option_map, int_lt}
use Rattle.std.specs.Fmt.{signed_decimal}
use Rattle.std.specs.List.{list_all}
use Rattle.std.specs.Ordering.{int_eq}
use Rattle.std.proofs.lemmas.Bool.{and_parts, false≢true}
use Rattle.std.proofs.lemmas.Bool.Decides.{nat_tests, Decides-int_eq}
use Rattle.std.proofs.lemmas.Int.{ints}
use Rattle.scasp_list.specs.Each.{Each}
use Rattle.scasp_num.specs.Arithmetic.{◌>>=◌, in_range, signed}
use Rattle.scasp_num.specs.Linear.{Linear, is_zero, is_normal, ascends, integers, common_divisor, is_negated}
use Rattle.scasp_num.specs.declared.linear.Coeff.{Coeff}
use Rattle.scasp_num.specs.declared.linear.Op.{Op}
use Rattle.scasp_num.specs.declared.linear.Op.TheVariants as op
use Rattle.scasp_cert.specs.Text.Terms.{var_text}
use Rattle.scasp_cert.specs.Text.Constraints.{plus_text, factor_text, summand_text, summands_text, constant_part, relation_text, row_text}
use Rattle.scasp_answers_terms.specs.Tokens.Tokens.{Token, variable, digits, minus, plus, star, sign, tokens_in}
use Rattle.scasp_answers_terms.specs.Tokens.Readers.{Parsed, made, past_text}
use Rattle.scasp_answers_terms.specs.Tokens.Bounds.{is_place, bounded_place, bounded_integer, row_fits}
use Rattle.scasp_answers_terms.specs.Tokens.Rows.{Sum, summand, with_summand, more_at, more_signed, sum_at, relation_at, row_of, is_row, row_at}
use Rattle.scasp_law_answer_text.specs.LineReadback.Endings.{ends_part}
use Rattle.scasp_law_answer_text.proofs.LineReadbackLemmas.Fronts.{ends-digits, minus-read, plus-read, star-read, blank-read}
use Rattle.scasp_law_answer_text.proofs.LineReadbackLemmas.Numerals.{digits-by, digits-read, variable-read}
use Rattle.scasp_law_answer_text.proofs.LineReadbackLemmas.Leaves.{place-below, integer-below}

-- ---- the relation and the 0

-- what stands behind the sum
abbrev relation_and : Op → List ℕ → List ℕ
relation_and o rest = 32 ∷ (relation_text o ++ (32 ∷ 48 ∷ rest))

abbrev relation_tokens : Op → List Token → List Token
relation_tokens op.Eq ts = sign 32 ∷ sign 35 ∷ sign 61 ∷ sign 32 ∷ ts
relation_tokens op.Lt ts = sign 32 ∷ sign 35 ∷ sign 60 ∷ sign 32 ∷ ts
relation_tokens op.Le ts = sign 32 ∷ sign 35 ∷ sign 61 ∷ sign 60 ∷ sign 32 ∷ ts
relation_tokens op.Ne ts = sign 32 ∷ sign 35 ∷ sign 60 ∷ sign 62 ∷ sign 32 ∷ ts

relation-tokens : (o : Op) (rest : List ℕ) → tokens_in (relation_and o rest) ≡ relation_tokens o (tokens_in (48 ∷ rest))
unfolding tokens_in
relation-tokens op.Eq rest = refl
relation-tokens op.Lt rest = refl
relation-tokens op.Le rest = refl
relation-tokens op.Ne rest = refl

zero-read : (rest : List ℕ) → ends_part rest ≡ true → tokens_in (48 ∷ rest) ≡ digits 0 ∷ tokens_in rest
zero-read rest end = digits-by 0 (48 ∷ []) rest refl refl refl (ends-digits rest end)

relation-found : (o : Op) (ts : List Token) → relation_at (relation_tokens o (digits 0 ∷ ts)) ≡ Some (o, ts)
unfolding past_text tokens_in
relation-found op.Eq ts = refl
relation-found op.Lt ts = refl
relation-found op.Le ts = refl
relation-found op.Ne ts = refl

relation-read : (o : Op) (rest : List ℕ) → ends_part rest ≡ true → relation_at (tokens_in (relation_and o rest)) ≡ Some (o, tokens_in rest)
relation-read o rest end = ap relation_at (relation-tokens o rest ∙ ap (relation_tokens o) (zero-read rest end)) ∙ relation-found o (tokens_in rest)

-- ---- a coefficient and its variable, behind the sign

-- the size of a coefficient, in front of its variable
abbrev size_text : ℕ → List ℕ
size_text n = if n == 1 then [] else decimal n ++ codes "*"

abbrev size_and : ℕ → ℕ → List ℕ → List ℕ
size_and n x rest = size_text n ++ (var_text x ++ rest)

abbrev size_tokens : ℕ → ℕ → List Token → List Token
size_tokens n x ts = if n == 1 then variable x ∷ ts else digits n ∷ star ∷ variable x ∷ ts

size-read : (n x : ℕ) (rest : List ℕ) → n < 2 ^ 128 → is_place x ≡ true → ends_part rest ≡ true → tokens_in (size_and n x rest) ≡ size_tokens n x (tokens_in rest)
size-read n x rest small place end = by (n == 1)
  where
    var : tokens_in (var_text x ++ rest) ≡ variable x ∷ tokens_in rest
    var = variable-read x rest (place-below x place) (ends-digits rest end)

    by : (t : Bool) → tokens_in ((if t then [] else decimal n ++ codes "*") ++ (var_text x ++ rest)) ≡ (if t then variable x ∷ tokens_in rest else digits n ∷ star ∷ variable x ∷ tokens_in rest)
    by true = var
    by false =
        ap tokens_in (append_assoc (decimal n) (codes "*") (var_text x ++ rest))
        ∙ digits-read n (42 ∷ (var_text x ++ rest)) small (ends-digits (42 ∷ (var_text x ++ rest)) refl)
        ∙ ap (λ ts. digits n ∷ ts) (star-read (var_text x ++ rest) ∙ ap (λ ts. star ∷ ts) var)

above-one : (n : ℕ) → nat_lt 0 n ≡ true → (n == 1) ≡ false → nat_lt 1 n ≡ true
above-one n some e = grind (arith, nat_tests)

size-value : (negative : Bool) (n x : ℕ) (ts : List Token) → nat_lt 0 n ≡ true → more_signed negative (size_tokens n x ts) ≡ made (with_summand (summand x (signed negative n))) (more_at ts)
size-value negative n x ts some = by (n == 1) refl
  where
    by : (t : Bool) → (n == 1) ≡ t → more_signed negative (if t then variable x ∷ ts else digits n ∷ star ∷ variable x ∷ ts) ≡ made (with_summand (summand x (signed negative n))) (more_at ts)
    by true e = let one : n ≡ 1 = grind (arith, nat_tests) in ap (λ m. made (with_summand (summand x (signed negative m))) (more_at ts)) (sym one)
    by false e = let more : nat_lt 1 n ≡ true = above-one n some e in rw more refl

-- the first summand, where it is not below 0
first-size : (n x : ℕ) (ts : List Token) → nat_lt 0 n ≡ true → sum_at (size_tokens n x ts) ≡ more_signed false (size_tokens n x ts)
first-size n x ts some = by (n == 1)
  where
    by : (t : Bool) → sum_at (if t then variable x ∷ ts else digits n ∷ star ∷ variable x ∷ ts) ≡ more_signed false (if t then variable x ∷ ts else digits n ∷ star ∷ variable x ∷ ts)
    by true = refl
    by false = let not-zero : (n == 0) ≡ false = grind (arith, nat_tests) in rw not-zero refl

-- the size of an integer, and how it is written behind its sign
abbrev size : ℤ → ℕ
size (pos n) = n
size (negsuc n) = suc n

abbrev is_below : ℤ → Bool
is_below (pos n) = false
is_below (negsuc n) = true

abbrev sign_text : ℤ → List ℕ
sign_text c = if is_below c then codes "-" else []

one-same : (n : ℕ) → int_eq (pos n) (pos 1) ≡ (n == 1)
one-same n = by (int_eq (pos n) (pos 1)) (n == 1) refl refl
  where
    by : (a b : Bool) → int_eq (pos n) (pos 1) ≡ a → (n == 1) ≡ b → a ≡ b
    by true true e f = refl
    by false false e f = refl
    by true false e f = let same : pos n ≡ pos 1 = (Decides-int_eq (pos n) (pos 1)).0 e in let k : n ≡ 1 = cc in grind (arith, nat_tests)
    by false true e f = let k : n ≡ 1 = grind (arith, nat_tests) in absurd (false≢true (sym e ∙ (Decides-int_eq (pos n) (pos 1)).1 (ap pos k)))

minus-same : (n : ℕ) → int_eq (negsuc n) (negsuc 0) ≡ (suc n == 1)
minus-same n = by (int_eq (negsuc n) (negsuc 0)) (suc n == 1) refl refl
  where
    by : (a b : Bool) → int_eq (negsuc n) (negsuc 0) ≡ a → (suc n == 1) ≡ b → a ≡ b
    by true true e f = refl
    by false false e f = refl
    by true false e f = let same : negsuc n ≡ negsuc 0 = (Decides-int_eq (negsuc n) (negsuc 0)).0 e in let k : n ≡ 0 = cc in grind (arith, nat_tests)
    by false true e f = let k : n ≡ 0 = grind (arith, nat_tests) in absurd (false≢true (sym e ∙ (Decides-int_eq (negsuc n) (negsuc 0)).1 (ap negsuc k)))

other-one : (z w : ℤ) → (z ≡ w → ⊥) → int_eq z w ≡ false
other-one z w n = by (int_eq z w) refl
  where
    by : (t : Bool) → int_eq z w ≡ t → int_eq z w ≡ false
    by true e = absurd (n ((Decides-int_eq z w).0 e))
    by false e = e

factor-size : (c : ℤ) → factor_text c ≡ sign_text c ++ size_text (size c)
factor-size (pos n) =
    ap (λ t. if t then [] else if int_eq (pos n) (negsuc 0) then codes "-" else decimal n ++ codes "*") (one-same n)
    ∙ ap (λ t. if n == 1 then [] else if t then codes "-" else decimal n ++ codes "*") (other-one (pos n) (negsuc 0) (λ e. cc))
factor-size (negsuc n) =
    ap (λ t. if t then [] else if int_eq (negsuc n) (negsuc 0) then codes "-" else (45 ∷ decimal (suc n)) ++ codes "*") (other-one (negsuc n) (pos 1) (λ e. cc))
    ∙ ap (λ t. if t then codes "-" else (45 ∷ decimal (suc n)) ++ codes "*") (minus-same n) ∙ by (suc n == 1)
  where
    by : (t : Bool) → (if t then codes "-" else (45 ∷ decimal (suc n)) ++ codes "*") ≡ 45 ∷ (if t then [] else decimal (suc n) ++ codes "*")
    by true = refl
    by false = refl

-- ---- summands

signed-size : (c : ℤ) → signed (is_below c) (size c) ≡ c
signed-size (pos n) = refl
signed-size (negsuc n) = refl

size-below : (c : ℤ) → in_range c ≡ true → size c < 2 ^ 128
size-below (pos n) h = integer-below n h
size-below (negsuc n) h = integer-below (suc n) h

size-some : (c : ℤ) → not (is_zero c) ≡ true → nat_lt 0 (size c) ≡ true
size-some (pos zero) h = absurd (false≢true h)
size-some (pos (suc n)) h = grind (arith, nat_tests)
size-some (negsuc n) h = grind (arith, nat_tests)

-- a coefficient of a row
abbrev IsCoeff : Coeff → Type 0
IsCoeff k = (is_place k.x ≡ true) × (in_range k.c ≡ true) × (not (is_zero k.c) ≡ true)

summand-same : (k : Coeff) → IsCoeff k → summand k.x (signed (is_below k.c) (size k.c)) ≡ k
summand-same k h = ap (summand k.x) (signed-size k.c) ∙ rw (h.0, h.1) refl

-- behind the sign
summand-body : (k : Coeff) (rest : List ℕ) → IsCoeff k → ends_part rest ≡ true
    → more_signed (is_below k.c) (tokens_in (size_and (size k.c) k.x rest)) ≡ made (with_summand k) (more_at (tokens_in rest))
summand-body k rest h end =
    ap (more_signed (is_below k.c)) (size-read (size k.c) k.x rest (size-below k.c h.1) h.0 end)
    ∙ size-value (is_below k.c) (size k.c) k.x (tokens_in rest) (size-some k.c h.2)
    ∙ ap (λ j. made (with_summand j) (more_at (tokens_in rest))) (summand-same k h)

not-below : (n : ℕ) → int_lt (pos n) (pos 0) ≡ false
not-below n = by (int_lt (pos n) (pos 0)) refl
  where
    by : (t : Bool) → int_lt (pos n) (pos 0) ≡ t → t ≡ false
    by true e = absurd (omega (arith, ints, e))
    by false e = refl

is-below : (n : ℕ) → int_lt (negsuc n) (pos 0) ≡ true
is-below n = refl

plus-before : (n : ℕ) → plus_text (pos n) ≡ codes "+"
plus-before n = rw (not-below n) refl

-- what stands behind the sign, with the sign in front
more-step : (c : ℤ) (body : List ℕ) → more_at (tokens_in (plus_text c ++ (sign_text c ++ body))) ≡ more_signed (is_below c) (tokens_in body)
more-step (pos n) body = ap (λ t. more_at (tokens_in (t ++ body))) (plus-before n) ∙ ap more_at (plus-read body)
more-step (negsuc n) body = ap more_at (minus-read body)

grouped : (p s z v more rest : List ℕ) → (((p ++ (s ++ z)) ++ v) ++ more) ++ rest ≡ p ++ (s ++ (z ++ (v ++ (more ++ rest))))
grouped p s z v more rest = simp append_assoc

summand-read : (k : Coeff) (more rest : List ℕ) → IsCoeff k → ends_part (more ++ rest) ≡ true
    → more_at (tokens_in ((summand_text false k ++ more) ++ rest)) ≡ made (with_summand k) (more_at (tokens_in (more ++ rest)))
summand-read k more rest h end =
    ap (λ f. more_at (tokens_in (((plus_text k.c ++ f) ++ var_text k.x ++ more) ++ rest))) (factor-size k.c)
    ∙ ap (λ bytes. more_at (tokens_in bytes)) (grouped (plus_text k.c) (sign_text k.c) (size_text (size k.c)) (var_text k.x) more rest)
    ∙ more-step k.c (size_and (size k.c) k.x (more ++ rest))
    ∙ summand-body k (more ++ rest) h end

-- the first summand, whose sign is its coefficient's alone
first-step : (c : ℤ) (x : ℕ) (rest : List ℕ) → in_range c ≡ true → not (is_zero c) ≡ true → is_place x ≡ true → ends_part rest ≡ true
    → sum_at (tokens_in (sign_text c ++ size_and (size c) x rest)) ≡ more_signed (is_below c) (tokens_in (size_and (size c) x rest))
first-step (pos n) x rest h some place end =
    let e = size-read n x rest (size-below (pos n) h) place end in
    ap sum_at e ∙ first-size n x (tokens_in rest) (size-some (pos n) some) ∙ ap (more_signed false) (sym e)
first-step (negsuc n) x rest h some place end = ap sum_at (minus-read (size_and (suc n) x rest))

grouped-first : (s z v more rest : List ℕ) → (((s ++ z) ++ v) ++ more) ++ rest ≡ s ++ (z ++ (v ++ (more ++ rest)))
grouped-first s z v more rest = simp append_assoc

first-read : (k : Coeff) (more rest : List ℕ) → IsCoeff k → ends_part (more ++ rest) ≡ true
    → sum_at (tokens_in ((summand_text true k ++ more) ++ rest)) ≡ made (with_summand k) (more_at (tokens_in (more ++ rest)))
first-read k more rest h end =
    ap (λ f. sum_at (tokens_in (((f ++ var_text k.x) ++ more) ++ rest))) (factor-size k.c)
    ∙ ap (λ bytes. sum_at (tokens_in bytes)) (grouped-first (sign_text k.c) (size_text (size k.c)) (var_text k.x) more rest)
    ∙ first-step k.c k.x (more ++ rest) h.1 h.2 h.0 end
    ∙ summand-body k (more ++ rest) h end

-- ---- the constant

-- behind summands
abbrev behind_text : ℤ → List ℕ
behind_text c = if int_eq c (pos 0) then [] else plus_text c ++ signed_decimal c

pub bounded-same : (c : ℤ) → in_range c ≡ true → bounded_integer c ≡ c
bounded-same c h = rw h refl

-- a constant other than 0, behind its sign
constant-value : (negative : Bool) (n : ℕ) (ts : List Token) → more_signed negative (digits (suc n) ∷ sign 32 ∷ ts) ≡ Some (([], bounded_integer (signed negative (suc n))), sign 32 ∷ ts)
constant-value negative n ts = let some : (suc n == 0) ≡ false = grind (arith, nat_tests) in rw some refl

-- the first number of a sum
first-value : (n : ℕ) (ts : List Token) → sum_at (digits (suc n) ∷ ts) ≡ more_signed false (digits (suc n) ∷ ts)
first-value n ts = let some : (suc n == 0) ≡ false = grind (arith, nat_tests) in rw some refl

module _ (o : Op) (rest : List ℕ) where
  abbrev blank : List Token
  blank = sign 32 ∷ tokens_in (relation_text o ++ (32 ∷ 48 ∷ rest))

  blanked : tokens_in (relation_and o rest) ≡ blank
  blanked = blank-read (relation_text o ++ (32 ∷ 48 ∷ rest))

  -- digits before the relation
  size-before : (n : ℕ) → n < 2 ^ 128 → tokens_in (decimal n ++ relation_and o rest) ≡ digits n ∷ blank
  size-before n h = digits-read n (relation_and o rest) h (ends-digits (relation_and o rest) refl) ∙ ap (λ ts. digits n ∷ ts) blanked

  constant-read : (c : ℤ) → in_range c ≡ true → more_at (tokens_in (behind_text c ++ relation_and o rest)) ≡ Some (([], c), tokens_in (relation_and o rest))
  constant-read (pos zero) h = ap more_at blanked ∙ ap (λ ts. Some (([], pos 0), ts)) (sym blanked)
  constant-read (pos (suc n)) h =
      ap (λ t. more_at (tokens_in ((if t then [] else plus_text (pos (suc n)) ++ decimal (suc n)) ++ relation_and o rest))) (other-one (pos (suc n)) (pos 0) (λ e. cc))
      ∙ ap (λ t. more_at (tokens_in ((t ++ decimal (suc n)) ++ relation_and o rest))) (plus-before (suc n))
      ∙ ap more_at (plus-read (decimal (suc n) ++ relation_and o rest))
      ∙ ap (more_signed false) (size-before (suc n) (integer-below (suc n) h))
      ∙ constant-value false n (tokens_in (relation_text o ++ (32 ∷ 48 ∷ rest)))
      ∙ ap (λ z. Some (([], z), blank)) (bounded-same (pos (suc n)) h) ∙ ap (λ ts. Some (([], pos (suc n)), ts)) (sym blanked)
  constant-read (negsuc n) h =
      ap (λ t. more_at (tokens_in ((if t then [] else plus_text (negsuc n) ++ (45 ∷ decimal (suc n))) ++ relation_and o rest))) (other-one (negsuc n) (pos 0) (λ e. cc))
      ∙ ap more_at (minus-read (decimal (suc n) ++ relation_and o rest))
      ∙ ap (more_signed true) (size-before (suc n) (integer-below (suc n) h))
      ∙ constant-value true n (tokens_in (relation_text o ++ (32 ∷ 48 ∷ rest)))
      ∙ ap (λ z. Some (([], z), blank)) (bounded-same (negsuc n) h) ∙ ap (λ ts. Some (([], negsuc n), ts)) (sym blanked)

  -- alone
  only-constant : (c : ℤ) → in_range c ≡ true → sum_at (tokens_in (signed_decimal c ++ relation_and o rest)) ≡ Some (([], c), tokens_in (relation_and o rest))
  only-constant (pos zero) h = ap sum_at (size-before 0 (integer-below 0 h)) ∙ ap (λ ts. Some (([], pos 0), ts)) (sym blanked)
  only-constant (pos (suc n)) h =
      ap sum_at (size-before (suc n) (integer-below (suc n) h))
      ∙ first-value n blank
      ∙ constant-value false n (tokens_in (relation_text o ++ (32 ∷ 48 ∷ rest)))
      ∙ ap (λ z. Some (([], z), blank)) (bounded-same (pos (suc n)) h) ∙ ap (λ ts. Some (([], pos (suc n)), ts)) (sym blanked)
  only-constant (negsuc n) h =
      ap sum_at (minus-read (decimal (suc n) ++ relation_and o rest))
      ∙ ap (more_signed true) (size-before (suc n) (integer-below (suc n) h))
      ∙ constant-value true n (tokens_in (relation_text o ++ (32 ∷ 48 ∷ rest)))
      ∙ ap (λ z. Some (([], z), blank)) (bounded-same (negsuc n) h) ∙ ap (λ ts. Some (([], negsuc n), ts)) (sym blanked)

  -- ---- sums

  behind-ends : (c : ℤ) → ends_part (behind_text c ++ relation_and o rest) ≡ true
  behind-ends (pos n) = by (int_eq (pos n) (pos 0))
    where
      by : (t : Bool) → ends_part ((if t then [] else plus_text (pos n) ++ decimal n) ++ relation_and o rest) ≡ true
      by true = refl
      by false = ap (λ t. ends_part ((t ++ decimal n) ++ relation_and o rest)) (plus-before n)
  behind-ends (negsuc n) = by (int_eq (negsuc n) (pos 0))
    where
      by : (t : Bool) → ends_part ((if t then [] else plus_text (negsuc n) ++ (45 ∷ decimal (suc n))) ++ relation_and o rest) ≡ true
      by true = refl
      by false = refl

  summand-ends : (k : Coeff) (more : List ℕ) → ends_part ((summand_text false k ++ more) ++ relation_and o rest) ≡ true
  summand-ends k more = ap (λ f. ends_part ((((plus_text k.c ++ f) ++ var_text k.x) ++ more) ++ relation_and o rest)) (factor-size k.c) ∙ by k.c
    where
      by : (c : ℤ) → ends_part ((((plus_text c ++ (sign_text c ++ size_text (size c))) ++ var_text k.x) ++ more) ++ relation_and o rest) ≡ true
      by (pos n) = ap (λ t. ends_part ((((t ++ size_text n) ++ var_text k.x) ++ more) ++ relation_and o rest)) (plus-before n)
      by (negsuc n) = refl

  sum-ends : (ks : List Coeff) (c : ℤ) → ends_part (summands_text false ks ++ (behind_text c ++ relation_and o rest)) ≡ true
  sum-ends [] c = behind-ends c
  sum-ends (k ∷ ks) c =
      ap ends_part (sym (append_assoc (summand_text false k ++ summands_text false ks) (behind_text c) (relation_and o rest)) ∙ ap (λ bytes. bytes ++ relation_and o rest) (append_assoc (summand_text false k) (summands_text false ks) (behind_text c)))
      ∙ summand-ends k (summands_text false ks ++ behind_text c)

  more-read : (ks : List Coeff) (c : ℤ) → Each IsCoeff ks → in_range c ≡ true
      → more_at (tokens_in (summands_text false ks ++ (behind_text c ++ relation_and o rest))) ≡ Some ((ks, c), tokens_in (relation_and o rest))
  more-read [] c g h = constant-read c h
  more-read (k ∷ ks) c g h =
      summand-read k (summands_text false ks) (behind_text c ++ relation_and o rest) g.0 (sum-ends ks c)
      ∙ ap (made (with_summand k)) (more-read ks c g.1 h)

  sum-read : (ks : List Coeff) (c : ℤ) → Each IsCoeff ks → in_range c ≡ true
      → sum_at (tokens_in (summands_text true ks ++ (constant_part ks c ++ relation_and o rest))) ≡ Some ((ks, c), tokens_in (relation_and o rest))
  sum-read [] c g h = only-constant c h
  sum-read (k ∷ ks) c g h =
      first-read k (summands_text false ks) (behind_text c ++ relation_and o rest) g.0 (sum-ends ks c)
      ∙ ap (made (with_summand k)) (more-read ks c g.1 h)

-- ---- rows

coeffs-fine : (ks : List Coeff) → list_all (λ k. is_place k.x && in_range k.c) ks ≡ true → list_all (λ k. not (is_zero k.c)) ks ≡ true → Each IsCoeff ks
coeffs-fine [] f n = tt
coeffs-fine (k ∷ ks) f n =
    let fs = and_parts (is_place k.x && in_range k.c) (list_all (λ k. is_place k.x && in_range k.c) ks) f in
    let ns = and_parts (not (is_zero k.c)) (list_all (λ k. not (is_zero k.c)) ks) n in
    let f0 = and_parts (is_place k.x) (in_range k.c) fs.0 in
    ((f0.0, f0.1, ns.0), coeffs-fine ks fs.1 ns.1)

nonzero : (a n i c l s : Bool) → (a && n && i && c && l && s) ≡ true → n ≡ true
nonzero a n i c l s e =
    let p1 = and_parts (a && n && i && c && l) s e in
    let p2 = and_parts (a && n && i && c) l p1.0 in
    let p3 = and_parts (a && n && i) c p2.0 in
    let p4 = and_parts (a && n) i p3.0 in
    (and_parts a n p4.0).1

row-grouped : (s c b r z rest : List ℕ) → ((((s ++ c) ++ b) ++ r) ++ z) ++ rest ≡ s ++ (c ++ (b ++ (r ++ (z ++ rest))))
row-grouped s c b r z rest = simp append_assoc

pub row-read : (r : Linear) (rest : List ℕ) → is_normal r ≡ true → row_fits r ≡ true → ends_part rest ≡ true → row_at (tokens_in (row_text r ++ rest)) ≡ Some (r, tokens_in rest)
row-read r rest n f end =
    let fs = and_parts (list_all (λ k. is_place k.x && in_range k.c) r.coeffs) (in_range r.constant) f in
    let nz =
    nonzero (ascends r.coeffs) (list_all (λ k. not (is_zero k.c)) r.coeffs) (in_range r.constant) (list_all (λ k. in_range k.c) r.coeffs) (nat_lt (common_divisor (integers r)) 2) (not (is_negated r)) n in
    let sum = sum-read r.op rest r.coeffs r.constant (coeffs-fine r.coeffs fs.0 nz) fs.1 in
    let is : is_row r ≡ true = rw (f, n) refl in
    ap (λ bytes. row_at (tokens_in bytes)) (row-grouped (summands_text true r.coeffs) (constant_part r.coeffs r.constant) (codes " ") (relation_text r.op) (codes " 0") rest)
    ∙ ap (λ o. (o >>= (λ s. made (row_of s.0) (relation_at s.1))) >>= (λ q. if is_row q.0 then Some q else None)) sum
    ∙ ap (λ o. made (row_of (r.coeffs, r.constant)) o >>= (λ q. if is_row q.0 then Some q else None)) (relation-read r.op rest end)
    ∙ rw is refl
