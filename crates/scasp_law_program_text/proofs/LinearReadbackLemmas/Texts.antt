-- The texts of the parts of a linear item, case by case, and their tokens.
use Rattle.std.proofs.Common.{◌≡◌, ℕ, zero, suc, ◌+◌, ◌<◌, ◌≤◌, ◌^◌, ◌%◌, Bool, true, false, not, ◌||◌, ◌==◌, List, [], ◌∷◌, ◌++◌, length, codes, decimal, Some, ℤ, pos, negsuc, refl, sym, ap, subst, ◌∙◌, arith, lit≤, lit<, append_assoc, length-append}
use Rattle.std.specs.Prelude.{if◌then◌else◌}
use Rattle.std.specs.List.{list_all}
use Rattle.std.specs.Ordering.{int_eq}
use Rattle.std.proofs.lemmas.Bool.{and_parts, false≢true}
use Rattle.std.proofs.lemmas.Bool.Decides.{nat_tests, Decides-int_eq}
use Rattle.std.proofs.lemmas.Fmt.{decimal_by_steps_wide}
use Rattle.scasp_num.specs.declared.linear.Op.{Op}
use Rattle.scasp_num.specs.declared.linear.Op.TheVariants as op
use Rattle.scasp_num.proofs.Numbers.{below-zero}
use Rattle.scasp_reader_tokens.specs.Bytes.{is_digit, is_upper, is_name_byte}
use Rattle.scasp_reader_tokens.specs.declared.sign.Sign.TheVariants as sign
use Rattle.scasp_reader_tokens.specs.declared.token.Placed.{Placed}
use Rattle.scasp_reader_tokens.specs.declared.token.Token.TheVariants as token
use Rattle.scasp_reader_tokens.specs.Tokens.{placed, tokens_behind}
use Rattle.scasp_cert.specs.Text.Constraints.{plus_text, factor_text, relation_text}
use Rattle.scasp_law_program_text.specs.Readback.Endings.{ends_name, ends_number, is_variable_text}
use Rattle.scasp_law_program_text.proofs.ReadbackLemmas.NameReading.{not-true}
use Rattle.scasp_law_program_text.proofs.ReadbackLemmas.NumberReading.{number-read, decimal-digits}
use Rattle.scasp_law_program_text.proofs.ReadbackLemmas.SignReading.{minus_read, times_read, blank_read, equals_read, below_read, at_most_read, other_read}
use Rattle.scasp_law_program_text.proofs.ReadbackLemmas.VariableReading.{variable-read}
use Rattle.scasp_law_program_text.proofs.CompoundReadbackLemmas.Tokens.{Has, has-append, has-fewer, has-token, variable-has}
use Rattle.scasp_law_program_text.proofs.LinearReadbackLemmas.WholeNumbers.{integer, lowest-integer}

-- ---- numbers and signs in front of variables

-- what is written of a number in front of its variable, without its sign
abbrev pub size_text : ℕ → List ℕ
size_text n = if int_eq (pos n) (pos 1) then [] else decimal n ++ codes "*"

pub other-integer : (x y : ℤ) → (x ≡ y → ⊥) → int_eq x y ≡ false
other-integer x y h = by (int_eq x y) refl
  where
    by : (b : Bool) → int_eq x y ≡ b → int_eq x y ≡ false
    by true e = absurd (h ((Decides-int_eq x y).0 e))
    by false e = e

pub factor-pos : (n : ℕ) → factor_text (pos n) ≡ size_text n
factor-pos n = refl

pub factor-neg : (n : ℕ) → factor_text (negsuc n) ≡ 45 ∷ size_text (suc n)
factor-neg zero = refl
factor-neg (suc n) =
    let a : int_eq (negsuc (suc n)) (negsuc 0) ≡ false = other-integer (negsuc (suc n)) (negsuc 0) (λ e. cc) in
    let b : int_eq (pos (suc (suc n))) (pos 1) ≡ false = other-integer (pos (suc (suc n))) (pos 1) (λ e. cc) in
    rw (a, b) refl

pub plus-pos : (n : ℕ) → plus_text (pos n) ≡ codes "+"
plus-pos n = rw (below-zero n) refl

pub plus-neg : (n : ℕ) → plus_text (negsuc n) ≡ []
plus-neg n = refl

pub is-one : (n : ℕ) → int_eq (pos n) (pos 1) ≡ true → n ≡ 1
is-one n e = let same : pos n ≡ pos 1 = (Decides-int_eq (pos n) (pos 1)).0 e in cc

-- ---- digits

pub wide : (n : ℕ) → n < 2 ^ 127 → n < 10 ^ 64
wide n h = let big : 2 ^ 127 ≤ 10 ^ 64 = lit≤ tt in omega (arith, big, h)

some-digits : (n : ℕ) → n < 10 ^ 64 → 0 < length (decimal n)
some-digits n small = decimal_by_steps_wide (λ n ds. 0 < length ds) (λ n h. lit< tt) (λ n ds h s. omega (arith, length-append ds ((48 + n % 10) ∷ []))) n small

pub number-tokens : (n : ℕ) (rest : List ℕ) (at : ℕ) → n < 2 ^ 127 → ends_number rest ≡ true
    → tokens_behind 0 at (decimal n ++ rest) ≡ placed at (token.Number (Some (integer (pos n)))) ∷ tokens_behind 0 (at + length (decimal n)) rest
number-tokens n rest at h end = number-read n rest at h end ∙ ap (λ q. placed at (token.Number q) ∷ tokens_behind 0 (at + length (decimal n)) rest) (lowest-integer (pos n) h)

-- a byte that may stand here is no digit, and no point
pub sign-ends : (b : ℕ) (bytes : List ℕ) → is_digit b ≡ false → (b == 46) ≡ false → ends_number (b ∷ bytes) ≡ true
sign-ends b [] d p = rw d refl
sign-ends b (c ∷ bytes) d p = rw (d, p) refl

-- ---- a minus sign

-- the bytes begin with one that makes no arrow of a minus sign
abbrev pub begins_operand : List ℕ → Bool
begins_operand [] = false
begins_operand (b ∷ bytes) = not (62 == b)

pub minus-tokens : (bytes : List ℕ) (at : ℕ) → begins_operand bytes ≡ true → tokens_behind 0 at (45 ∷ bytes) ≡ placed at (token.Sign sign.Minus) ∷ tokens_behind 0 (at + 1) bytes
minus-tokens [] at h = absurd (false≢true h)
minus-tokens (b ∷ bytes) at h = minus_read b (not-true (62 == b) h) bytes at

digits-begin : (ds more : List ℕ) → 0 < length ds → list_all is_digit ds ≡ true → begins_operand (ds ++ more) ≡ true
digits-begin [] more some e = absurd (omega arith)
digits-begin (b ∷ ds) more some e = let digit = (and_parts (is_digit b) (list_all is_digit ds) e).0 in by b digit
  where
    by : (b : ℕ) → is_digit b ≡ true → not (62 == b) ≡ true
    by b e = grind (arith, nat_tests)

pub number-begins : (n : ℕ) (more : List ℕ) → n < 2 ^ 127 → begins_operand (decimal n ++ more) ≡ true
number-begins n more h = let small = wide n h in digits-begin (decimal n) more (some-digits n small) (decimal-digits n small)

variable-begins : (text more : List ℕ) → is_variable_text text ≡ true → begins_operand (text ++ more) ≡ true
variable-begins [] more e = absurd (false≢true e)
variable-begins (b ∷ text) more e = by b (and_parts (is_upper b || b == 95) (list_all is_name_byte text) e).0
  where
    by : (b : ℕ) → (is_upper b || b == 95) ≡ true → not (62 == b) ≡ true
    by b e = grind (arith, nat_tests)

-- ---- a number times a variable, whose text is this

long-is : (n : ℕ) → int_eq (pos n) (pos 1) ≡ false → size_text n ≡ decimal n ++ codes "*"
long-is n e = rw e refl

short-is : (n : ℕ) → int_eq (pos n) (pos 1) ≡ true → size_text n ≡ []
short-is n e = rw e refl

pub product-begins : (text more : List ℕ) (n : ℕ) → is_variable_text text ≡ true → n < 2 ^ 127 → begins_operand ((size_text n ++ text) ++ more) ≡ true
product-begins text more n v h = by (int_eq (pos n) (pos 1)) refl
  where
    by : (b : Bool) → int_eq (pos n) (pos 1) ≡ b → begins_operand ((size_text n ++ text) ++ more) ≡ true
    by true e = subst (λ size. begins_operand ((size ++ text) ++ more) ≡ true) (sym (short-is n e)) (variable-begins text more v)
    by false e =
        subst (λ size. begins_operand ((size ++ text) ++ more) ≡ true) (sym (long-is n e))
        (subst (λ bytes. begins_operand bytes ≡ true) (sym (append_assoc (decimal n ++ codes "*") text more ∙ append_assoc (decimal n) (codes "*") (text ++ more))) (number-begins n (42 ∷ (text ++ more)) h))

module _ (text rest : List ℕ) (v : is_variable_text text ≡ true) (end : ends_name rest ≡ true) where
  star-ends : ends_number (42 ∷ (text ++ rest)) ≡ true
  star-ends = sign-ends 42 (text ++ rest) refl refl

  pub long-tokens : (n at : ℕ) → n < 2 ^ 127
      → tokens_behind 0 at (((decimal n ++ codes "*") ++ text) ++ rest)
      ≡ placed at (token.Number (Some (integer (pos n)))) ∷ placed (at + length (decimal n)) (token.Sign sign.Times)
      ∷ placed (at + length (decimal n) + 1) (token.Variable text) ∷ tokens_behind 0 (at + length (decimal n) + 1 + length text) rest
  long-tokens n at h =
      let b = at + length (decimal n) in
      let q = token.Number (Some (integer (pos n))) in
      ap (tokens_behind 0 at) (append_assoc (decimal n ++ codes "*") text rest ∙ append_assoc (decimal n) (codes "*") (text ++ rest))
      ∙ number-tokens n (42 ∷ (text ++ rest)) at h star-ends
      ∙ ap (λ ts. placed at q ∷ ts) (times_read (text ++ rest) b)
      ∙ ap (λ ts. placed at q ∷ placed b (token.Sign sign.Times) ∷ ts) (variable-read text rest (b + 1) v end)

  -- what holds of both forms of its tokens
  pub by-product : (n at : ℕ) → n < 2 ^ 127 → (P : List Placed → Type 0) → ((a : ℕ) → P (placed at (token.Variable text) ∷ tokens_behind 0 a rest))
      → ((q : ℕ) (b : ℕ) (ts : List Placed) → P (placed at (token.Number (Some (integer (pos q)))) ∷ placed b (token.Sign sign.Times) ∷ ts))
      → P (tokens_behind 0 at ((size_text n ++ text) ++ rest))
  by-product n at h P short long = by (int_eq (pos n) (pos 1)) refl
    where
      by : (b : Bool) → int_eq (pos n) (pos 1) ≡ b → P (tokens_behind 0 at ((size_text n ++ text) ++ rest))
      by true e = subst (λ size. P (tokens_behind 0 at ((size ++ text) ++ rest))) (sym (short-is n e)) (subst P (sym (variable-read text rest at v end)) (short (at + length text)))
      by false e =
          subst (λ size. P (tokens_behind 0 at ((size ++ text) ++ rest))) (sym (long-is n e))
          (subst P (sym (long-tokens n at h)) (long n (at + length (decimal n)) (placed (at + length (decimal n) + 1) (token.Variable text) ∷ tokens_behind 0 (at + length (decimal n) + 1 + length text) rest)))

  pub product-has : (n : ℕ) → n < 2 ^ 127 → Has 1 (size_text n ++ text) rest
  product-has n h = by (int_eq (pos n) (pos 1)) refl
    where
      by : (b : Bool) → int_eq (pos n) (pos 1) ≡ b → Has 1 (size_text n ++ text) rest
      by true e = subst (λ size. Has 1 (size ++ text) rest) (sym (short-is n e)) (variable-has text rest v end)
      by false e =
          subst (λ size. Has 1 (size ++ text) rest) (sym (long-is n e))
          (has-fewer 1 2 ((decimal n ++ codes "*") ++ text) rest (omega arith)
          (has-append 1 1 (decimal n ++ codes "*") text rest
          (has-fewer 1 2 (decimal n ++ codes "*") (text ++ rest) (omega arith)
          (has-append 1 1 (decimal n) (codes "*") (text ++ rest)
          (has-token (λ at. placed at (token.Number (Some (integer (pos n))))) (decimal n) (42 ∷ (text ++ rest)) (λ at. number-tokens n (42 ∷ (text ++ rest)) at h star-ends))
          (has-token (λ at. placed at (token.Sign sign.Times)) (codes "*") (text ++ rest) (times_read (text ++ rest)))))
          (variable-has text rest v end)))

-- ---- the relation to 0

pub relation-tokens : (o : Op) (rest : List ℕ) (at : ℕ)
    → tokens_behind 0 at (32 ∷ (relation_text o ++ (32 ∷ rest))) ≡ placed (at + 1) (token.Sign (sign.Relation o false)) ∷ tokens_behind 0 (at + 1 + length (relation_text o) + 1) rest
relation-tokens op.Eq rest at =
    blank_read (35 ∷ 61 ∷ 32 ∷ rest) at ∙ equals_read rest (at + 1) ∙ ap (λ ts. placed (at + 1) (token.Sign (sign.Relation op.Eq false)) ∷ ts) (blank_read rest (at + 1 + 2))
relation-tokens op.Lt rest at =
    blank_read (35 ∷ 60 ∷ 32 ∷ rest) at ∙ below_read rest (at + 1) ∙ ap (λ ts. placed (at + 1) (token.Sign (sign.Relation op.Lt false)) ∷ ts) (blank_read rest (at + 1 + 2))
relation-tokens op.Le rest at =
    blank_read (35 ∷ 61 ∷ 60 ∷ 32 ∷ rest) at ∙ at_most_read rest (at + 1) ∙ ap (λ ts. placed (at + 1) (token.Sign (sign.Relation op.Le false)) ∷ ts) (blank_read rest (at + 1 + 3))
relation-tokens op.Ne rest at =
    blank_read (35 ∷ 60 ∷ 62 ∷ 32 ∷ rest) at ∙ other_read rest (at + 1) ∙ ap (λ ts. placed (at + 1) (token.Sign (sign.Relation op.Ne false)) ∷ ts) (blank_read rest (at + 1 + 3))
