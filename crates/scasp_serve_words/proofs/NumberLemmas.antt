-- A word that is a number is text.
use Rattle.std.proofs.Common.{◌≡◌, ◌∙◌, ℕ, zero, suc, ◌<◌, ◌≤◌, Bool, true, false, ◌&&◌, not, List, [], ◌∷◌, length, Option, None, refl, sym, ap, arith, nat_le, slice_index}
use Rattle.std.specs.Prelude.{◌==◌, if◌then◌else◌, Some}
use Rattle.std.specs.Char.{is_ascii_digit}
use Rattle.std.specs.Str.{IsAscii, IsUtf8}
use Rattle.std.proofs.lemmas.Bool.{and_parts, leb-true}
use Rattle.std.proofs.lemmas.Str.{IsUtf8-from_ascii}
use Rattle.scasp_command_words.specs.Numbers.{are_digits, is_number, number_between, value}

digit-ascii : (b : ℕ) → is_ascii_digit b ≡ true → b < 128
digit-ascii b h =
    let most : b ≤ 57 = leb-true b 57 (and_parts (nat_le 48 b) (nat_le b 57) h).1 in
    omega (arith, most)

digits-ascii : (word : List ℕ) → are_digits word ≡ true → IsAscii word
digits-ascii [] h i = omega arith
digits-ascii (b ∷ bs) h zero = digit-ascii b (and_parts (is_ascii_digit b) (are_digits bs) h).0
digits-ascii (b ∷ bs) h (suc i) = digits-ascii bs (and_parts (is_ascii_digit b) (are_digits bs) h).1 i

number-digits : (word : List ℕ) → is_number word ≡ true → are_digits word ≡ true
number-digits [] h = refl
number-digits (b ∷ []) h = rw h refl
number-digits (a ∷ b ∷ bs) h = (and_parts (not (a == 48) && nat_le (length (a ∷ b ∷ bs)) 10) (are_digits (a ∷ b ∷ bs)) h).1

-- what is no text is no number
pub no-number : (least most : ℕ) (word : List ℕ) → ¬ (IsUtf8 word) → None ≡ number_between least most word
no-number least most word other = by (is_number word) refl
  where
    by : (b : Bool) → is_number word ≡ b → None ≡ number_between least most word
    by true e = absurd (other (IsUtf8-from_ascii word (digits-ascii word (number-digits word e))))
    by false e = rw e refl
