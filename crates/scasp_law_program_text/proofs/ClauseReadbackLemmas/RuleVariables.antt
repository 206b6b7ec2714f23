-- The variables of a rule have texts of their own.
use Rattle.std.proofs.Common.{◌≡◌, ℕ, zero, suc, ◌+◌, ◌<◌, ◌≤◌, ◌^◌, Bool, true, false, not, ◌&&◌, ◌||◌, List, length, decimal, slice_get, Some, refl, sym, ap, ◌∙◌, arith, lit<}
use Rattle.std.specs.Str.{bytes_eq}
use Rattle.std.proofs.lemmas.Bool.{and_from}
use Rattle.std.proofs.lemmas.Slice.Eq.{bytes_eq-Decides}
use Rattle.scasp_reader_tokens.specs.Numbers.{digits_value}
use Rattle.scasp_name.specs.Texts.{has_text}
use Rattle.scasp_cert.specs.Text.Terms.{var_text}
use Rattle.scasp_print_program.specs.Programs.{rule_variables}
use Rattle.scasp_law_program_text.specs.Readback.Endings.{is_variable_text}
use Rattle.scasp_law_program_text.proofs.ReadbackLemmas.NumberReading.{spells}
use Rattle.scasp_law_program_text.proofs.ReadbackLemmas.VariableReading.{rule-variable}
use Rattle.scasp_law_program_text.specs.CompoundReadback.Styles.{is_anonymous, are_variables, IsTable, IsStyle}
use Rattle.scasp_law_program_text.specs.ClauseReadback.Parts.{rule_style}

pub length-rule : (x n : ℕ) → length (rule_variables x n) ≡ n
length-rule x zero = refl
length-rule x (suc n) = ap suc (length-rule (x + 1) n)

-- the text of each
pub rule-at : (y n x : ℕ) → x < n → slice_get (rule_variables y n) x ≡ Some (var_text (y + x))
rule-at y zero x h = absurd (omega (arith, h))
rule-at y (suc n) zero h = let e : y ≡ y + 0 = omega arith in ap (λ z. Some (var_text z)) e
rule-at y (suc n) (suc x) h = let e : y + 1 + x ≡ y + suc x = omega arith in rule-at (y + 1) n x (omega (arith, h)) ∙ ap (λ z. Some (var_text z)) e

same-digits : (x y : ℕ) → x < 10 ^ 64 → y < 10 ^ 64 → decimal x ≡ decimal y → x ≡ y
same-digits x y hx hy e = sym (spells x hx).1 ∙ ap (digits_value 0) e ∙ (spells y hy).1

same-text : (x y : ℕ) → var_text x ≡ var_text y → decimal x ≡ decimal y
same-text x y e = cc

other-text : (x y : ℕ) → x < y → y < 10 ^ 64 → bytes_eq (var_text x) (var_text y) ≡ false
other-text x y below h = by (bytes_eq (var_text x) (var_text y)) refl
  where
    by : (b : Bool) → bytes_eq (var_text x) (var_text y) ≡ b → bytes_eq (var_text x) (var_text y) ≡ false
    by false q = q
    by true q =
        let same : x ≡ y = same-digits x y (omega (arith, below, h)) h (same-text x y ((bytes_eq-Decides (var_text x) (var_text y)).0 q)) in
        absurd (omega (arith, same, below))

none-later : (x y n : ℕ) → x < y → y + n < 10 ^ 64 → has_text (rule_variables y n) (var_text x) ≡ false
none-later x y zero below h = refl
none-later x y (suc n) below h = rw (other-text x y below (omega (arith, h)), none-later x (y + 1) n (omega arith) (omega (arith, h))) refl

or-right : (b c : Bool) → c ≡ true → (b || c) ≡ true
or-right true c e = refl
or-right false c e = e

rule-variables : (x n : ℕ) → x + n < 10 ^ 64 → are_variables (rule_variables x n) ≡ true
rule-variables x zero h = refl
rule-variables x (suc n) h =
    let text = var_text x in
    let others = rule_variables (x + 1) n in
    let later : not (has_text others text) ≡ true = ap not (none-later x (x + 1) n (omega arith) (omega (arith, h))) in
    and_from (is_variable_text text && (is_anonymous text || not (has_text others text))) (are_variables others)
    (and_from (is_variable_text text) (is_anonymous text || not (has_text others text)) (rule-variable x (omega (arith, h))) (or-right (is_anonymous text) (not (has_text others text)) later))
    (rule-variables (x + 1) n (omega (arith, h)))

pub rule-style : (names : List (List ℕ)) (n : ℕ) → IsTable names → n ≤ 64 → IsStyle (rule_style names n)
rule-style names n table h =
    let big : 64 < 10 ^ 64 = lit< tt in
    let small : 0 + n < 10 ^ 64 = omega (arith, big, h) in
    record { table = table; variables = rule-variables 0 n small }
