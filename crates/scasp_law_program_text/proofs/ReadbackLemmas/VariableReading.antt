-- The text of a variable is read back.
use Rattle.std.proofs.Common.{◌≡◌, ℕ, ◌+◌, ◌<◌, ◌^◌, Bool, true, false, ◌&&◌, ◌||◌, ◌==◌, List, [], ◌∷◌, ◌++◌, length, codes, decimal, refl, sym, ap, ◌∙◌, arith}
use Rattle.std.specs.List.{list_all, take_while}
use Rattle.std.proofs.lemmas.Bool.{and_parts, and_from}
use Rattle.std.proofs.lemmas.Bool.Decides.{nat_tests}
use Rattle.scasp_cert.specs.Text.Terms.{var_text}
use Rattle.scasp_reader_tokens.specs.declared.token.Token.TheVariants as token
use Rattle.scasp_reader_tokens.specs.declared.token.Front.TheVariants.{Found}
use Rattle.scasp_reader_tokens.specs.Bytes.{is_blank, is_lower, is_upper, is_digit, is_name_byte, begins}
use Rattle.scasp_reader_tokens.specs.Tokens.{front, placed, tokens_behind, variable}
use Rattle.scasp_law_program_text.specs.Readback.Endings.{ends_name, is_variable_text}
use Rattle.scasp_law_program_text.proofs.ReadbackLemmas.Fronts.{found-read}
use Rattle.scasp_law_program_text.proofs.ReadbackLemmas.NameReading.{ends-word, one-taken}
use Rattle.scasp_law_program_text.proofs.ReadbackLemmas.NumberReading.{decimal-digits}

all-taken : (bytes rest : List ℕ) → list_all is_name_byte bytes ≡ true → ends_name rest ≡ true → take_while is_name_byte (bytes ++ rest) ≡ bytes
all-taken [] rest e end = ends-word rest end
all-taken (b ∷ bytes) rest e end =
    let parts = and_parts (is_name_byte b) (list_all is_name_byte bytes) e in
    one-taken b (bytes ++ rest) bytes parts.0 (all-taken bytes rest parts.1 end)

upper-front : (b : ℕ) (bytes : List ℕ) → (is_upper b || b == 95) ≡ true → front (b ∷ bytes) ≡ variable (b ∷ bytes)
upper-front b bytes e =
    let blank : is_blank b ≡ false = grind (arith, nat_tests) in
    let percent : (b == 37) ≡ false = grind (arith, nat_tests) in
    let slash : begins (b ∷ bytes) (codes "/*") ≡ false = grind (arith, nat_tests) in
    let lower : is_lower b ≡ false = grind (arith, nat_tests) in
    let quote : (b == 39) ≡ false = grind (arith, nat_tests) in
    rw (blank, percent, slash, lower, quote, e) refl

pub variable-read : (text rest : List ℕ) (at : ℕ) → is_variable_text text ≡ true → ends_name rest ≡ true
    → tokens_behind 0 at (text ++ rest) ≡ placed at (token.Variable text) ∷ tokens_behind 0 (at + length text) rest
variable-read [] rest at e end = cc
variable-read (b ∷ bytes) rest at e end =
    let parts = and_parts (is_upper b || b == 95) (list_all is_name_byte bytes) e in
    let byte : is_name_byte b ≡ true = grind (arith, nat_tests, parts.0) in
    let all = one-taken b (bytes ++ rest) bytes byte (all-taken bytes rest parts.1 end) in
    found-read b bytes rest (token.Variable (b ∷ bytes)) at
    (upper-front b (bytes ++ rest) parts.0 ∙ ap (λ t. Found (token.Variable t) (length t)) all)

digits-in-names : (ds : List ℕ) → list_all is_digit ds ≡ true → list_all is_name_byte ds ≡ true
digits-in-names [] e = refl
digits-in-names (d ∷ ds) e =
    let parts = and_parts (is_digit d) (list_all is_digit ds) e in
    let byte : is_name_byte d ≡ true = grind (arith, nat_tests, parts.0) in
    and_from (is_name_byte d) (list_all is_name_byte ds) byte (digits-in-names ds parts.1)

pub rule-variable : (x : ℕ) → x < 10 ^ 64 → is_variable_text (var_text x) ≡ true
rule-variable x h = digits-in-names (decimal x) (decimal-digits x h)
