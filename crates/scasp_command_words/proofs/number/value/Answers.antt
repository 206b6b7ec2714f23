use Rattle.std.proofs.Common.{rules, arith, ◌≡◌, IsTrue, ℕ, ◌<◌, ◌≤◌, length, true, not, ◌&&◌, ◌==◌, nat_le, List, [], ◌∷◌, Result, Ok, refl}
use Rattle.std.proofs.lemmas.Bool.{and_parts, leb-true}
use Rattle.std.proofs.lemmas.Str.Parse.{IsNumeralModel, digits_value_short, numerals_by_value, parse_gives}
use Rattle.std.specs.Char.{is_ascii_digit}
use Rattle.std.specs.List.{list_all}
use Rattle.std.specs.Str.Parse.{ParsesUnsigned, digits_value}
use Rattle.scasp_command_words.specs.Numbers.{are_digits, is_number}
use Rattle.scasp_command_words.proofs.number.value.Goals as goal

own : IsNumeralModel (λ ds. list_all is_ascii_digit ds ≡ true) (digits_value 10)
own = numerals_by_value _ (search rules)

-- a number is some digits, at most ten
record IsSome (word : List ℕ) : Type 0 where
  digits : are_digits word ≡ true
  some : 0 < length word
  few : length word ≤ 10

parts : (word : List ℕ) → IsTrue (is_number word) → IsSome word
parts [] h = cc
parts (d ∷ []) h = record { digits = rw h refl; some = omega arith; few = omega arith }
parts (d ∷ e ∷ ds) h =
    let w : List ℕ = d ∷ e ∷ ds in
    let p = and_parts (not (d == 48) && nat_le (length w) 10) (are_digits w) h in
    let q = and_parts (not (d == 48)) (nat_le (length w) 10) p.0 in
    record { digits = p.1; some = omega arith; few = leb-true (length w) 10 q.1 }

number-parses : {E : Type 0} (word : List ℕ) (r : Result ℕ E) → ParsesUnsigned 64 10 word r → IsTrue (is_number word) → r ≡ Ok (digits_value 10 word)
number-parses word r h is =
    let n = parts word is in
    parse_gives own 64 word r h n.digits n.some (omega (arith, digits_value_short own word 10 n.digits n.few))

pub returns : goal.returns
returns c =
    let parsed = number-parses c.args.word.now c.parse.result c.parse.ensures.value.0 c.requires in
    rw parsed at c.unwrap_or.ensures
