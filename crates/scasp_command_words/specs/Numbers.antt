-- Numbers as words.
use Rattle.std.specs.Prelude.{ℕ, Bool, false, not, ◌&&◌, ◌==◌, nat_le, Option, None, Some, if◌then◌else◌, List, [], ◌∷◌, length}
use Rattle.std.specs.Char.{is_ascii_digit}
use Rattle.std.specs.List.{list_all}
use Rattle.std.specs.Str.Parse.{digits_value}

abbrev pub are_digits : List ℕ → Bool
are_digits word = list_all is_ascii_digit word

-- `0`, or one to ten digits without a leading zero
abbrev pub is_number : List ℕ → Bool
is_number [] = false
is_number (digit ∷ []) = is_ascii_digit digit
is_number (first ∷ second ∷ more) =
    not (first == 48) && nat_le (length (first ∷ second ∷ more)) 10 && are_digits (first ∷ second ∷ more)

-- the number that digits spell
abbrev pub value : List ℕ → ℕ
value word = digits_value 10 word

-- the number that a word spells, where it is from `least` to `most`
abbrev pub number_between : ℕ → ℕ → List ℕ → Option ℕ
number_between least most word =
    if is_number word && nat_le least (value word) && nat_le (value word) most then Some (value word) else None
