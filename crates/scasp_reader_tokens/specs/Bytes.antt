-- The classes of bytes of a text, and places in it.
use Rattle.std.specs.Prelude.{ℕ, ◌+◌, Bool, ◌||◌, ◌&&◌, ◌==◌, not, nat_le, nat_eq, List, Option, option_map}
use Rattle.std.specs.List.{starts_with}

-- space, tab, line feed, carriage return
abbrev pub is_blank : ℕ → Bool
is_blank b = b == 32 || b == 9 || b == 10 || b == 13

abbrev pub is_lower : ℕ → Bool
is_lower b = nat_le 97 b && nat_le b 122

abbrev pub is_upper : ℕ → Bool
is_upper b = nat_le 65 b && nat_le b 90

abbrev pub is_digit : ℕ → Bool
is_digit b = nat_le 48 b && nat_le b 57

-- an ASCII letter, a digit, or `_`
abbrev pub is_name_byte : ℕ → Bool
is_name_byte b = is_lower b || is_upper b || is_digit b || b == 95

-- any byte but a line feed
abbrev pub is_of_line : ℕ → Bool
is_of_line b = not (b == 10)

-- the bytes begin with this text
abbrev pub begins : List ℕ → List ℕ → Bool
begins bytes text = starts_with nat_eq bytes text

-- a place, so many bytes on
abbrev pub farther : ℕ → Option ℕ → Option ℕ
farther n place = option_map (λ k. k + n) place
