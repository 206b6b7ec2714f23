-- What may stand behind a token that is written, so that it is read as this token and no longer one.
use Rattle.std.specs.Prelude.{ℕ, Bool, true, false, not, ◌&&◌, ◌||◌, ◌==◌, List, [], ◌∷◌}
use Rattle.scasp_reader_tokens.specs.Bytes.{is_name_byte, is_digit, is_upper}
use Rattle.std.specs.List.{list_all}

-- behind a name: no byte of a name, and no quote
abbrev pub ends_name : List ℕ → Bool
ends_name [] = true
ends_name (b ∷ bytes) = not (is_name_byte b) && not (b == 39)

-- behind a number: no digit, and no point with a digit
abbrev pub ends_number : List ℕ → Bool
ends_number [] = true
ends_number (b ∷ []) = not (is_digit b)
ends_number (b ∷ c ∷ bytes) = not (is_digit b) && not (b == 46 && is_digit c)

-- the text of a variable: an upper-case letter or `_`, and then bytes of names
abbrev pub is_variable_text : List ℕ → Bool
is_variable_text [] = false
is_variable_text (b ∷ bytes) = (is_upper b || b == 95) && list_all is_name_byte bytes
