-- Numbers: digits, and behind a point more digits.
use Rattle.std.specs.Prelude.{ℕ, ◌+◌, ◌-◌, ◌*◌, ◌^◌, List, [], ◌∷◌, ◌++◌, length, drop, codes, if◌then◌else◌, pos, Option}
use Rattle.std.specs.List.{take_while}
use Rattle.scasp_num.specs.Number.{Number}
use Rattle.scasp_num.specs.Arithmetic.{◌>>=◌, within, lowest}
use Rattle.scasp_reader_tokens.specs.Bytes.{is_digit, begins}

abbrev pub digits : List ℕ → List ℕ
digits bytes = take_while is_digit bytes

-- the digits behind a decimal point
abbrev pub decimals : List ℕ → List ℕ
decimals bytes = if begins bytes (codes ".") then digits (drop 1 bytes) else []

-- the bytes of digits, and of a point with digits behind it
abbrev pub written_length : List ℕ → List ℕ → ℕ
written_length whole [] = length whole
written_length whole (d ∷ part) = length whole + 1 + length (d ∷ part)

-- the number that digits spell behind those that spell n
abbrev pub digits_value : ℕ → List ℕ → ℕ
digits_value n [] = n
digits_value n (d ∷ ds) = digits_value (10 * n + (d - 48)) ds

-- All digits over 10^k, where k of them stand behind the point; none where one of these two integers is above M.
unfoldable pub literal_value : List ℕ → List ℕ → Option Number
literal_value whole part = do
  n ← within (pos (digits_value 0 (whole ++ part)))
  d ← within (pos (10 ^ length part))
  lowest n d
