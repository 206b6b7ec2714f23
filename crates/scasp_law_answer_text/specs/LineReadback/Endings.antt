-- What may stand behind a part of a line, and at its front.
use Rattle.std.specs.Prelude.{ℕ, Bool, true, false, ◌||◌, ◌==◌, List, [], ◌∷◌}
use Rattle.scasp_reader_tokens.specs.Bytes.{is_lower}

-- the line's end, or a blank, or one of `)*+,-.;]|`: no part that ends before one of these goes on with it
abbrev pub ends_part : List ℕ → Bool
ends_part [] = true
ends_part (b ∷ bytes) = b == 32 || b == 41 || b == 42 || b == 43 || b == 44 || b == 45 || b == 46 || b == 59 || b == 93 || b == 124

-- a lower-case letter stands first
abbrev pub begins_lower : List ℕ → Bool
begins_lower [] = false
begins_lower (b ∷ bytes) = is_lower b
