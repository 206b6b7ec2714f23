-- The characters of a text in UTF-8. A byte that belongs to none is a character of its own, so every text has characters.
use Rattle.std.specs.Prelude.{ℕ, ◌-◌, ◌&&◌, ◌==◌, Bool, nat_lt, nat_le, if◌then◌else◌, List, [], ◌∷◌}

-- the byte may stand in a character behind its first byte
abbrev pub continues : ℕ → Bool
continues b = nat_le 128 b && nat_lt b 192

-- how many bytes a character may have behind this first one
abbrev pub room_behind : ℕ → ℕ
room_behind b = if nat_lt b 192 then 0 else if nat_lt b 224 then 1 else if nat_lt b 240 then 2 else 3

-- the first bytes of the characters, in order, where the character before may have so many further bytes
abbrev pub first_bytes : ℕ → List ℕ → List ℕ
first_bytes room [] = []
first_bytes room (b ∷ bs) =
    if nat_lt 0 room && continues b then first_bytes (room - 1) bs else b ∷ first_bytes (room_behind b) bs

-- what stands below a character in front of a mark: a blank, and a tab below a tab
abbrev pub blank_below : ℕ → ℕ
blank_below b = if b == 9 then 9 else 32
