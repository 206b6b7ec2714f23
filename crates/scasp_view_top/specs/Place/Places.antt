-- A place in a text, which parts it in two: its line, its column, and how it is told.
use Rattle.std.specs.Prelude.{ℕ, ◌+◌, ◌-◌, ◌==◌, not, Bool, List, [], ◌∷◌, ◌++◌, length, take, drop, map, codes, decimal}
use Rattle.std.specs.List.{count_by, prefix_len, suffix_len}
use Rattle.scasp_view_top.specs.Place.Characters.{blank_below, first_bytes}

-- the byte is no line feed
abbrev pub is_inside : ℕ → Bool
is_inside b = not (b == 10)

-- the longest beginning of a text without a line feed
abbrev pub first_line : List ℕ → List ℕ
first_line text = take (prefix_len is_inside text) text

-- the longest end of a text without a line feed
abbrev pub last_line : List ℕ → List ℕ
last_line text = drop (length text - suffix_len is_inside text) text

-- the line of a place behind this text, from 1
abbrev pub line_number : List ℕ → ℕ
line_number before = count_by (λ b. b == 10) before + 1

-- The characters of the line from its first one to that of the place, each by its first byte. At the end of the text one stands there as if a line
-- feed did.
abbrev pub reached : List ℕ → List ℕ → List ℕ
reached before behind = first_bytes 0 (last_line before ++ take 1 (behind ++ 10 ∷ []))

-- the column of the place, from 1
abbrev pub column : List ℕ → List ℕ → ℕ
column before behind = length (reached before behind)

-- ---- how it is told

-- `line 4, column 17`
unfoldable pub numbers_text : ℕ → ℕ → List ℕ
numbers_text line column = codes "line " ++ decimal line ++ codes ", column " ++ decimal column ++ codes "\n"

-- the whole line of the place
unfoldable pub line_text : List ℕ → List ℕ → List ℕ
line_text before behind = last_line before ++ first_line behind ++ codes "\n"

-- a mark below the last of these characters
unfoldable pub mark_text : List ℕ → List ℕ
mark_text characters = map blank_below (take (length characters - 1) characters) ++ codes "^\n"

abbrev pub place_text : List ℕ → List ℕ → List ℕ
place_text before behind =
    numbers_text (line_number before) (column before behind) ++ line_text before behind ++ mark_text (reached before behind)
