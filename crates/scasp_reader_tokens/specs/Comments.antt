-- Comments: from `%` up to the end of the line, and from `/*` up to `*/`.
use Rattle.std.specs.Prelude.{ℕ, List, [], ◌∷◌, drop, codes, if◌then◌else◌, Option, None, Some}
use Rattle.std.specs.List.{prefix_len}
use Rattle.scasp_reader_tokens.specs.Bytes.{is_of_line, begins, farther}

-- the bytes of a line that are left
abbrev pub line_length : List ℕ → ℕ
line_length bytes = prefix_len is_of_line bytes

-- the bytes before the first `*/`
abbrev pub length_before_end : List ℕ → Option ℕ
length_before_end [] = None
length_before_end (b ∷ bytes) = if begins (b ∷ bytes) (codes "*/") then Some 0 else farther 1 (length_before_end bytes)

-- the bytes of the comment that begins here with `/*`
abbrev pub block_length : List ℕ → Option ℕ
block_length bytes = farther 4 (length_before_end (drop 2 bytes))
