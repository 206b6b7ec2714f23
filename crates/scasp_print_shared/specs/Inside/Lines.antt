-- Lines of a block as the code has them.
use Rattle.std.specs.Prelude.{◌≡◌, ℕ, ◌+◌, if◌then◌else◌, List, [], ◌∷◌, map, take, drop, Option, None, Some}
use Rattle.scasp_copies.specs.Copies.{Move}
use Rattle.scasp_copies.specs.Pieces.{Piece, Split, split_lines}
use Rattle.scasp_print_shared.specs.Shared.{is_tree}
use Rattle.scasp_print_shared.specs.declared.lines.Line.{Line}
use Rattle.scasp_print_shared.specs.declared.moves.Shift.{Shift}

abbrev pub read : Line → Piece
read l = record { depth = l.depth; words = l.words.now }

abbrev pub read_all : List Line → List Piece
read_all ls = map read ls

-- a line more in front
abbrev pub with_line : List ℕ → Split → Split
with_line line s = record { lines = line ∷ s.lines; rest = s.rest }

-- the bytes split at the first line feed, where there is one
abbrev pub Splits : List ℕ → Option ℕ → Type 0
Splits bytes None = split_lines bytes ≡ record { lines = []; rest = bytes }
Splits bytes (Some len) = split_lines bytes ≡ with_line (take len bytes) (split_lines (drop (len + 1) bytes))

-- the number of lines up to and with the line `tree`
abbrev pub behind_tree : List Piece → ℕ
behind_tree [] = 0
behind_tree (p ∷ ps) = 1 + (if is_tree p then 0 else behind_tree ps)

abbrev pub move_of : Shift → Move
move_of s = record { from = s.from; count = s.count; to = s.to }
