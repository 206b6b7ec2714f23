-- The lines of the code as values, and what a subtree of them becomes in a copy.
use Rattle.std.specs.Prelude.{ℕ, List, map, reverse}
use Rattle.scasp_copies.specs.Pieces.{Piece}
use Rattle.scasp_copies.specs.Copies.{Move, moved_piece}
use Rattle.scasp_copies.specs.declared.line.Words.{Words}
use Rattle.scasp_copies.specs.declared.line.Words.TheVariants as words
use Rattle.scasp_copies.specs.declared.line.BlockLine.{BlockLine}
use Rattle.scasp_copies.specs.declared.moving.Moving.{Moving}
use Rattle.scasp_copies.specs.declared.subtree.Subtree.{Subtree}

abbrev pub words_of : Words → List ℕ
words_of (words.Read bytes) = bytes.now
words_of (words.Moved bytes) = bytes.items

abbrev pub line_piece : BlockLine → Piece
line_piece l = record { depth = l.depth; words = words_of l.words }

abbrev pub pieces_of : List BlockLine → List Piece
pieces_of ls = map line_piece ls

-- lines that are taken from the end
abbrev pub waiting_of : List BlockLine → List Piece
waiting_of ls = reverse (map line_piece ls)

abbrev pub move_of : Moving → Move
move_of m = record { from = m.from; count = m.count; to = m.to }

-- the line as it stands in the copy
abbrev pub moved_by : Moving → Piece → Piece
moved_by m p = moved_piece (move_of m) m.top m.depth p

-- the lines of the copy
abbrev pub stands_for : Subtree → List Piece
stands_for s = map (moved_by s.moving) (pieces_of s.lines.now)
