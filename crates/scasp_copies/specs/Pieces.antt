-- The lines of a block as they are written: words behind blanks.
use Rattle.std.specs.Prelude.{ℕ, ◌==◌, ◌&&◌, Bool, true, false, if◌then◌else◌, List, [], ◌∷◌, ◌++◌, length, map, take_while, drop, replicate, codes}
use Rattle.std.specs.Str.{bytes_eq}

-- ---- lines of bytes

-- lines without their line feeds, and the bytes behind the last line feed
pub record Split : Type 0 where
  pub lines : List (List ℕ)
  pub rest : List ℕ

abbrev pub with_byte : ℕ → Split → Split
with_byte b s = record { lines = first_line s.lines; rest = if_no_line s.lines }
  where
    first_line : List (List ℕ) → List (List ℕ)
    first_line [] = []
    first_line (l ∷ ls) = (b ∷ l) ∷ ls

    if_no_line : List (List ℕ) → List ℕ
    if_no_line [] = b ∷ s.rest
    if_no_line (l ∷ ls) = s.rest

abbrev pub split_lines : List ℕ → Split
split_lines [] = record { lines = []; rest = [] }
split_lines (b ∷ bs) =
    let s = split_lines bs in
    if b == 10 then record { lines = [] ∷ s.lines; rest = s.rest } else with_byte b s

-- ---- words behind blanks

-- a line without its line feed: its words stand behind so many blanks
pub record Piece : Type 0 where
  pub depth : ℕ
  pub words : List ℕ

abbrev pub indent : List ℕ → ℕ
indent line = length (take_while (λ b. b == 32) line)

abbrev pub piece_of : List ℕ → Piece
piece_of line = record { depth = indent line; words = drop (indent line) line }

-- the line, with its line feed
abbrev pub piece_text : Piece → List ℕ
piece_text p = replicate p.depth 32 ++ p.words ++ codes "\n"

-- the same lines
abbrev pub same_pieces : List Piece → List Piece → Bool
same_pieces [] [] = true
same_pieces [] (q ∷ qs) = false
same_pieces (p ∷ ps) [] = false
same_pieces (p ∷ ps) (q ∷ qs) = p.depth == q.depth && bytes_eq p.words q.words && same_pieces ps qs
