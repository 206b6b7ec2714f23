-- The text of a block in which a subtree that repeats is written once.
use Rattle.std.specs.Prelude.{ℕ, zero, suc, ◌+◌, ◌==◌, ◌&&◌, ◌||◌, nat_le, Bool, false, not, if◌then◌else◌, List, [], ◌∷◌, ◌++◌, length, map, take_while, drop, flat_map, Option, None, Some, codes}
use Rattle.std.specs.Str.{bytes_eq}
use Rattle.scasp_copies.specs.Pieces.{Piece, piece_of, piece_text, same_pieces, split_lines}
use Rattle.scasp_copies.specs.Copies.{begins, copy_of, deeper_than, subtree}
use Rattle.scasp_copies.specs.Writing.{copy_line}

-- ---- the least copy

-- whether a copy stands for exactly these lines
abbrev pub are_lines : Option (List Piece) → List Piece → Bool
are_lines None ps = false
are_lines (Some qs) ps = same_pieces qs ps

-- the least of so many numbers from n on at which the test holds
abbrev pub least : (ℕ → Bool) → ℕ → ℕ → Option ℕ
least holds n zero = None
least holds n (suc left) = if holds n then Some n else least holds (n + 1) left

abbrev pub front_depth : List Piece → ℕ
front_depth [] = 0
front_depth (p ∷ ps) = p.depth

-- whether `copy n`, behind `told`, stands for the subtree at the front
abbrev pub is_copy : List Piece → List Piece → ℕ → Bool
is_copy told ps n = are_lines (copy_of n (front_depth ps) told) (subtree ps)

-- the least n such that `copy n` stands for the subtree at the front, where this has at least three lines
abbrev pub least_copy : List Piece → List Piece → Option ℕ
least_copy told ps = if nat_le 3 (length (subtree ps)) then least (is_copy told ps) 1 (length told) else None

-- ---- the numbered lines

-- a line as it is printed: itself, or the copy that stands for its subtree
abbrev pub printed_line : Piece → Option ℕ → Piece
printed_line p None = p
printed_line p (Some n) = copy_line p.depth n

-- how many of the lines behind it a copy stands for
abbrev pub count_below : Piece → List Piece → Option ℕ → ℕ
count_below p ps None = 0
count_below p ps (Some n) = length (deeper_than p.depth ps)

-- The lines as they are printed behind `told`. So many at the front stand below a copy: these are left out.
abbrev pub shared_below : ℕ → List Piece → List Piece → List Piece
shared_below left_out told [] = []
shared_below (suc left_out) told (p ∷ ps) = shared_below left_out (told ++ p ∷ []) ps
shared_below zero told (p ∷ ps) =
    let copy = least_copy told (p ∷ ps) in
    printed_line p copy ∷ shared_below (count_below p ps copy) (told ++ p ∷ []) ps

abbrev pub shared_lines : List Piece → List Piece → List Piece
shared_lines told ps = shared_below 0 told ps

-- ---- blocks

-- the line behind which the numbered lines stand
abbrev pub is_tree : Piece → Bool
is_tree p = p.depth == 0 && bytes_eq p.words (codes "tree")

-- a line that may stand behind the last numbered line
abbrev pub is_behind : Piece → Bool
is_behind p = p.depth == 0 && (begins (codes "clash ") p.words || begins (codes "map ") p.words || bytes_eq p.words (codes "end"))

abbrev pub numbered : List Piece → List Piece
numbered ps = take_while (λ p. not (is_behind p)) ps

abbrev pub shared_block : List Piece → List Piece
shared_block [] = []
shared_block (p ∷ ps) = p ∷ (if is_tree p then shared_lines [] (numbered ps) ++ drop (length (numbered ps)) ps else shared_block ps)

-- the text of a block with its copies
unfoldable pub shared_text : List ℕ → List ℕ
shared_text text = let s = split_lines text in flat_map piece_text (shared_block (map piece_of s.lines)) ++ s.rest
