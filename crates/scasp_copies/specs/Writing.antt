-- The lines of a block with its copies written out.
use Rattle.std.specs.Prelude.{ℕ, ◌+◌, List, [], ◌∷◌, ◌++◌, drop, Option, None, Some, Bool, true, false, codes, decimal, if◌then◌else◌}
use Rattle.std.specs.Option.{option_map}
use Rattle.scasp_copies.specs.Copies.{begins, copy_of, last_number}
use Rattle.scasp_copies.specs.Pieces.{Piece}

-- the line `copy N`
abbrev pub copy_line : ℕ → ℕ → Piece
copy_line depth n = record { depth = depth; words = codes "copy " ++ decimal n }

abbrev pub is_copy_line : Piece → Bool
is_copy_line p = begins (codes "copy ") p.words

-- what the line stands for behind the numbered lines `told`: itself, where it is no copy
abbrev pub stands_for : List Piece → Piece → Option (List Piece)
stands_for told p = if is_copy_line p then copy_of (last_number p.words) p.depth told else Some (p ∷ [])

-- the lines behind `told`, and what is left of them once these are written out
abbrev pub written_behind : Option (List Piece) → (List Piece → Option (List Piece)) → Option (List Piece)
written_behind None rest = None
written_behind (Some ps) rest = option_map (λ qs. ps ++ qs) (rest ps)

-- these lines, behind the numbered lines `told`, with each copy written out; none where a copy stands for nothing
abbrev pub written_out : List Piece → List Piece → Option (List Piece)
written_out told [] = Some []
written_out told (p ∷ ps) = written_behind (stands_for told p) (λ qs. written_out (told ++ qs) ps)
