-- Small blocks with their copies, computed.
use Rattle.std.specs.Prelude.{◌≡◌, ℕ, ◌+◌, List, [], ◌∷◌, ◌++◌, codes}
use Rattle.std.specs.Fmt.{digits}
use Rattle.std.proofs.Common.{refl}
use Rattle.scasp_copies.specs.Pieces.{Piece}
use Rattle.scasp_print_shared.specs.Shared.{shared_block, shared_lines, shared_text}

abbrev line : ℕ → List ℕ → Piece
line depth words = record { depth = depth; words = words }

-- a call p, below it q, and below this a line of these words
abbrev chain : ℕ → List ℕ → List Piece
chain depth last = line depth (codes "pos p") ∷ line (depth + 1) (codes "pos q") ∷ line (depth + 2) last ∷ []

-- the lines of a subtree that repeats are written once
repeated : shared_lines [] (chain 1 (codes "pos r") ++ chain 1 (codes "pos r")) ≡ chain 1 (codes "pos r") ++ line 1 (codes "copy 1") ∷ []
unfolding digits
repeated = refl

-- also where it is deeper, and more than once; the copy names the first
deeper : shared_lines [] (chain 1 (codes "pos r") ++ line 1 (codes "pos s") ∷ chain 2 (codes "pos r") ++ chain 1 (codes "pos r"))
    ≡ chain 1 (codes "pos r") ++ line 1 (codes "pos s") ∷ line 2 (codes "copy 1") ∷ line 1 (codes "copy 1") ∷ []
unfolding digits
deeper = refl

-- two lines are written out
short : shared_lines [] (line 1 (codes "pos p") ∷ line 2 (codes "pos q") ∷ line 1 (codes "pos p") ∷ line 2 (codes "pos q") ∷ [])
    ≡ line 1 (codes "pos p") ∷ line 2 (codes "pos q") ∷ line 1 (codes "pos p") ∷ line 2 (codes "pos q") ∷ []
short = refl

-- the number of a line inside moves with the subtree
inside : shared_lines [] (chain 1 (codes "loop p at 1") ++ chain 1 (codes "loop p at 4")) ≡ chain 1 (codes "loop p at 1") ++ line 1 (codes "copy 1") ∷ []
unfolding digits
inside = refl

-- so the same number names another line
not_inside : shared_lines [] (chain 1 (codes "loop p at 1") ++ chain 1 (codes "loop p at 1")) ≡ chain 1 (codes "loop p at 1") ++ chain 1 (codes "loop p at 1")
unfolding digits
not_inside = refl

-- the number of a line outside stays
outside : shared_lines [] (line 1 (codes "pos o") ∷ chain 2 (codes "loop o at 1") ++ chain 2 (codes "loop o at 1"))
    ≡ line 1 (codes "pos o") ∷ chain 2 (codes "loop o at 1") ++ line 2 (codes "copy 2") ∷ []
unfolding digits
outside = refl

-- the subtree of a line that is no call is written out
no_call : shared_lines [] (line 1 (codes "leaf 1") ∷ line 2 (codes "pos q") ∷ line 2 (codes "pos r") ∷ line 1 (codes "leaf 1") ∷ line 2 (codes "pos q") ∷ line 2 (codes "pos r") ∷ [])
    ≡ line 1 (codes "leaf 1") ∷ line 2 (codes "pos q") ∷ line 2 (codes "pos r") ∷ line 1 (codes "leaf 1") ∷ line 2 (codes "pos q") ∷ line 2 (codes "pos r") ∷ []
no_call = refl

-- lines up to `tree`, and from `end` on, stay
block : shared_block (line 0 (codes "answer 1.1 []") ∷ line 0 (codes "tree") ∷ chain 1 (codes "pos r") ++ chain 1 (codes "pos r") ++ line 0 (codes "end") ∷ [])
    ≡ line 0 (codes "answer 1.1 []") ∷ line 0 (codes "tree") ∷ chain 1 (codes "pos r") ++ line 1 (codes "copy 1") ∷ line 0 (codes "end") ∷ []
unfolding digits
block = refl

-- the text of such a block
text : shared_text (codes "tree\n pos p\n  pos q\n   pos r\n pos p\n  pos q\n   pos r\nend\n") ≡ codes "tree\n pos p\n  pos q\n   pos r\n copy 1\nend\n"
unfolding shared_text digits
text = refl
