-- What a line `copy N` stands for: the subtree of line N, moved to where the line stands.
use Rattle.std.specs.Prelude.{ℕ, zero, suc, ◌+◌, ◌-◌, ◌==◌, ◌&&◌, ◌||◌, nat_le, nat_lt, Bool, true, false, if◌then◌else◌, List, [], ◌∷◌, ◌++◌, length, map, reverse, take, drop, take_while, Option, None, Some, codes, decimal}
use Rattle.scasp_reader_tokens.specs.Numbers.{digits_value}
use Rattle.scasp_copies.specs.Pieces.{Piece}

-- ---- subtrees

-- the lines at the front that are deeper
abbrev pub deeper_than : ℕ → List Piece → List Piece
deeper_than depth ps = take_while (λ p. nat_lt depth p.depth) ps

-- the line at the front and what is below it
abbrev pub subtree : List Piece → List Piece
subtree [] = []
subtree (p ∷ ps) = p ∷ deeper_than p.depth ps

-- whether the text begins with the first
abbrev pub begins : List ℕ → List ℕ → Bool
begins [] text = true
begins (f ∷ fs) [] = false
begins (f ∷ fs) (b ∷ bs) = f == b && begins fs bs

-- a call that rules or cases explain
abbrev pub is_call : Piece → Bool
is_call p = begins (codes "pos ") p.words || begins (codes "neg ") p.words

-- The subtree at the front has ended where the next line is as deep as `depth`: a line of these is behind the subtree,
-- or the next line is not below it.
abbrev pub has_ended : ℕ → List Piece → Bool
has_ended depth [] = false
has_ended depth (p ∷ ps) = nat_lt (length (subtree (p ∷ ps))) (length (p ∷ ps)) || nat_le depth p.depth

-- ---- moving a subtree

-- the lines from number `from` on, so many, stand at number `to` and behind it
pub record Move : Type 0 where
  pub from : ℕ
  pub count : ℕ
  pub to : ℕ

abbrev pub is_inside : Move → ℕ → Bool
is_inside m k = nat_le m.from k && nat_lt k (m.from + m.count)

-- the number of a line inside moves with the subtree; a number outside stays
abbrev pub moved_number : Move → ℕ → ℕ
moved_number m k = if is_inside m k then m.to + (k - m.from) else k

abbrev pub is_digit : ℕ → Bool
is_digit b = nat_le 48 b && nat_le b 57

-- the digits at the end
abbrev pub last_digits : List ℕ → List ℕ
last_digits words = reverse (take_while is_digit (reverse words))

abbrev pub last_number : List ℕ → ℕ
last_number words = digits_value 0 (last_digits words)

-- the words before the digits at the end
abbrev pub before_digits : List ℕ → List ℕ
before_digits words = take (length words - length (last_digits words)) words

-- words with a line number at their end
abbrev pub names_line : List ℕ → Bool
names_line words = begins (codes "loop ") words || begins (codes "seen ") words

-- words that name no line inside stay as they are
abbrev pub moved_words : Move → List ℕ → List ℕ
moved_words m words =
    if names_line words && is_inside m (last_number words) then before_digits words ++ decimal (moved_number m (last_number words)) else words

-- the line as deep as it stands below the copy's first line, which was at `top` and is at `depth`
abbrev pub moved_piece : Move → ℕ → ℕ → Piece → Piece
moved_piece m top depth p = record { depth = depth + (p.depth - top); words = moved_words m p.words }

-- ---- copies

abbrev pub copied : ℕ → ℕ → ℕ → List Piece → Option (List Piece)
copied n depth to [] = None
copied n depth to (p ∷ ps) =
    if is_call p && has_ended depth (p ∷ ps) then
    (let sub = subtree (p ∷ ps) in
    Some (map (moved_piece (record { from = n; count = length sub; to = to }) p.depth depth) sub))
    else None

-- What `copy n` stands for as deep as `depth`, behind the numbered lines `told` of its block, the first of which has number 1:
-- the subtree of line n, if this is a call whose subtree has ended.
abbrev pub copy_of : ℕ → ℕ → List Piece → Option (List Piece)
copy_of zero depth told = None
copy_of (suc n) depth told = copied (suc n) depth (length told + 1) (drop n told)
