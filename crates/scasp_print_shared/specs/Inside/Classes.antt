-- Classes of subtrees: places of keys in a table, a subtree's key being the words of its first line without a line number, and
-- the classes of the subtrees right below it.
use Rattle.std.specs.Prelude.{◌≡◌, ℕ, ◌+◌, ◌<◌, nat_lt, true, if◌then◌else◌, List, [], ◌∷◌, ◌++◌, length, take, drop, slice_index_or}
use Rattle.std.specs.List.{position_or_len}
use Rattle.std.specs.Str.{bytes_eq}
use Rattle.scasp_copies.specs.Copies.{before_digits, names_line, subtree}
use Rattle.scasp_copies.specs.Pieces.{Piece}
use Rattle.scasp_name.specs.Texts.{has_text}
use Rattle.scasp_print_shared.specs.Shared.{is_copy}
use Rattle.scasp_print_shared.specs.Inside.Keys.{numbers}
use Rattle.scasp_print_shared.specs.declared.classes.Root.{Root}

-- the words without a line number at their end
abbrev pub stem : List ℕ → List ℕ
stem words = if names_line words then before_digits words else words

-- of subtrees side by side, those at the front that are deeper, and the others
abbrev pub below : ℕ → List Root → List Root
below depth [] = []
below depth (r ∷ rs) = if nat_lt depth r.depth then r ∷ below depth rs else []

abbrev pub beside : ℕ → List Root → List Root
beside depth [] = []
beside depth (r ∷ rs) = if nat_lt depth r.depth then beside depth rs else r ∷ rs

-- the number of their lines
abbrev pub count_of : List Root → ℕ
count_of [] = 0
count_of (r ∷ rs) = r.count + count_of rs

abbrev pub classes_of : List Root → List ℕ
classes_of [] = []
classes_of (r ∷ rs) = r.class ∷ classes_of rs

abbrev pub key_of : List ℕ → List Root → List ℕ
key_of words rs = numbers (stem words) (classes_of rs)

-- the place of the key; the length of the table, where it lacks the key
abbrev pub place_in : List (List ℕ) → List ℕ → ℕ
place_in table key = position_or_len (bytes_eq key) table

-- the subtree of a line before these
abbrev pub root_of : List (List ℕ) → Piece → List Root → Root
root_of table p rs = record {
  depth = p.depth;
  count = 1 + count_of (below p.depth rs);
  class = place_in table (key_of p.words (below p.depth rs));
}

-- the subtrees that stand side by side
abbrev pub roots : List (List ℕ) → List Piece → List Root
roots table [] = []
roots table (p ∷ ps) = root_of table p (roots table ps) ∷ beside p.depth (roots table ps)

-- the subtree of each line
abbrev pub marks : List (List ℕ) → List Piece → List Root
marks table [] = []
marks table (p ∷ ps) = root_of table p (roots table ps) ∷ marks table ps

-- the table has all their keys
abbrev pub AreFound : List (List ℕ) → List Piece → Type 0
AreFound table [] = Unit {0}
AreFound table (p ∷ ps) = (has_text table (key_of p.words (below p.depth (roots table ps))) ≡ true) × AreFound table ps

-- The number of lines of each subtree, and classes: a subtree and one that copies to it have the same.
pub record AreMarks (ps : List Piece) (ms : List Root) : Type 0 where
  pub size : length ms ≡ length ps
  pub counts : (k : ℕ) (d : Root) → k < length ps → (slice_index_or ms k d).count ≡ length (subtree (drop k ps))
  pub classes : (j k : ℕ) (d : Root) → j < k → k < length ps → is_copy (take k ps) (drop k ps) (j + 1) ≡ true
      → (slice_index_or ms j d).class ≡ (slice_index_or ms k d).class
