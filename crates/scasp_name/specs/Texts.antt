-- Tables of texts: lists of texts, each text a list of bytes.
use Rattle.std.specs.Prelude.{◌≡◌, ℕ, Bool, false, List, [], ◌∷◌, ◌++◌, Some, slice_get, codes, if◌then◌else◌}
use Rattle.std.specs.List.{list_any}
use Rattle.std.specs.Str.{bytes_eq}

-- whether the text stands in the table
abbrev pub has_text : List (List ℕ) → List ℕ → Bool
has_text texts text = list_any (bytes_eq text) texts

-- the table with the text: a new text goes last
abbrev pub with_text : List (List ℕ) → List ℕ → List (List ℕ)
with_text texts text = if has_text texts text then texts else texts ++ text ∷ []

-- no text stands twice
abbrev pub AreDistinct : List (List ℕ) → Type 0
AreDistinct [] = Unit {0}
AreDistinct (text ∷ texts) = (has_text texts text ≡ false) × AreDistinct texts

-- the two names of lists, with which each table begins
abbrev pub list_names : List (List ℕ)
list_names = codes "[]" ∷ codes "[|]" ∷ []

pub record BeginWithLists (texts : List (List ℕ)) : Type 0 where
  pub nil : slice_get texts 0 ≡ Some (codes "[]")
  pub pair : slice_get texts 1 ≡ Some (codes "[|]")
