-- What it means that each answer is shown once.
use Rattle.std.specs.Prelude.{◌≡◌, ℕ, ◌+◌, Bool, true, if◌then◌else◌, List, [], ◌∷◌, ◌++◌, length, map, flat_map}
use Rattle.std.specs.List.{list_any}
use Rattle.std.specs.Str.{bytes_eq}
use Rattle.scasp_list.specs.Each.{Each}
use Rattle.scasp_view_top.specs.Blocks.Blocks.{block_text, is_seen, repeated, shown_text}
use Rattle.scasp_view_top.specs.Blocks.Judgements.{Judgement, key_of}
use Rattle.scasp_view_top.specs.Trees.Settings.{Setting}

-- the first block of each key that is none of those seen
abbrev pub fresh : List (List ℕ) → List (List ℕ) → List Judgement → List Judgement
fresh names seen [] = []
fresh names seen (j ∷ js) = if is_seen names seen j then fresh names seen js else j ∷ fresh names (seen ++ key_of names j ∷ []) js

-- these are shown
abbrev pub ShowsTheFirst : Type 0
ShowsTheFirst = (s : Setting) (checks : Bool) (js : List Judgement) → shown_text s checks [] js ≡ flat_map (block_text s checks) (fresh s.names [] js)

-- the others are counted
abbrev pub CountsTheOthers : Type 0
CountsTheOthers = (names : List (List ℕ)) (js : List Judgement) → length (fresh names [] js) + repeated names [] js ≡ length js

-- one of these keys is that of the block
abbrev pub HasKey : List (List ℕ) → List (List ℕ) → Judgement → Type 0
HasKey names keys j = list_any (bytes_eq (key_of names j)) keys ≡ true

-- each block, also one that is left out, has the key of one that is shown
abbrev pub LeftOutIsShown : Type 0
LeftOutIsShown = (names : List (List ℕ)) (js : List Judgement) → Each (HasKey names (map (key_of names) (fresh names [] js))) js
