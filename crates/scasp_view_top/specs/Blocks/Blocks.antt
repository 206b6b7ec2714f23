-- How blocks are shown: each below its verdict and its query; all of them, or each answer once.
use Rattle.std.specs.Prelude.{ℕ, ◌+◌, Bool, if◌then◌else◌, List, [], ◌∷◌, ◌++◌, flat_map, codes, decimal}
use Rattle.std.specs.List.{list_all, list_any}
use Rattle.std.specs.Str.{bytes_eq}
use Rattle.scasp_view_top.specs.Blocks.Judgements.{Judgement, given_text, key_of}
use Rattle.scasp_view_top.specs.Trees.Settings.{Setting}
use Rattle.scasp_view_top.specs.Trees.Trees.{trees_text}

-- what stands above the trees
abbrev pub head_text : Setting → Judgement → List ℕ
head_text s j = j.verdict ++ j.query ++ given_text s.names j.certificate

-- a block, and an empty line behind it
unfoldable pub block_text : Setting → Bool → Judgement → List ℕ
block_text s checks j = trees_text s checks (head_text s j) j.certificate ++ codes "\n"

-- ---- each answer once, where these keys were seen before

abbrev pub is_seen : List (List ℕ) → List (List ℕ) → Judgement → Bool
is_seen names seen j = list_any (bytes_eq (key_of names j)) seen

abbrev pub seen_behind : List (List ℕ) → List (List ℕ) → Judgement → List (List ℕ)
seen_behind names seen j = if is_seen names seen j then seen else seen ++ key_of names j ∷ []

abbrev pub fresh_text : Setting → Bool → List (List ℕ) → Judgement → List ℕ
fresh_text s checks seen j = if is_seen s.names seen j then [] else block_text s checks j

abbrev pub shown_text : Setting → Bool → List (List ℕ) → List Judgement → List ℕ
shown_text s checks seen [] = []
shown_text s checks seen (j ∷ js) = fresh_text s checks seen j ++ shown_text s checks (seen_behind s.names seen j) js

abbrev pub repeats : List (List ℕ) → List (List ℕ) → Judgement → ℕ
repeats names seen j = if is_seen names seen j then 1 else 0

-- how many are left out
abbrev pub repeated : List (List ℕ) → List (List ℕ) → List Judgement → ℕ
repeated names seen [] = 0
repeated names seen (j ∷ js) = repeats names seen j + repeated names (seen_behind names seen j) js

-- `left out 223`
unfoldable pub left_out_line : ℕ → List ℕ
left_out_line n = codes "left out " ++ decimal n ++ codes "\n"

abbrev pub once_text : Setting → Bool → List Judgement → List ℕ
once_text s checks js = shown_text s checks [] js ++ left_out_line (repeated s.names [] js)

-- ---- blocks

-- all of them, or each answer once
abbrev pub blocks_text : Setting → Bool → Bool → List Judgement → List ℕ
blocks_text s checks once js = if once then once_text s checks js else flat_map (block_text s checks) js

abbrev pub are_accepted : List Judgement → Bool
are_accepted js = list_all (λ (j : Judgement). j.accepted) js
