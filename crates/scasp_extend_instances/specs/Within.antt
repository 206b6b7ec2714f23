-- The instances of what opened, where rows are tested within the range of the numbers.
use Rattle.std.specs.Prelude.{ℕ, suc, Bool, true, false, ◌||◌, not, is_some, if◌then◌else◌, List, [], ◌∷◌, map, Option, None, Some}
use Rattle.std.specs.List.{flat_map, list_any}
use Rattle.scasp_ground.specs.Bounded.{tested}
use Rattle.scasp_lines.specs.Opened.{Opened, ranges, shaped, assumed}
use Rattle.scasp_lines.specs.Ways.{set_to, shape_step}
use Rattle.scasp_syntax.specs.Tm.{Tm}
use Rattle.scasp_syntax.specs.Values.{Sub}

-- how many clause variables are among what opened
abbrev pub ranging : List Opened → ℕ
ranging [] = 0
ranging (ranges x ∷ os) = suc (ranging os)
ranging (shaped x f k n ∷ os) = ranging os
ranging (assumed c ∷ os) = ranging os

-- a test that was made, and holds
abbrev pub passes : Option Bool → Bool
passes None = false
passes (Some b) = b

-- the values that an entry makes of some values
abbrev pub step_within : List Tm → Opened → Sub → List Sub
step_within d (ranges x) v = map (set_to v x) d
step_within d (shaped x f k n) v = shape_step f k n v (v x)
step_within d (assumed c) v = if passes (tested v c) then v ∷ [] else []

-- the values that what opened makes of some values
abbrev pub ways_within : List Tm → List Opened → Sub → List Sub
ways_within d [] v = v ∷ []
ways_within d (o ∷ os) v = flat_map (step_within d o) (ways_within d os v)

-- the entry is a row whose sum at these values overflows
abbrev pub entry_overflows : Opened → Sub → Bool
entry_overflows (ranges x) v = false
entry_overflows (shaped x f k n) v = false
entry_overflows (assumed c) v = not (is_some (tested v c))

-- some row overflows at an instance of what opened before it
abbrev pub overflows : List Tm → List Opened → Sub → Bool
overflows d [] v = false
overflows d (o ∷ os) v = overflows d os v || list_any (entry_overflows o) (ways_within d os v)
