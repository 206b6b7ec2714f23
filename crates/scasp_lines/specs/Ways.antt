-- The instances of what opened, as a list.
use Rattle.std.specs.Prelude.{ℕ, suc, ◌&&◌, nat_eq, List, [], ◌∷◌, map, if◌then◌else◌, length}
use Rattle.std.specs.List.{flat_map}
use Rattle.scasp_syntax.specs.Constraints.{holds}
use Rattle.scasp_syntax.specs.Tm.{Tm, Tms, var, app, nil, cons, num, items}
use Rattle.scasp_syntax.specs.Values.{Sub}
use Rattle.scasp_lines.specs.Opened.{Opened, ranges, shaped, assumed}

-- the values with t for x
abbrev pub set_to : Sub → ℕ → Tm → Sub
set_to v x t y = if nat_eq y x then t else v y

-- the values with these terms for the variables from k on
abbrev pub set_all : Sub → ℕ → Tms → Sub
set_all v k nil = v
set_all v k (cons t ts) = set_to (set_all v (suc k) ts) k t

-- where the value is f with n arguments, these are what the variables from k on stand for
abbrev pub shape_step : ℕ → ℕ → ℕ → Sub → Tm → List Sub
shape_step f k n v (var x) = []
shape_step f k n v (num q) = []
shape_step f k n v (app g ts) = if nat_eq g f && nat_eq (length (items ts)) n then set_all v k ts ∷ [] else []

-- the values that an entry makes of some values
abbrev pub step : List Tm → Opened → Sub → List Sub
step d (ranges x) v = map (set_to v x) d
step d (shaped x f k n) v = shape_step f k n v (v x)
step d (assumed c) v = if holds v c then v ∷ [] else []

-- the values that what opened makes of some values
abbrev pub ways : List Tm → List Opened → Sub → List Sub
ways d [] v = v ∷ []
ways d (o ∷ os) v = flat_map (step d o) (ways d os v)
