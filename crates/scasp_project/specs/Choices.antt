-- The choices of a list: each disequation that speaks of a dropped number replaced by one of its parts.
use Rattle.std.specs.Prelude.{ℕ, Bool, false, ◌&&◌, ◌||◌, not, nat_lt, if◌then◌else◌, List, [], ◌∷◌, ◌++◌, length, map, Option, None, Some}
use Rattle.std.specs.List.{list_any, sum_by}
use Rattle.scasp_num.specs.Arithmetic.{◌>>=◌}
use Rattle.scasp_num.specs.Linear.{Linear}
use Rattle.scasp_num.specs.declared.linear.Op.{Op}
use Rattle.scasp_num.specs.declared.linear.Op.TheVariants as op
use Rattle.scasp_syntax.specs.declared.con.Con.{Con}
use Rattle.scasp_syntax.specs.declared.con.Con.TheVariants as con
use Rattle.scasp_unify.specs.Parts.{Part, left_side, right_side}
use Rattle.scasp_unify.specs.SimpleForm.{differ}
use Rattle.scasp_hint.specs.Sides.{above, below}
use Rattle.scasp_hint.specs.Verdicts.{left_above, left_below}
use Rattle.scasp_project.specs.Dropped.{Reading, is_between, is_dropped, is_dropped_number, part_has, parts_in, row_has}

-- ---- the parts of one disequation

-- the left side is below the right one, or above it; none where such a row is too large
abbrev pub part_rows : Part → Option (List Con)
part_rows p = left_below p >>= (λ a. left_above p >>= (λ b. Some (con.Row a ∷ con.Row b ∷ [])))

abbrev pub part_options : (ℕ → Bool) → Part → Option (List Con)
part_options number p = if is_between number p then part_rows p else Some (differ (left_side p) (right_side p) ∷ [])

abbrev pub parts_options : (ℕ → Bool) → List Part → Option (List Con)
parts_options number [] = Some []
parts_options number (p ∷ ps) = part_options number p >>= (λ os. parts_options number ps >>= (λ rest. Some (os ++ rest)))

-- ---- what may stand for a constraint

-- the parts speak of a dropped number
abbrev pub speak_of_dropped : Reading → List Part → Bool
speak_of_dropped s ps = list_any (part_has (is_dropped_number s)) ps

abbrev pub options_by : Reading → Con → Option (List Part) → Option (List Con)
options_by s c None = Some (c ∷ [])
options_by s c (Some ps) = if speak_of_dropped s ps then parts_options s.number ps else Some (c ∷ [])

abbrev pub row_options : List ℕ → Op → Linear → List Con
row_options keep op.Eq r = con.Row r ∷ []
row_options keep op.Lt r = con.Row r ∷ []
row_options keep op.Le r = con.Row r ∷ []
row_options keep op.Ne r = if row_has (is_dropped keep) r then con.Row (below r) ∷ con.Row (above r) ∷ [] else con.Row r ∷ []

abbrev pub options : Reading → Con → Option (List Con)
options s (con.Eq t u) = Some (con.Eq t u ∷ [])
options s (con.Neq t u) = options_by s (con.Neq t u) (parts_in s t u)
options s (con.NotShape x f n) = Some (con.NotShape x f n ∷ [])
options s (con.Num t) = Some (con.Num t ∷ [])
options s (con.NotNum t) = Some (con.NotNum t ∷ [])
options s (con.Row r) = Some (row_options s.keep r.op r)

-- ---- the choices

-- each of the lists with each of the options behind it
abbrev pub crossed : List (List Con) → List Con → List (List Con)
crossed [] os = []
crossed (ds ∷ lists) os = map (λ o. ds ++ o ∷ []) os ++ crossed lists os

-- the lists, each with one option for each of these constraints behind it
abbrev pub chosen : Reading → List (List Con) → List Con → Option (List (List Con))
chosen s lists [] = Some lists
chosen s lists (d ∷ ds) = options s d >>= (λ os. chosen s (crossed lists os) ds)

abbrev pub choices : Reading → List Con → Option (List (List Con))
choices s cs = chosen s ([] ∷ []) cs

-- ---- too many

abbrev pub count_by : Reading → Option (List Part) → ℕ
count_by s None = 0
count_by s (Some ps) = if speak_of_dropped s ps then length ps else 0

abbrev pub row_count : List ℕ → Op → Linear → ℕ
row_count keep op.Eq r = 0
row_count keep op.Lt r = 0
row_count keep op.Le r = 0
row_count keep op.Ne r = if row_has (is_dropped keep) r then 1 else 0

-- the number of parts to choose from
abbrev pub part_count : Reading → Con → ℕ
part_count s (con.Eq t u) = 0
part_count s (con.Neq t u) = count_by s (parts_in s t u)
part_count s (con.NotShape x f n) = 0
part_count s (con.Num t) = 0
part_count s (con.NotNum t) = 0
part_count s (con.Row r) = row_count s.keep r.op r

-- the part speaks of a dropped number and is not between numbers
abbrev pub is_mixed : Reading → Part → Bool
is_mixed s p = part_has (is_dropped_number s) p && not (is_between s.number p)

abbrev pub mixed_by : Reading → Option (List Part) → Bool
mixed_by s None = false
mixed_by s (Some ps) = list_any (is_mixed s) ps

abbrev pub has_mixed : Reading → Con → Bool
has_mixed s (con.Eq t u) = false
has_mixed s (con.Neq t u) = mixed_by s (parts_in s t u)
has_mixed s (con.NotShape x f n) = false
has_mixed s (con.Num t) = false
has_mixed s (con.NotNum t) = false
has_mixed s (con.Row r) = false

-- more than six parts to choose from, or a part of which rows cannot speak
abbrev pub are_too_many : Reading → List Con → Bool
are_too_many s cs = list_any (has_mixed s) cs || nat_lt 6 (sum_by (part_count s) cs)
