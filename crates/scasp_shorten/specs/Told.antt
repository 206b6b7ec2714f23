-- What a list of constraints tells its reader: as the constraints hold, and rows of numbers alone.
use Rattle.std.specs.Prelude.{Bool, true, ◌&&◌, List}
use Rattle.std.specs.List.{list_all, list_any}
use Rattle.scasp_syntax.specs.Constraints.{holds, is_number}
use Rattle.scasp_syntax.specs.RowTruth.{row_holds}
use Rattle.scasp_syntax.specs.Values.{Sub}
use Rattle.scasp_shorten.specs.Following.{is_test_of}
use Rattle.scasp_syntax.specs.declared.con.Con.{Con}
use Rattle.scasp_syntax.specs.declared.con.Con.TheVariants as con

-- the constraint is true as it is told: a row says of its variables that they are numbers
abbrev pub tells : Sub → Con → Bool
tells v (con.Row r) = list_all (λ k. is_number (v k.x)) r.coeffs && row_holds v r
tells v (con.Eq t u) = holds v (con.Eq t u)
tells v (con.Neq t u) = holds v (con.Neq t u)
tells v (con.NotShape x f n) = holds v (con.NotShape x f n)
tells v (con.Num t) = holds v (con.Num t)
tells v (con.NotNum t) = holds v (con.NotNum t)

-- each variable of the constraint, if it is a row, has a number test in the list
abbrev pub is_tested : List Con → Con → Bool
is_tested cs (con.Row r) = list_all (λ k. list_any (is_test_of k.x) cs) r.coeffs
is_tested cs (con.Eq t u) = true
is_tested cs (con.Neq t u) = true
is_tested cs (con.NotShape x f n) = true
is_tested cs (con.Num t) = true
is_tested cs (con.NotNum t) = true

abbrev pub are_rows_tested : List Con → Bool
are_rows_tested cs = list_all (is_tested cs) cs

-- all of the list is true as it is told
abbrev pub tells_all : Sub → List Con → Bool
tells_all v cs = list_all (tells v) cs

-- so is one of the lists
abbrev pub tells_one : Sub → List (List Con) → Bool
tells_one v lists = list_any (tells_all v) lists
