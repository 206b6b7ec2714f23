-- The projection of a list of constraints on the variables that are kept.
use Rattle.std.specs.Prelude.{◌≡◌, ℕ, Bool, true, not, if◌then◌else◌, List, [], ◌∷◌, ◌++◌, map, filter, option_to_list, Option, None, Some, Result, Ok, Err, ⊤}
use Rattle.std.specs.List.{list_any}
use Rattle.scasp_num.specs.Arithmetic.{◌>>=◌}
use Rattle.scasp_num.specs.Linear.{Linear}
use Rattle.scasp_num.specs.SameRow.{same_row}
use Rattle.scasp_rows.specs.LeftRows.{rows_left}
use Rattle.scasp_rows.specs.declared.verdict.LinErr.{LinErr}
use Rattle.scasp_rows.specs.declared.verdict.LinErr.TheVariants as err
use Rattle.scasp_syntax.specs.declared.con.Con.{Con}
use Rattle.scasp_syntax.specs.declared.con.Con.TheVariants as con
use Rattle.scasp_hint.specs.AskedRows.{given_rows, inequalities}
use Rattle.scasp_hint.specs.Finding.{Found, found, hint, nothing, unknown_list}
use Rattle.scasp_project.specs.Choices.{are_too_many, choices}
use Rattle.scasp_project.specs.LeftRows.{elimination_dropping}
use Rattle.scasp_project.specs.Dropped.{Reading, con_has, is_dropped, reading_of, row_has}
use Rattle.scasp_project.specs.declared.projecting.Projected.{Projected}
use Rattle.scasp_project.specs.declared.projecting.Projected.TheVariants as projected

-- ---- one choice

-- it is no row with a dropped variable
abbrev pub stays : List ℕ → Con → Bool
stays keep (con.Row r) = not (row_has (is_dropped keep) r)
stays keep (con.Eq t u) = true
stays keep (con.Neq t u) = true
stays keep (con.NotShape x f n) = true
stays keep (con.Num t) = true
stays keep (con.NotNum t) = true

abbrev pub is_new : List Con → Linear → Bool
is_new ds r = not (list_any (same_row r) (given_rows ds))

-- a choice without its rows that have dropped variables, and behind it the rows that are left and were not given
abbrev pub remaining : List ℕ → List Con → List Linear → List Con
remaining keep ds rows = filter (stays keep) ds ++ map con.Row (filter (is_new ds) rows)

-- what speaks of kept variables alone
abbrev pub kept : Reading → List Con → List Con
kept s ds = filter (λ c. not (con_has s (is_dropped s.keep) c)) ds

-- what is kept of a list that passes the test; nothing of one that fails it
abbrev pub found_kept : Reading → List Con → Found → Option (Option (List Con))
found_kept s ds nothing = Some (Some (kept s ds))
found_kept s ds (hint h) = Some None
found_kept s ds unknown_list = None

abbrev pub asked_kept : Reading → List Con → Option (Option (List Con))
asked_kept s ds = found_kept s ds (found ds)

abbrev pub left_kept : Reading → List Con → Result (Option (List Linear)) LinErr → Option (Option (List Con))
left_kept s ds (Ok (Some rows)) = asked_kept s (remaining s.keep ds rows)
left_kept s ds (Ok None) = Some None
left_kept s ds (Err err.Overflow) = None
left_kept s ds (Err err.Memory) = None

-- the list that a choice leaves of kept variables, if it may have a valuation; none where the elimination or what is asked overflows
abbrev pub choice_kept : Reading → List Con → Option (Option (List Con))
choice_kept s ds = left_kept s ds (rows_left (elimination_dropping s.keep (inequalities (given_rows ds))))

-- ---- all choices

abbrev pub all_kept : Reading → List (List Con) → Option (List (List Con))
all_kept s [] = Some []
all_kept s (ds ∷ rest) = choice_kept s ds >>= (λ here. all_kept s rest >>= (λ later. Some (option_to_list here ++ later)))

abbrev pub alternatives : Reading → List Con → Option (List (List Con))
alternatives s cs = choices s cs >>= all_kept s

abbrev pub projected_by : Reading → List Con → Option Projected
projected_by s cs = if are_too_many s cs then Some projected.TooMany else (alternatives s cs >>= (λ lists. Some (projected.Alternatives lists)))

-- what a list projects to; none where that overflows
abbrev pub projection : List Con → List ℕ → Option Projected
projection cs keep = projected_by (reading_of cs keep) cs

-- the call answers so, where there is memory
abbrev pub Projects : Result Projected LinErr → Option Projected → Type 0
Projects (Ok p) o = o ≡ Some p
Projects (Err err.Overflow) o = o ≡ None
Projects (Err err.Memory) o = ⊤
