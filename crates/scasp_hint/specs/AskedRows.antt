-- What is looked at in a list of constraints: what its terms and its single rows show, and the rows that are asked.
use Rattle.std.specs.Prelude.{Bool, false, ◌||◌, if◌then◌else◌, List, [], ◌∷◌, ◌++◌, Option, None, Some}
use Rattle.std.specs.List.{list_any}
use Rattle.scasp_num.specs.Arithmetic.{◌>>=◌}
use Rattle.scasp_num.specs.Linear.{Linear, IsNormal, negation}
use Rattle.scasp_list.specs.Each.{Each}
use Rattle.scasp_num.specs.SameRow.{same_row}
use Rattle.scasp_rows.specs.Points.{is_false}
use Rattle.scasp_syntax.specs.Values.{Sub}
use Rattle.scasp_unify.specs.Resolver.{resolver}
use Rattle.scasp_unify.specs.TermFailures.{fails_by_terms}
use Rattle.scasp_unify.specs.ResolvedRows.{resolved_row}
use Rattle.scasp_syntax.specs.declared.con.Con.{Con}
use Rattle.scasp_syntax.specs.declared.con.Con.TheVariants as con
use Rattle.scasp_hint.specs.ExactRows.{row_by}
use Rattle.scasp_hint.specs.declared.asked.Asked.{Asked}
use Rattle.scasp_hint.specs.declared.asked.Asked.TheVariants.{ByTerms, Overflows, Asks}
use Rattle.scasp_hint.specs.declared.asked.RowsView.{RowsView}
use Rattle.scasp_hint.specs.declared.asked.RowsView.TheVariants.{FalseRow, LargeRow, AllRows}

-- the rows of the list, as they are given
abbrev pub given_rows : List Con → List Linear
given_rows [] = []
given_rows (con.Row r ∷ cs) = r ∷ given_rows cs
given_rows (con.Eq t u ∷ cs) = given_rows cs
given_rows (con.Neq t u ∷ cs) = given_rows cs
given_rows (con.NotShape x f n ∷ cs) = given_rows cs
given_rows (con.Num t ∷ cs) = given_rows cs
given_rows (con.NotNum t ∷ cs) = given_rows cs

-- every row of a list is in normal form
abbrev pub RowsNormal : List Con → Type 0
RowsNormal cs = Each IsNormal (given_rows cs)

-- the rows that are no disequations
abbrev pub inequalities : List Linear → List Linear
inequalities [] = []
inequalities (r ∷ rs) = row_by r.op r ++ inequalities rs

-- all of them resolved; none at the first that overflows
abbrev pub resolved_each : Sub → List Linear → Option (List Linear)
resolved_each s [] = Some []
resolved_each s (r ∷ rs) = resolved_row s r >>= (λ q. resolved_each s rs >>= (λ qs. Some (q ∷ qs)))

abbrev pub with_row : Linear → RowsView → RowsView
with_row q FalseRow = FalseRow
with_row q LargeRow = LargeRow
with_row q (AllRows qs) = AllRows (q ∷ qs)

abbrev pub row_seen : Option Linear → RowsView → RowsView
row_seen None rest = LargeRow
row_seen (Some q) rest = if is_false q then FalseRow else with_row q rest

-- the resolved rows, up to the first that overflows or is a false constant row
abbrev pub rows_seen : Sub → List Linear → RowsView
rows_seen s [] = AllRows []
rows_seen s (r ∷ rs) = row_seen (resolved_row s r) (rows_seen s rs)

-- the negation of some row stands among the rows too
abbrev pub are_opposite : List Linear → List Linear → Bool
are_opposite rows [] = false
are_opposite rows (q ∷ qs) = list_any (same_row (negation q)) rows || are_opposite rows qs

abbrev pub asked_of : Option (List Linear) → Asked
asked_of None = Overflows
asked_of (Some rows) = Asks rows

abbrev pub asked_by : List Con → RowsView → Asked
asked_by cs FalseRow = ByTerms
asked_by cs LargeRow = Overflows
asked_by cs (AllRows qs) = if are_opposite qs qs then ByTerms else asked_of (resolved_each (resolver cs) (inequalities (given_rows cs)))

-- the list fails by its terms and single rows, a row of it overflows, or its rows that are no disequations are asked
abbrev pub asked : List Con → Asked
asked cs = if fails_by_terms cs then ByTerms else asked_by cs (rows_seen (resolver cs) (given_rows cs))
