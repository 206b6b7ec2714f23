use Rattle.std.proofs.Common.{◌≡◌, ◌++◌, List, drop}
use Rattle.scasp_num.specs.Linear.{Linear}
use Rattle.scasp_unify.specs.Solving.{sub_of}
use Rattle.scasp_hint.specs.AskedRows.{given_rows, rows_seen}
use Rattle.scasp_hint.specs.declared.asked.RowsView.{RowsView}
use Rattle.scasp_hint.specs.declared.asked.RowsView.TheVariants.{FalseRow, LargeRow, AllRows}
use Rattle.scasp_hint.proofs.asked.rows_seen.Given as goal

-- what is seen of rows behind others
abbrev pub seen_behind : List Linear → RowsView → RowsView
seen_behind ps FalseRow = FalseRow
seen_behind ps LargeRow = LargeRow
seen_behind ps (AllRows qs) = AllRows (ps ++ qs)

abbrev pub invariant-loop-constraint : goal.invariant-loop-constraint
invariant-loop-constraint l = seen_behind l.rows (rows_seen (sub_of l.bindings) (given_rows (drop l.constraint-index l.constraints))) ≡ rows_seen (sub_of l.bindings) (given_rows l.constraints)
