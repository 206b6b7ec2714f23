-- The elimination of the variables of rows that are dropped.
use Rattle.std.specs.Prelude.{ℕ, List, [], filter, Result}
use Rattle.scasp_num.specs.Linear.{Linear}
use Rattle.scasp_rows.specs.declared.state.Halt.{Halt}
use Rattle.scasp_rows.specs.declared.state.State.{State}
use Rattle.scasp_rows.specs.Elimination.{variables}
use Rattle.scasp_rows.specs.LeftRows.{elimination_of}
use Rattle.scasp_project.specs.Dropped.{is_dropped}

-- the dropped variables of the rows, ascending
abbrev pub dropped_variables : List ℕ → List Linear → List ℕ
dropped_variables keep rows = filter (is_dropped keep) (variables [] rows)

abbrev pub elimination_dropping : List ℕ → List Linear → Result State Halt
elimination_dropping keep rows = elimination_of (dropped_variables keep rows) rows
