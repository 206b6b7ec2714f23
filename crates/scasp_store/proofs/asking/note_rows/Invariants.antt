use Rattle.std.proofs.Common.{drop}
use Rattle.scasp_hint.specs.AskedRows.{RowsNormal}
use Rattle.scasp_store.proofs.asking.note_rows.Given as goal

abbrev pub invariant-loop-constraint : goal.invariant-loop-constraint
invariant-loop-constraint l = RowsNormal (drop l.constraint-index l.list) → RowsNormal l.list
