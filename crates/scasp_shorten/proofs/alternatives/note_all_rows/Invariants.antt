use Rattle.std.proofs.Common.{drop}
use Rattle.scasp_hint.specs.AskedRows.{RowsNormal}
use Rattle.scasp_list.specs.Each.{Each}
use Rattle.scasp_shorten.proofs.alternatives.note_all_rows.Given as goal

abbrev pub invariant-loop-list : goal.invariant-loop-list
invariant-loop-list l = Each RowsNormal (drop l.list-index l.lists) → Each RowsNormal l.lists
