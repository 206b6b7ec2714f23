use Rattle.std.proofs.Common.{◌≡◌, drop, ◌++◌}
use Rattle.scasp_rows.specs.Inside.Asides.{rows_having}
use Rattle.scasp_rows.proofs.backward.rows_having.Given as goal

abbrev pub invariant-loop-r : goal.invariant-loop-r
invariant-loop-r l = l.kept ++ rows_having l.x (drop l.r-index l.rows) ≡ rows_having l.x l.rows
