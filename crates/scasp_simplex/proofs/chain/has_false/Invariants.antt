use Rattle.std.proofs.Common.{◌≡◌, drop}
use Rattle.std.specs.List.{list_any}
use Rattle.scasp_rows.specs.Points.{is_false}
use Rattle.scasp_simplex.proofs.chain.has_false.Given as goal

abbrev pub invariant-loop-row : goal.invariant-loop-row
invariant-loop-row l = list_any is_false (drop l.row-index l.rows) ≡ list_any is_false l.rows
