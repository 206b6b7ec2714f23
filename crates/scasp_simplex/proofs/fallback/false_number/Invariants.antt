use Rattle.std.proofs.Common.{◌≡◌, drop}
use Rattle.std.specs.List.{list_any}
use Rattle.scasp_rows.specs.Points.{is_false}
use Rattle.scasp_simplex.proofs.fallback.false_number.Given as goal

abbrev pub invariant-loop-place : goal.invariant-loop-place
invariant-loop-place l = list_any is_false (drop l.place l.rows) ≡ list_any is_false l.rows
