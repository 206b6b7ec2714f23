use Rattle.std.proofs.Common.{take}
use Rattle.scasp_rows.specs.Points.{NoDisequation}
use Rattle.scasp_rows.proofs.verdict.is_free_of_disequations.Given as goal

abbrev pub invariant-loop-row : goal.invariant-loop-row
invariant-loop-row l = NoDisequation (take l.row-index l.rows)
