use Rattle.std.proofs.Common.{◌≡◌, drop}
use Rattle.scasp_hint.specs.AskedRows.{are_opposite}
use Rattle.scasp_hint.proofs.asked.are_opposite.Given as goal

abbrev pub invariant-loop-row : goal.invariant-loop-row
invariant-loop-row l = are_opposite l.all (drop l.row-index l.rows) ≡ are_opposite l.all l.rows
