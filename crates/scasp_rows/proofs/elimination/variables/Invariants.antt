use Rattle.std.proofs.Common.{◌≡◌, drop, take, []}
use Rattle.scasp_list.specs.Each.{Each}
use Rattle.scasp_num.specs.Linear.{IsNormal}
use Rattle.scasp_rows.specs.Elimination.{variables}
use Rattle.scasp_rows.proofs.elimination.variables.Given as goal

abbrev pub invariant-loop-row : goal.invariant-loop-row
invariant-loop-row l = (variables l.all.items (drop l.row-index l.rows) ≡ variables [] l.rows) × Each IsNormal (take l.row-index l.rows)
