use Rattle.std.proofs.Common.{◌≡◌, drop, ◌+◌, [], length}
use Rattle.scasp_rows.specs.Elimination.{all_looked}
use Rattle.scasp_rows.proofs.elimination.all_looked.Given as goal

abbrev pub invariant-loop-row : goal.invariant-loop-row
invariant-loop-row l = all_looked (l.number + 1) (drop l.row-index l.rows) l.state ≡ all_looked 1 l.rows (record { standing = []; steps = []; last = length l.rows })
