use Rattle.std.proofs.Common.{◌≡◌, ◌+◌, ◌≤◌, drop}
use Rattle.scasp_hint_steps.specs.Pruned.{row_count}
use Rattle.scasp_hint_steps.proofs.finding.row_count.Given as goal

abbrev pub invariant-loop-constraint : goal.invariant-loop-constraint
invariant-loop-constraint l = (l.count + row_count (drop l.constraint-index l.constraints) ≡ row_count l.constraints) × (l.count ≤ l.constraint-index)
