use Rattle.std.proofs.Common.{◌≡◌, ◌++◌, List, drop}
use Rattle.scasp_num.specs.declared.hints.Step.{Step}
use Rattle.scasp_rows.specs.Points.{NoDisequation}
use Rattle.scasp_hint.specs.Finding.{Forced, possible, unknown, forced, sides_asked}
use Rattle.scasp_hint.proofs.finding.sides_asked.Given as goal

-- the lists of the sides behind those of sides before
abbrev pub forced_behind : List (List Step) → Forced → Forced
forced_behind ls possible = possible
forced_behind ls unknown = unknown
forced_behind ls (forced ms) = forced (ls ++ ms)

abbrev pub invariant-loop-side : goal.invariant-loop-side
invariant-loop-side l = record {
  same : forced_behind l.lists (sides_asked l.fn.rows (drop l.side-index l.sides)) ≡ sides_asked l.fn.rows l.sides;
  kept : l.rows ≡ l.fn.rows;
  plain : NoDisequation (drop l.side-index l.sides);
}
