use Rattle.std.proofs.Common.{◌≡◌, length, map}
use Rattle.scasp_checker_rules.specs.Ancestors.{entry_at}
use Rattle.scasp_lines_places.specs.Places.Chains.{chained}
use Rattle.scasp_lines_places.specs.Places.View.{above_of}
use Rattle.scasp_checker_lines.proofs.line_faults.ancestors.entry_at.Given as goal

abbrev pub invariant-loop-entry : goal.invariant-loop-entry
invariant-loop-entry l = entry_at l.at (map above_of (chained l.rest)) ≡ entry_at l.at (map above_of (chained l.above))

abbrev pub decreases-loop-entry : goal.decreases-loop-entry
decreases-loop-entry l = length (chained l.rest)
