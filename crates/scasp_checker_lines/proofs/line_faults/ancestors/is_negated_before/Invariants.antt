use Rattle.std.proofs.Common.{◌≡◌, length, map}
use Rattle.scasp_checker_rules.specs.Ancestors.{is_negated_before}
use Rattle.scasp_lines_places.specs.Places.Chains.{chained}
use Rattle.scasp_lines_places.specs.Places.View.{above_of}
use Rattle.scasp_checker_lines.proofs.line_faults.ancestors.is_negated_before.Given as goal

abbrev pub invariant-loop-entry : goal.invariant-loop-entry
invariant-loop-entry l = is_negated_before l.at (map above_of (chained l.rest)) ≡ is_negated_before l.at (map above_of (chained l.above))

abbrev pub decreases-loop-entry : goal.decreases-loop-entry
decreases-loop-entry l = length (chained l.rest)
