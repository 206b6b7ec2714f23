use Rattle.std.proofs.Common.{◌≡◌, ◌+◌, [], length}
use Rattle.scasp_lines.specs.Contexts.{context}
use Rattle.scasp_lines_places.specs.Places.Chains.{chained}
use Rattle.scasp_lines_places.specs.Places.View.{all_opened}
use Rattle.scasp_lines_places.proofs.dues.contexts.constraint_count.Given as goal

abbrev pub invariant-loop-entry : goal.invariant-loop-entry
invariant-loop-entry l = l.count + length (context [] (all_opened l.rest)) ≡ length (context [] (all_opened l.opened))

abbrev pub decreases-loop-entry : goal.decreases-loop-entry
decreases-loop-entry l = length (chained l.rest)
