use Rattle.std.proofs.Common.{◌≡◌, length}
use Rattle.scasp_lines.specs.Opened.{knows}
use Rattle.scasp_lines_places.specs.Places.Chains.{chained}
use Rattle.scasp_lines_places.specs.Places.View.{all_opened}
use Rattle.scasp_lines_places.proofs.places.scope.knows.Given as goal

abbrev pub invariant-loop-entry : goal.invariant-loop-entry
invariant-loop-entry l = knows l.free (all_opened l.rest) l.x ≡ knows l.free (all_opened l.opened) l.x

abbrev pub decreases-loop-entry : goal.decreases-loop-entry
decreases-loop-entry l = length (chained l.rest)
