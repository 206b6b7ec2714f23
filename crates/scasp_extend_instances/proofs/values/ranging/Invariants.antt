use Rattle.std.proofs.Common.{◌≡◌, ◌+◌, length}
use Rattle.scasp_lines_places.specs.Places.Chains.{chained}
use Rattle.scasp_lines_places.specs.Places.View.{all_opened}
use Rattle.scasp_extend_instances.specs.Within.{ranging}
use Rattle.scasp_extend_instances.proofs.values.ranging.Given as goal

abbrev pub invariant-loop-entry : goal.invariant-loop-entry
invariant-loop-entry l = l.count + ranging (all_opened l.rest) ≡ ranging (all_opened l.opened)

abbrev pub decreases-loop-entry : goal.decreases-loop-entry
decreases-loop-entry l = length (chained l.rest)
