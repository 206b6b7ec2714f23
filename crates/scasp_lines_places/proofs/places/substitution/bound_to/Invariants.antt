use Rattle.std.proofs.Common.{◌≡◌, length}
use Rattle.scasp_lines.specs.Openings.{bound_to}
use Rattle.scasp_lines_places.specs.Places.Chains.{chained}
use Rattle.scasp_lines_places.specs.Places.View.{all_bound}
use Rattle.scasp_lines_places.proofs.places.substitution.bound_to.Given as goal

abbrev pub invariant-loop-binding : goal.invariant-loop-binding
invariant-loop-binding l = bound_to (all_bound l.rest) l.x ≡ bound_to (all_bound l.bound) l.x

abbrev pub decreases-loop-binding : goal.decreases-loop-binding
decreases-loop-binding l = length (chained l.rest)
