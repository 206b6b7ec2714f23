use Rattle.std.proofs.Common.{◌≡◌, [], length}
use Rattle.scasp_shorten.specs.Shortest.{uncontained}
use Rattle.scasp_shorten.proofs.alternatives.uncontained.Given as goal

abbrev pub invariant-loop-list : goal.invariant-loop-list
invariant-loop-list l = uncontained l.before l.left ≡ uncontained [] l.lists

abbrev pub decreases-loop-list : goal.decreases-loop-list
decreases-loop-list l = length l.left
