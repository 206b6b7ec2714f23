use Rattle.std.proofs.Common.{◌≡◌, length}
use Rattle.scasp_shorten.specs.Shortest.{thinned, thinned_behind}
use Rattle.scasp_shorten.proofs.shortening.thinned.Given as goal

abbrev pub invariant-loop-constraint : goal.invariant-loop-constraint
invariant-loop-constraint l = thinned_behind l.before l.left ≡ thinned l.list

abbrev pub decreases-loop-constraint : goal.decreases-loop-constraint
decreases-loop-constraint l = length l.left
