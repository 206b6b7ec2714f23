use Rattle.std.proofs.Common.{◌≡◌, [], length}
use Rattle.scasp_shorten.specs.Shortest.{shortened}
use Rattle.scasp_shorten.proofs.shortening.shortened.Given as goal

abbrev pub invariant-loop-constraint : goal.invariant-loop-constraint
invariant-loop-constraint l = shortened l.means l.before l.left ≡ shortened l.means l.fn.first l.list

abbrev pub decreases-loop-constraint : goal.decreases-loop-constraint
decreases-loop-constraint l = length l.left
