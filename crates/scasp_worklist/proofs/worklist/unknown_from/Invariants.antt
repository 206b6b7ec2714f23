use Rattle.std.proofs.Common.{◌≡◌, length}
use Rattle.scasp_worklist.specs.Inside.Closing.{unknown_from}
use Rattle.scasp_worklist.proofs.worklist.unknown_from.Given as goal

abbrev pub invariant-loop-number : goal.invariant-loop-number
invariant-loop-number l = unknown_from l.known l.rest ≡ unknown_from l.known l.body

abbrev pub decreases-loop-number : goal.decreases-loop-number
decreases-loop-number l = length l.rest
