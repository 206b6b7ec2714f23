use Rattle.std.proofs.Common.{[]}
use Rattle.scasp_worklist.specs.Inside.Closing.{state_of}
use Rattle.scasp_worklist.proofs.WorklistLemmas.{Good, left}
use Rattle.scasp_worklist.proofs.worklist.least_set.Given as goal

abbrev pub invariant-loop-number : goal.invariant-loop-number
invariant-loop-number l = Good l.count l.rules [] (state_of l.closing)

abbrev pub decreases-loop-number : goal.decreases-loop-number
decreases-loop-number l = left (state_of l.closing)
