use Rattle.std.proofs.Common.{◌≡◌, drop}
use Rattle.scasp_worklist.specs.Inside.Closing.{highest_from}
use Rattle.scasp_worklist.proofs.worklist.highest_of.Given as goal

abbrev pub invariant-loop-number : goal.invariant-loop-number
invariant-loop-number l = highest_from l.most (drop l.number-index l.numbers) ≡ highest_from l.least l.numbers
