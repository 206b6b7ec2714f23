use Rattle.std.proofs.Common.{◌≡◌, drop}
use Rattle.scasp_worklist.specs.Inside.Closing.{highest_in}
use Rattle.scasp_worklist.proofs.worklist.highest.Given as goal

abbrev pub invariant-loop-rule : goal.invariant-loop-rule
invariant-loop-rule l = highest_in l.most (drop l.rule-index l.rule-items) ≡ highest_in 0 l.rules
