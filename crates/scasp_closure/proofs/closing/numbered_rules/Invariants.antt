use Rattle.std.proofs.Common.{take}
use Rattle.scasp_closure.specs.Reading.{StandFor}
use Rattle.scasp_closure.proofs.closing.numbered_rules.Given as goal

abbrev pub invariant-loop-rule : goal.invariant-loop-rule
invariant-loop-rule l = StandFor l.table l.numbered (take l.rule-index l.rule-items)
