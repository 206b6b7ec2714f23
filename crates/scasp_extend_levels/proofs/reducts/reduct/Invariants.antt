use Rattle.std.proofs.Common.{◌≡◌, ◌++◌, drop}
use Rattle.scasp_extend_levels.specs.Numbered.{reduct}
use Rattle.scasp_worklist.specs.Numbered.{has}
use Rattle.scasp_extend_levels.proofs.reducts.reduct.Given as goal

abbrev pub invariant-loop-rule : goal.invariant-loop-rule
invariant-loop-rule l = l.made ++ reduct l.standings l.plus (has l.set) (drop l.rule-index l.rules) ≡ reduct l.standings l.plus (has l.set) l.rules
