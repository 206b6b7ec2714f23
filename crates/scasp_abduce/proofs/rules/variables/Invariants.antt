use Rattle.std.proofs.Common.{◌≡◌}
use Rattle.scasp_syntax.specs.Denials.{variables_from}
use Rattle.scasp_abduce.proofs.rules.variables.Given as goal

abbrev pub invariant-loop-x : goal.invariant-loop-x
invariant-loop-x l = l.terms ≡ variables_from 0 l.x
