use Rattle.std.proofs.Common.{◌≡◌, max, drop}
use Rattle.scasp_checker_rules.specs.PairLists.{above_cons}
use Rattle.scasp_disjoint.proofs.above.above_cons.Given as goal

abbrev pub invariant-loop-constraint : goal.invariant-loop-constraint
invariant-loop-constraint l = max l.number (above_cons (drop l.constraint-index l.constraints)) ≡ above_cons l.constraints
