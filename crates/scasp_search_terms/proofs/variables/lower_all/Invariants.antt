use Rattle.std.proofs.Common.{◌≡◌, drop}
use Rattle.scasp_search_rules.specs.Successors.Variables.{lowered}
use Rattle.scasp_search_terms.proofs.variables.lower_all.Given as goal

abbrev pub invariant-loop-x : goal.invariant-loop-x
invariant-loop-x l = lowered l.depth (drop l.x-index l.xs) l.made.items ≡ lowered l.depth l.xs l.fn.made
