use Rattle.std.proofs.Common.{◌≡◌, drop}
use Rattle.scasp_search_rules.specs.Successors.Variables.{has_universal}
use Rattle.scasp_search_terms.proofs.variables.has_universal.Given as goal

abbrev pub invariant-loop-x : goal.invariant-loop-x
invariant-loop-x l = has_universal l.state (drop l.x-index l.xs) ≡ has_universal l.state l.xs
