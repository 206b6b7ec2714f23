use Rattle.std.proofs.Common.{◌≡◌, ◌++◌, drop, filter}
use Rattle.scasp_search_rules.specs.Successors.Variables.{is_universal}
use Rattle.scasp_search_terms.proofs.variables.universal_among.Given as goal

abbrev pub invariant-loop-x : goal.invariant-loop-x
invariant-loop-x l = l.found ++ filter (is_universal l.state) (drop l.x-index l.xs) ≡ filter (is_universal l.state) l.xs
