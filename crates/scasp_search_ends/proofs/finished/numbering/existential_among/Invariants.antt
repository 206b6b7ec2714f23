use Rattle.std.proofs.Common.{◌≡◌, ◌++◌, drop, filter}
use Rattle.scasp_search_rules.specs.Successors.Variables.{is_existential}
use Rattle.scasp_search_ends.proofs.finished.numbering.existential_among.Given as goal

abbrev pub invariant-loop-x : goal.invariant-loop-x
invariant-loop-x l = l.made ++ filter (is_existential l.state) (drop l.x-index l.xs) ≡ filter (is_existential l.state) l.xs
