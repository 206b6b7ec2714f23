use Rattle.std.proofs.Common.{◌≡◌, ◌++◌, drop, filter}
use Rattle.scasp_search_rules.specs.Successors.Splits.{is_bound_in}
use Rattle.scasp_search_terms.proofs.splits.bound_among.Given as goal

abbrev pub invariant-loop-x : goal.invariant-loop-x
invariant-loop-x l = l.found ++ filter (is_bound_in l.bindings) (drop l.x-index l.xs) ≡ filter (is_bound_in l.bindings) l.xs
