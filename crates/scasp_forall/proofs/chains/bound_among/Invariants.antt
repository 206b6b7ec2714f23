use Rattle.std.proofs.Common.{◌≡◌, ◌++◌, drop, filter}
use Rattle.scasp_search_rules.specs.Successors.Splits.{is_bound_in}
use Rattle.scasp_forall.proofs.chains.bound_among.Given as goal

abbrev pub invariant-loop-x : goal.invariant-loop-x
invariant-loop-x l = l.found ++ filter (is_bound_in l.bound.now) (drop l.x-index l.xs) ≡ filter (is_bound_in l.bound.now) l.xs
