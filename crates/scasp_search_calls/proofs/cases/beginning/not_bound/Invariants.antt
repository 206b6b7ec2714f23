use Rattle.std.proofs.Common.{◌≡◌, ◌++◌, drop, filter, not}
use Rattle.scasp_search_rules.specs.Successors.Splits.{is_bound_in}
use Rattle.scasp_search_calls.proofs.cases.beginning.not_bound.Given as goal

abbrev pub invariant-loop-x : goal.invariant-loop-x
invariant-loop-x l = l.made ++ filter (λ x. not (is_bound_in l.bindings x)) (drop l.x-index l.xs) ≡ filter (λ x. not (is_bound_in l.bindings x)) l.xs
