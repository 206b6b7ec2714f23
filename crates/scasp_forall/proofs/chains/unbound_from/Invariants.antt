use Rattle.std.proofs.Common.{◌≡◌, filter, not}
use Rattle.scasp_search_rules.specs.Successors.Reading.{count_from}
use Rattle.scasp_search_rules.specs.Successors.Splits.{is_bound_in}
use Rattle.scasp_forall.proofs.chains.unbound_from.Given as goal

abbrev pub invariant-loop-place : goal.invariant-loop-place
invariant-loop-place l = l.found ≡ filter (λ x. not (is_bound_in l.bound.now x)) (count_from l.first l.place)
