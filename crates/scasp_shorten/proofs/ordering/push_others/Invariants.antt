use Rattle.std.proofs.Common.{◌≡◌, ◌++◌, drop, filter, not}
use Rattle.scasp_shorten.specs.Shortest.{bound_of, is_bound}
use Rattle.scasp_shorten.proofs.ordering.push_others.Given as goal

abbrev pub invariant-loop-constraint : goal.invariant-loop-constraint
invariant-loop-constraint l =
    l.made ++ filter (λ c. not (is_bound l.x (bound_of c))) (drop l.constraint-index l.list) ≡ l.fn.made ++ filter (λ c. not (is_bound l.x (bound_of c))) l.list
