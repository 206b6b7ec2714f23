use Rattle.std.proofs.Common.{◌≡◌, ◌++◌, drop, filter}
use Rattle.scasp_shorten.specs.Shortest.{bound_of, is_upper}
use Rattle.scasp_shorten.proofs.ordering.push_upper.Given as goal

abbrev pub invariant-loop-constraint : goal.invariant-loop-constraint
invariant-loop-constraint l =
    l.made ++ filter (λ c. is_upper l.x (bound_of c)) (drop l.constraint-index l.list) ≡ l.fn.made ++ filter (λ c. is_upper l.x (bound_of c)) l.list
