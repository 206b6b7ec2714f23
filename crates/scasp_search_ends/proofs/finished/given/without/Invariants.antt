use Rattle.std.proofs.Common.{◌≡◌, ◌++◌, filter, not}
use Rattle.std.specs.Vec.Iter.{into_iter_items}
use Rattle.scasp_checker_rules.specs.SameConstraint.{same_con}
use Rattle.scasp_search_ends.proofs.finished.given.without.Given as goal

abbrev pub invariant-loop-other : goal.invariant-loop-other
invariant-loop-other l =
    l.made ++ filter (λ d. not (same_con l.constraint d)) (into_iter_items l.other-iterator)
    ≡ filter (λ d. not (same_con l.constraint d)) l.fn.list
