use Rattle.std.proofs.Common.{◌≡◌, ◌-◌, ◌++◌, filter, not}
use Rattle.scasp_search_rules.specs.Successors.Reading.{among, count_from}
use Rattle.scasp_search_ends.proofs.finished.universals.push_others.Given as goal

abbrev pub invariant-loop-x : goal.invariant-loop-x
invariant-loop-x l =
    l.found ++ filter (λ x. not (among x l.but)) (count_from l.x (l.end - l.x)) ≡ l.fn.found ++ filter (λ x. not (among x l.but)) (count_from l.first l.count)
