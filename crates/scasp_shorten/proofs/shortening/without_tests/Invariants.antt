use Rattle.std.proofs.Common.{◌≡◌, ◌++◌, drop, filter, not}
use Rattle.scasp_shorten.specs.Shortest.{is_told_by_rows, without_tests}
use Rattle.scasp_shorten.proofs.shortening.without_tests.Given as goal

abbrev pub invariant-loop-constraint : goal.invariant-loop-constraint
invariant-loop-constraint l = l.made ++ filter (λ c. not (is_told_by_rows l.list c)) (drop l.constraint-index l.list) ≡ without_tests l.list
