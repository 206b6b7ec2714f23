use Rattle.std.proofs.Common.{◌≡◌}
use Rattle.scasp_search_rules.specs.Successors.Reading.{count_from}
use Rattle.scasp_search_calls.proofs.cases.beginning.counted.Given as goal

abbrev pub invariant-loop-place : goal.invariant-loop-place
invariant-loop-place l = l.made ≡ count_from l.first l.place
