use Rattle.std.proofs.Common.{◌≡◌, drop}
use Rattle.std.specs.List.{list_all}
use Rattle.scasp_search_rules.specs.Successors.Reading.{among}
use Rattle.scasp_loops.proofs.asking.is_in_scope.Given as goal

abbrev pub invariant-loop-case : goal.invariant-loop-case
invariant-loop-case l = list_all (λ k. among k l.cases) (drop l.case-index l.case-items) ≡ list_all (λ k. among k l.cases) l.entry.cases
