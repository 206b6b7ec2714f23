use Rattle.std.proofs.Common.{◌≡◌, drop}
use Rattle.std.specs.List.{list_all}
use Rattle.scasp_search_rules.specs.Successors.Calls.{is_in_scope, open_cases}
use Rattle.scasp_search_rules.specs.Successors.Reading.{among}
use Rattle.scasp_search_calls.proofs.calls.earlier.is_in_scope.Given as goal

abbrev pub invariant-loop-case : goal.invariant-loop-case
invariant-loop-case l = list_all (λ k. among k (open_cases l.state)) (drop l.case-index l.case-items) ≡ is_in_scope l.state l.literal
