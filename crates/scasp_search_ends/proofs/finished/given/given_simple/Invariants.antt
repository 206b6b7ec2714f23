use Rattle.std.proofs.Common.{◌≡◌, ◌++◌, drop, filter, map, not}
use Rattle.scasp_search_rules.specs.Successors.Reading.{con_under, holds_always}
use Rattle.scasp_search_rules.specs.Successors.Regions.{givens}
use Rattle.scasp_search_rules.specs.Successors.Variables.{meaning}
use Rattle.scasp_unify.specs.SimpleForm.{simple}
use Rattle.scasp_search_ends.proofs.finished.given.given_simple.Given as goal

abbrev pub invariant-loop-constraint : goal.invariant-loop-constraint
invariant-loop-constraint l =
    l.made ++ filter (λ c. not (holds_always c)) (map simple (map (con_under (meaning l.state)) (drop l.constraint-index l.constraint-items)))
    ≡ filter (λ c. not (holds_always c)) (map simple (givens l.state))
