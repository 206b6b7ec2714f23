use Rattle.std.proofs.Common.{◌≡◌, drop}
use Rattle.std.specs.List.{list_any}
use Rattle.scasp_search_rules.specs.Successors.Splits.{is_number_test}
use Rattle.scasp_search_constraints.proofs.assuming.numbers.has_number_test.Given as goal

abbrev pub invariant-loop-constraint : goal.invariant-loop-constraint
invariant-loop-constraint l =
    list_any (is_number_test l.state l.x) (drop l.constraint-index l.constraints) ≡ list_any (is_number_test l.state l.x) l.constraints
