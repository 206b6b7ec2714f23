use Rattle.std.proofs.Common.{◌≡◌, drop, filter}
use Rattle.std.specs.Prelude.{nat_le}
use Rattle.std.specs.List.{flat_map, list_any}
use Rattle.scasp_search_rules.specs.declared.states.covers.Cover.{Cover}
use Rattle.scasp_search_rules.specs.Successors.Splits.{is_number_test}
use Rattle.scasp_search_constraints.proofs.assuming.numbers.is_number_in.Given as goal

abbrev pub invariant-loop-cover : goal.invariant-loop-cover
invariant-loop-cover l =
    list_any (is_number_test l.state l.x)
    (flat_map (λ (c : Cover). c.region) (filter (λ (c : Cover). nat_le c.depth l.depth) (drop l.cover-index l.covers)))
    ≡ list_any (is_number_test l.state l.x)
    (flat_map (λ (c : Cover). c.region) (filter (λ (c : Cover). nat_le c.depth l.depth) l.covers))
