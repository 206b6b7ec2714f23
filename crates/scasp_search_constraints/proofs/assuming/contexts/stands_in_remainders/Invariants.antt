use Rattle.std.proofs.Common.{◌≡◌, drop}
use Rattle.std.specs.List.{flat_map, list_any}
use Rattle.scasp_search_rules.specs.Successors.Reading.{among, con_vars}
use Rattle.scasp_unify.specs.Solving.{sub_of}
use Rattle.scasp_search_constraints.proofs.assuming.contexts.stands_in_remainders.Given as goal

abbrev pub invariant-loop-remainder : goal.invariant-loop-remainder
invariant-loop-remainder l =
    list_any (λ c. among l.x (con_vars (sub_of l.bindings) c)) (flat_map (λ r. r.region) (drop l.remainder-index l.remainders))
    ≡ list_any (λ c. among l.x (con_vars (sub_of l.bindings) c)) (flat_map (λ r. r.region) l.remainders)
