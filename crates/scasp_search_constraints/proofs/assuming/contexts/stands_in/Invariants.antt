use Rattle.std.proofs.Common.{◌≡◌, drop}
use Rattle.std.specs.List.{list_any}
use Rattle.scasp_search_rules.specs.Successors.Reading.{among, con_vars}
use Rattle.scasp_unify.specs.Solving.{sub_of}
use Rattle.scasp_search_constraints.proofs.assuming.contexts.stands_in.Given as goal

abbrev pub invariant-loop-constraint : goal.invariant-loop-constraint
invariant-loop-constraint l =
    list_any (λ c. among l.x (con_vars (sub_of l.bindings) c)) (drop l.constraint-index l.constraints)
    ≡ list_any (λ c. among l.x (con_vars (sub_of l.bindings) c)) l.constraints
