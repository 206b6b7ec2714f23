use Rattle.std.proofs.Common.{◌≡◌, ◌++◌, drop}
use Rattle.std.specs.List.{flat_map, list_any}
use Rattle.scasp_search_rules.specs.Successors.Reading.{among, con_vars}
use Rattle.scasp_unify.specs.Solving.{sub_of}
use Rattle.scasp_search_constraints.proofs.assuming.contexts.stands_in_covers.Given as goal

abbrev pub invariant-loop-cover : goal.invariant-loop-cover
invariant-loop-cover l =
    list_any (λ c. among l.x (con_vars (sub_of l.bindings) c))
    (flat_map (λ c. c.region ++ flat_map (λ r. r.region) c.waiting) (drop l.cover-index l.covers))
    ≡ list_any (λ c. among l.x (con_vars (sub_of l.bindings) c)) (flat_map (λ c. c.region ++ flat_map (λ r. r.region) c.waiting) l.covers)
