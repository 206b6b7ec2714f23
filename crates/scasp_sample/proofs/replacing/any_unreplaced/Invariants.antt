use Rattle.std.proofs.Common.{◌≡◌, drop}
use Rattle.std.specs.List.{list_any}
use Rattle.scasp_search_rules.specs.Successors.Replacing.{is_unreplaced}
use Rattle.scasp_unify.specs.Solving.{sub_of}
use Rattle.scasp_sample.proofs.replacing.any_unreplaced.Given as goal

abbrev pub invariant-loop-constraint : goal.invariant-loop-constraint
invariant-loop-constraint l =
    list_any (is_unreplaced (sub_of l.bindings)) (drop l.constraint-index l.constraints) ≡ list_any (is_unreplaced (sub_of l.bindings)) l.constraints
