use Rattle.std.proofs.Common.{◌≡◌, Some, drop, map}
use Rattle.scasp_unify.specs.Parts.{both_parts}
use Rattle.scasp_unify.specs.Solving.{part_of, sub_of}
use Rattle.scasp_unify.specs.Unification.{parts_under}
use Rattle.scasp_constraint_store.proofs.binding.parts_under.Given as goal

abbrev pub invariant-loop-part : goal.invariant-loop-part
invariant-loop-part l =
    both_parts (Some (map part_of l.found.items)) (parts_under (sub_of l.bindings) (map part_of (drop l.part-index l.parts)))
    ≡ parts_under (sub_of l.bindings) (map part_of l.parts)
