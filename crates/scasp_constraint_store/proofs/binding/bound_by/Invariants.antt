use Rattle.std.proofs.Common.{◌≡◌, ◌-◌, ◌++◌, map, option_map}
use Rattle.scasp_unify.specs.Solving.{part_of}
use Rattle.scasp_constraint_store.specs.Bound.{bound_by}
use Rattle.scasp_constraint_store.proofs.binding.bound_by.Given as goal

abbrev pub invariant-loop : goal.invariant-loop
invariant-loop l =
    option_map (λ bs. l.made.items ++ bs) (bound_by (l.count - l.counter) (map part_of l.left.items))
    ≡ bound_by l.count (map part_of l.fn.parts.items)
