use Rattle.std.proofs.Common.{◌≡◌, ◌-◌, ◌+◌, ◌*◌, ◌^◌, ◌≤◌, length, map, take}
use Rattle.scasp_unify.specs.Solving.{LeadsTo, part_of, sub_of}
use Rattle.scasp_unify.specs.Unification.{Absorbs}
use Rattle.scasp_unify.proofs.SolvingLemmas.{waiting}
use Rattle.scasp_unify.proofs.solving.solve.Given as goal

abbrev pub invariant-parts : goal.invariant-parts
invariant-parts l = record {
  leads : LeadsTo (sub_of l.fn.bindings.items) (map part_of l.fn.parts.items) (sub_of l.bindings.items) (waiting l.left.items);
  resolved : Absorbs (sub_of l.bindings.items) (sub_of l.bindings.items);
  kept : take (length l.fn.bindings.items) l.bindings.items ≡ l.fn.bindings.items;
  longer : length l.fn.bindings.items ≤ length l.bindings.items;
}

abbrev pub decreases-parts : goal.decreases-parts
decreases-parts l = (2 ^ 64 - length l.bindings.items) * 2 ^ 64 + length l.left.items
