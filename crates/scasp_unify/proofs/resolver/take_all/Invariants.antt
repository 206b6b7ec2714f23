use Rattle.std.proofs.Common.{◌≡◌, ◌&&◌, drop, is_some}
use Rattle.scasp_unify.specs.Resolver.{resolver, resolver_after, taken, unifies}
use Rattle.scasp_unify.specs.Solving.{sub_of}
use Rattle.scasp_unify.specs.Unification.{Absorbs}
use Rattle.scasp_unify.proofs.resolver.take_all.Given as goal

abbrev pub invariant-loop-constraint : goal.invariant-loop-constraint
invariant-loop-constraint l = record {
  bound : resolver l.constraints ≡ resolver_after (sub_of l.bindings.items) (drop l.constraint-index l.constraints);
  unified : unifies l.constraints ≡ (l.unifies && is_some (taken (sub_of l.bindings.items) (drop l.constraint-index l.constraints)));
  resolved : Absorbs (sub_of l.bindings.items) (sub_of l.bindings.items);
}
