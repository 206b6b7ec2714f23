use Rattle.std.proofs.Common.{◌≡◌, ◌++◌, drop, map}
use Rattle.scasp_unify.specs.declared.bindings.Binding.{Binding}
use Rattle.scasp_store.proofs.behind.bound_vars.Given as goal

abbrev pub invariant-loop-binding : goal.invariant-loop-binding
invariant-loop-binding l = l.xs ++ map (λ (b : Binding). b.x) (drop l.binding-index l.bindings) ≡ map (λ (b : Binding). b.x) l.bindings
