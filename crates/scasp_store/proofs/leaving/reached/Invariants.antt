use Rattle.std.proofs.Common.{◌≡◌}
use Rattle.scasp_law_parts.specs.Bound.{Triangular}
use Rattle.scasp_syntax.specs.Values.{under}
use Rattle.scasp_syntax.specs.View.{tm_of}
use Rattle.scasp_unify.specs.Solving.{sub_of}
use Rattle.scasp_store.proofs.leaving.reached.Given as goal

abbrev pub invariant-bindings : goal.invariant-bindings
invariant-bindings l = Triangular l.bound.now → under (sub_of l.bound.now) (tm_of l.reached) ≡ under (sub_of l.bound.now) (tm_of l.fn.term)

abbrev pub decreases-bindings : goal.decreases-bindings
decreases-bindings l = l.left
