use Rattle.std.proofs.Common.{◌≡◌, length}
use Rattle.scasp_syntax.specs.Values.{under}
use Rattle.scasp_syntax.specs.View.{tm_of}
use Rattle.scasp_unify.specs.Solving.{sub_of}
use Rattle.scasp_unify.proofs.bindings.head_of.Given as goal

abbrev pub invariant-bindings : goal.invariant-bindings
invariant-bindings l = under (sub_of l.left) (tm_of l.reached) ≡ under (sub_of l.fn.bindings) (tm_of l.fn.term)

abbrev pub decreases-bindings : goal.decreases-bindings
decreases-bindings l = length l.left
