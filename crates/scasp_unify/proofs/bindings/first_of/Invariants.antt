use Rattle.std.proofs.Common.{◌≡◌, ◌≤◌, length}
use Rattle.scasp_unify.specs.Solving.{sub_of}
use Rattle.scasp_unify.proofs.bindings.first_of.Given as goal

abbrev pub invariant-bindings : goal.invariant-bindings
invariant-bindings l = record {
  value : sub_of l.left l.x ≡ sub_of l.fn.bindings l.x;
  fewer : length l.left ≤ length l.fn.bindings;
}

abbrev pub decreases-bindings : goal.decreases-bindings
decreases-bindings l = length l.left
