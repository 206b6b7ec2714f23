use Rattle.std.proofs.Common.{◌≡◌, drop}
use Rattle.scasp_model.specs.Stable.{are_true_in}
use Rattle.scasp_closure.proofs.stable.are_true_in.Given as goal

abbrev pub invariant-loop-literal : goal.invariant-loop-literal
invariant-loop-literal l = are_true_in l.m (drop l.literal-index l.literal-items) ≡ are_true_in l.m l.body
