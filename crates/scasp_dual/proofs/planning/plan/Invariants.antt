use Rattle.std.proofs.Common.{◌≡◌}
use Rattle.scasp_dual.proofs.planning.plan.Given as goal

abbrev pub invariant-loop-plan : goal.invariant-loop-plan
invariant-loop-plan l = l.made ≡ l.yielded
