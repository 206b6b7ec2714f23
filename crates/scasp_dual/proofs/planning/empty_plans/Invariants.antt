use Rattle.std.proofs.Common.{◌≡◌, ◌++◌, drop, map}
use Rattle.scasp_dual.specs.Inside.Filling.{empty_plan}
use Rattle.scasp_dual.proofs.planning.empty_plans.Given as goal

abbrev pub invariant-loop-pred : goal.invariant-loop-pred
invariant-loop-pred l = l.plans.items ++ map empty_plan (drop l.pred-index l.preds) ≡ map empty_plan l.preds
