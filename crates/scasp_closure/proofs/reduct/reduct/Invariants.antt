use Rattle.std.proofs.Common.{◌≡◌, drop, ◌++◌}
use Rattle.scasp_model.specs.Reduct.{reduct}
use Rattle.scasp_closure.proofs.reduct.reduct.Given as goal

abbrev pub invariant-loop-clause : goal.invariant-loop-clause
invariant-loop-clause l = l.rules ++ reduct l.m (drop l.clause-index l.clause-items) ≡ reduct l.m l.g
