use Rattle.std.proofs.Common.{◌≡◌, drop}
use Rattle.scasp_model.specs.Stable.{has_violation}
use Rattle.scasp_closure.proofs.stable.has_violation.Given as goal

abbrev pub invariant-loop-clause : goal.invariant-loop-clause
invariant-loop-clause l = has_violation l.m (drop l.clause-index l.clause-items) ≡ has_violation l.m l.g
