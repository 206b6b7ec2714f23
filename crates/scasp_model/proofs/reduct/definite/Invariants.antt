use Rattle.std.proofs.Common.{◌≡◌, drop, ◌++◌}
use Rattle.scasp_model.specs.Reduct.{definite}
use Rattle.scasp_model.proofs.reduct.definite.Given as goal

abbrev pub invariant-loop-clause : goal.invariant-loop-clause
invariant-loop-clause l = l.rules ++ definite (drop l.clause-index l.clause-items) ≡ definite l.g
