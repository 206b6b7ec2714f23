use Rattle.std.proofs.Common.{◌≡◌}
use Rattle.scasp_model.specs.Least.{rounds}
use Rattle.scasp_model.proofs.least_model.least_of.Given as goal

abbrev pub invariant-loop-round : goal.invariant-loop-round
invariant-loop-round l = l.atoms ≡ rounds l.rules l._round
