use Rattle.std.proofs.Common.{◌≡◌, drop}
use Rattle.scasp_simplex.specs.Inside.Numerators.{summed}
use Rattle.scasp_simplex.proofs.point.summed.Given as goal

abbrev pub invariant-loop-k : goal.invariant-loop-k
invariant-loop-k l = summed l.point (drop l.k-index l.terms) l.sum ≡ summed l.point l.terms l.initial.sum
