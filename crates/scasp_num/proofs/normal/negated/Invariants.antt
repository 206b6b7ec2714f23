use Rattle.std.proofs.Common.{◌≡◌, drop, ◌++◌}
use Rattle.scasp_num.specs.Linear.{negated}
use Rattle.scasp_num.proofs.normal.negated.Given as goal

abbrev pub invariant-loop-k : goal.invariant-loop-k
invariant-loop-k l = l.terms ++ negated l.negate (drop l.k-index l.coeffs) ≡ negated l.negate l.coeffs
