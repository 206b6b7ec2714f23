use Rattle.std.proofs.Common.{◌≡◌, drop}
use Rattle.scasp_syntax.specs.Tm.{items}
use Rattle.scasp_syntax.specs.Values.{giving}
use Rattle.scasp_checker_rules.specs.BoundedTruth.{summed}
use Rattle.scasp_checker_answer.proofs.sample.summed.Given as goal

abbrev pub invariant-loop-k : goal.invariant-loop-k
invariant-loop-k l = summed (giving (items l.values)) (drop l.k-index l.coeffs) l.sum ≡ summed (giving (items l.values)) l.coeffs l.constant
