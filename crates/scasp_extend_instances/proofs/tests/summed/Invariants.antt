use Rattle.std.proofs.Common.{◌≡◌, drop}
use Rattle.scasp_checker_rules.specs.BoundedTruth.{summed}
use Rattle.scasp_extend_instances.specs.View.{way_of}
use Rattle.scasp_extend_instances.proofs.tests.summed.Given as goal

abbrev pub invariant-loop-k : goal.invariant-loop-k
invariant-loop-k l = summed (way_of l.way) (drop l.k-index l.coeffs) l.sum ≡ summed (way_of l.way) l.coeffs l.constant
