use Rattle.std.proofs.Common.{◌≡◌, drop, []}
use Rattle.scasp_num.specs.Sums.{summed}
use Rattle.scasp_num.proofs.sums.summed.Given as goal

abbrev pub invariant-loop-p : goal.invariant-loop-p
invariant-loop-p l = summed l.sums (drop l.p-index l.pairs) ≡ summed [] l.pairs
