use Rattle.std.proofs.Common.{◌≡◌, drop}
use Rattle.scasp_num.specs.Sums.{summed}
use Rattle.scasp_reader_expressions.proofs.sums.summed.Given as goal

abbrev pub invariant-loop-k : goal.invariant-loop-k
invariant-loop-k l = summed l.sums (drop l.k-index l.others) ≡ summed l.fn.pairs l.others
