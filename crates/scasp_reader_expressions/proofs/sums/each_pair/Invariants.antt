use Rattle.std.proofs.Common.{◌≡◌, drop, ◌++◌, Some}
use Rattle.scasp_num.specs.Arithmetic.{◌>>=◌}
use Rattle.scasp_reader_expressions.specs.Sums.{each_pair}
use Rattle.scasp_reader_expressions.proofs.sums.each_pair.Given as goal

abbrev pub invariant-loop-k : goal.invariant-loop-k
invariant-loop-k l = (each_pair l.operation l.q (drop l.k-index l.pairs) >>= (λ rest. Some (l.results ++ rest))) ≡ each_pair l.operation l.q l.pairs
