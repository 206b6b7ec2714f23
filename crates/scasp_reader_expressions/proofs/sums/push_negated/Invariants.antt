use Rattle.std.proofs.Common.{◌≡◌, drop, ◌++◌}
use Rattle.scasp_reader_expressions.specs.Sums.{negated_pairs}
use Rattle.scasp_reader_expressions.proofs.sums.push_negated.Given as goal

abbrev pub invariant-loop-k : goal.invariant-loop-k
invariant-loop-k l = l.pairs ++ negated_pairs (drop l.k-index l.others) ≡ l.fn.pairs ++ negated_pairs l.others
