use Rattle.std.proofs.Common.{◌≡◌, drop, ◌++◌, Some}
use Rattle.scasp_num.specs.Arithmetic.{◌>>=◌}
use Rattle.scasp_num.specs.Sums.{added}
use Rattle.scasp_num.proofs.Placing.{added_unless}
use Rattle.scasp_reader_expressions.proofs.sums.added.Given as goal

abbrev pub invariant-loop-k : goal.invariant-loop-k
invariant-loop-k l = (added_unless l.is_placed l.x l.value (drop l.k-index l.sums) >>= (λ rest. Some (l.pairs ++ rest))) ≡ added l.x l.value l.sums
