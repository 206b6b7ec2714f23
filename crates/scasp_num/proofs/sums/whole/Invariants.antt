use Rattle.std.proofs.Common.{◌≡◌, drop, ◌++◌, Some}
use Rattle.scasp_num.specs.Arithmetic.{◌>>=◌}
use Rattle.scasp_num.specs.Sums.{whole}
use Rattle.scasp_num.proofs.sums.whole.Given as goal

abbrev pub invariant-loop-k : goal.invariant-loop-k
invariant-loop-k l = (whole l.l (drop l.k-index l.sums) >>= (λ rest. Some (l.terms ++ rest))) ≡ whole l.l l.sums
