use Rattle.std.proofs.Common.{◌≡◌, drop, ◌++◌, Some}
use Rattle.scasp_num.specs.Arithmetic.{◌>>=◌}
use Rattle.scasp_num.specs.Linear.{others_times}
use Rattle.scasp_num.proofs.substitution.others_times.Given as goal

abbrev pub invariant-loop-k : goal.invariant-loop-k
invariant-loop-k l = (others_times l.d l.x (drop l.k-index l.coeffs) >>= (λ rest. Some (l.kept ++ rest))) ≡ others_times l.d l.x l.coeffs
