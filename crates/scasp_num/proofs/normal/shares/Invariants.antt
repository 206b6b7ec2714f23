use Rattle.std.proofs.Common.{◌≡◌, drop, ◌++◌}
use Rattle.scasp_num.specs.Linear.{shares}
use Rattle.scasp_num.proofs.normal.shares.Given as goal

abbrev pub invariant-loop-k : goal.invariant-loop-k
invariant-loop-k l = l.kept ++ shares l.negate l.g (drop l.k-index l.coeffs) ≡ shares l.negate l.g l.coeffs
