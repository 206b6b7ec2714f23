use Rattle.std.proofs.Common.{◌≡◌, drop, map, ◌∷◌}
use Rattle.scasp_num.specs.Gcd.{gcd}
use Rattle.scasp_num.specs.Linear.{common_divisor}
use Rattle.scasp_num.proofs.normal.common_divisor.Given as goal

abbrev pub invariant-loop-k : goal.invariant-loop-k
invariant-loop-k l = gcd l.g (common_divisor (map (λ k. k.c) (drop l.k-index l.coeffs))) ≡ common_divisor (l.constant ∷ map (λ k. k.c) l.coeffs)
