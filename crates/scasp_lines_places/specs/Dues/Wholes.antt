-- Integers as numbers, and coefficients as pairs.
use Rattle.std.specs.Prelude.{ℕ, ℤ, pos, unsigned_abs}
use Rattle.std.proofs.Common.{◌≡◌, refl, arith}
use Rattle.std.proofs.lemmas.Int.{ints}
use Rattle.scasp_checker_rules.specs.PairLists.{raised_from}
use Rattle.scasp_num.specs.Gcd.{gcd, gcd_within}
use Rattle.scasp_num.specs.Number.{Number, IsReduced}
use Rattle.scasp_num.specs.declared.linear.Coeff.{Coeff}
use Rattle.scasp_num.specs.declared.linear.RatPair.{RatPair}

gcd-one : (n : ℕ) → gcd n 1 ≡ 1
unfolding gcd gcd_within
gcd-one n = refl

pub integer-reduced : (z : ℤ) → IsReduced z (pos 1)
integer-reduced z = record { positive = omega (arith, ints); lowest = gcd-one (unsigned_abs z) }

-- the integer as a number
abbrev pub integer : ℤ → Number
integer z = record { num = z; den = pos 1; reduced = integer-reduced z }

-- the coefficient as a pair
abbrev pub pair_of : Coeff → RatPair
pair_of k = record { x = k.x; value = integer k.c }

-- the same with its variable raised
abbrev pub raised_pair : ℕ → ℕ → Coeff → RatPair
raised_pair free by k = record { x = raised_from free by k.x; value = integer k.c }
