-- The greatest common divisor of two whole numbers, which computes. The law `gcd-is` says that it is one.
use Rattle.std.specs.Prelude.{ℕ, zero, suc, ◌%◌}

-- Euclid's algorithm, cut off after a number of divisions
unfoldable pub gcd_within : ℕ → ℕ → ℕ → ℕ
gcd_within zero a b = a
gcd_within (suc n) a zero = a
gcd_within (suc n) a (suc b) = gcd_within n (suc b) (a % suc b)

-- the second number falls with each division, so it is enough as a bound
unfoldable pub gcd : ℕ → ℕ → ℕ
gcd a b = gcd_within b a b
