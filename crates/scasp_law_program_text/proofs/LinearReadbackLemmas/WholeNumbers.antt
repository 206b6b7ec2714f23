-- Integers as numbers: their sums, differences and products.
use Rattle.std.proofs.Common.{◌≡◌, ℕ, ◌*◌, ◌<◌, ◌^◌, ℤ, pos, negsuc, ◌+ℤ◌, ◌*ℤ◌, neg_ℤ, unsigned_abs, Some, refl, sym, arith}
use Rattle.std.proofs.lemmas.Int.{ints}
use Rattle.std.proofs.Math.Nat.{div-one}
use Rattle.scasp_num.specs.Gcd.{gcd, gcd_within}
use Rattle.scasp_num.specs.Number.{Number, IsReduced, IsReduced-prop, InRange}
use Rattle.scasp_num.specs.Arithmetic.{within, signed, signs_differ, lowest, sum_of, product_of, negation_of}
use Rattle.scasp_num.proofs.Numbers.{number-of, lt_ltb}

pub gcd-one : (n : ℕ) → gcd n 1 ≡ 1
unfolding gcd gcd_within
gcd-one n = refl

-- the integer as a number
abbrev pub integer : ℤ → Number
integer z = record { num = z; den = pos 1; reduced = record { positive = omega (arith, ints); lowest = gcd-one (unsigned_abs z) } }

pub within-of : (z : ℤ) → InRange z → within z ≡ Some z
within-of z h = rw (lt_ltb h) refl

pub times-one : (z : ℤ) → z *ℤ pos 1 ≡ z
times-one z = omega (arith, ints)

-- with one, in lowest terms
signed-whole : (z : ℤ) → signed (signs_differ z (pos 1)) (unsigned_abs z) ≡ z
signed-whole (pos n) = refl
signed-whole (negsuc n) = refl

pub lowest-integer : (z : ℤ) → InRange z → lowest z (pos 1) ≡ Some (integer z)
unfolding lowest
lowest-integer z h = rw (gcd-one (unsigned_abs z), div-one (unsigned_abs z), signed-whole z, within-of z h) (sym (number-of (integer z)))

pub sum-integers : (a b : ℤ) → InRange a → InRange b → InRange (a +ℤ b) → sum_of (integer a) (integer b) ≡ Some (integer (a +ℤ b))
unfolding sum_of
sum-integers a b ha hb hs = rw (gcd-one 1, times-one a, times-one b, within-of a ha, within-of b hb, within-of (a +ℤ b) hs) (lowest-integer (a +ℤ b) hs)

pub product-integers : (a b : ℕ) → a * b < 2 ^ 127 → product_of (integer (pos a)) (integer (pos b)) ≡ Some (integer (pos (a * b)))
unfolding product_of
product-integers a b h = rw (gcd-one a, gcd-one b, div-one a, div-one b, within-of (pos (a * b)) h) (sym (number-of (integer (pos (a * b)))))

-- a number is its two integers
same-number : (a b : ℤ) (r s : IsReduced a b) → ◌≡◌ {A = Number} (record { num = a; den = b; reduced = r }) (record { num = a; den = b; reduced = s })
same-number a b r s = λ i. record { num = a; den = b; reduced = IsReduced-prop a b r s i }

pub negation-integer : (z : ℤ) → negation_of (integer z) ≡ integer (neg_ℤ z)
negation-integer z = same-number (neg_ℤ z) (pos 1) (negation_of (integer z)).reduced (integer (neg_ℤ z)).reduced
