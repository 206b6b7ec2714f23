-- Powers that pass the limit, or do not.
use Rattle.std.proofs.Common.{◌≡◌, ◌∙◌, ℕ, zero, suc, ◌*◌, ◌/◌, ◌^◌, ◌<◌, ◌≤◌, refl, sym, ap, arith}
use Rattle.std.proofs.Math.Nat.{div-lt_iff_lt-mul, pow-le-pow_right, pow-succ', pow-zero, mul_comm, zero-mul}

pub past-limit : (m v n count : ℕ) → 1 < m → v < n → count ≡ m ^ v → 1000000 / m < count → 1000000 < m ^ n
past-limit m v n count a b e h =
    let up : 1000000 < count * m = (div-lt_iff_lt-mul (omega (arith, a))).0 h in
    let next : m ^ suc v ≡ m * m ^ v = pow-succ' m v in
    let turned : count * m ≡ m * m ^ v = mul_comm count m ∙ ap (λ z. m * z) e in
    let more : m ^ suc v ≤ m ^ n = pow-le-pow_right (omega (arith, a)) (omega (arith, b)) in
    omega (arith, up, next, turned, more)

-- a power of 1 is 1, and one of 0 is 0 but for the exponent 0
pub power-of_one : (n : ℕ) → 1 ≡ 1 ^ n
power-of_one zero = sym (pow-zero 1)
power-of_one (suc n) = let h = power-of_one n in omega (arith, h, pow-succ' 1 n)

pub power-of_zero : (n : ℕ) → 0 < n → 0 ≡ 0 ^ n
power-of_zero zero h = absurd (omega (arith, h))
power-of_zero (suc n) h = sym (pow-succ' 0 n ∙ zero-mul (0 ^ n))

pub power-at_zero : (n : ℕ) → n ≡ 0 → 1 ≡ 0 ^ n
power-at_zero n e = sym (ap (λ z. 0 ^ z) e ∙ pow-zero 0)
