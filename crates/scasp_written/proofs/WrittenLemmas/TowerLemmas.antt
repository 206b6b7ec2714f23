-- A tower above those below it.
use Rattle.std.specs.Prelude.{◌≡◌, ℕ, zero, suc, ◌+◌, ◌*◌, ◌-◌, ◌^◌, ◌<◌, ◌≤◌, refl}
use Rattle.std.proofs.Common.{arith}
use Rattle.scasp_written.specs.Written.Inside.Heights.{tower}

pub tower-some : (n : ℕ) → 0 < tower n
unfolding tower
tower-some zero = omega arith
tower-some (suc n) = omega (arith, tower-some n)

tower-up : (p d : ℕ) → tower p ≤ tower (d + p)
unfolding tower
tower-up p zero = let e : 0 + p ≡ p = omega arith in rw e (omega arith)
tower-up p (suc d) = let e : suc d + p ≡ suc (d + p) = omega arith in rw e (omega (arith, tower-up p d))

tower-next : (p d : ℕ) → 2 ^ 64 * tower p ≤ tower (suc d + p)
unfolding tower
tower-next p d = let e : suc d + p ≡ suc (d + p) = omega arith in rw e (omega (arith, tower-up p d))

pub tower-over : (p q : ℕ) → p < q → 2 ^ 64 * tower p ≤ tower q
tower-over p q g =
    let d : suc (q - (p + 1)) + p ≡ q = omega (arith, g) in
    rw d at (tower-next p (q - (p + 1)))

times-below : (k b t : ℕ) → k < b → 0 < t → k * t < b * t
times-below zero b t h some = let e : 0 * t ≡ 0 = omega arith in rw e (nonzero b t h some)
  where
    nonzero : (b t : ℕ) → 0 < b → 0 < t → 0 < b * t
    nonzero zero t h some = absurd (omega arith)
    nonzero (suc b) t h some = omega (arith, some)
times-below (suc k) zero t h some = absurd (omega arith)
times-below (suc k) (suc b) t h some = omega (arith, times-below k b t (omega (arith, h)) some)

-- so many of a tower are less than the limit of them
pub tower-times : (k p : ℕ) → k < 2 ^ 64 → k * tower p < 2 ^ 64 * tower p
tower-times k p h = times-below k (2 ^ 64) (tower p) h (tower-some p)
