-- Whole numbers, and their quotients in lowest terms.
use Rattle.std.proofs.Common.{◌≡◌, ℕ, ◌*◌, ◌/◌, ◌^◌, ◌<◌, true, nat_lt, pos, Some, refl, sym, ap, ◌∙◌, arith}
use Rattle.std.proofs.Math.Nat.{div-one}
use Rattle.std.proofs.lemmas.Int.{ints}
use Rattle.std.proofs.lemmas.Bool.Decides.{nat_tests}
use Rattle.scasp_num.specs.Gcd.{gcd, gcd_within}
use Rattle.scasp_num.specs.Number.{Number}
use Rattle.scasp_num.specs.Arithmetic.{◌>>=◌, within, lowest, product_of, quotient_of}
use Rattle.scasp_num.proofs.Gcds.{gcd_comm}
use Rattle.scasp_num.proofs.Numbers.{number-of, number-at}

pub gcd-one : (n : ℕ) → gcd n 1 ≡ 1
unfolding gcd gcd_within
gcd-one n = refl

pub one-gcd : (n : ℕ) → gcd 1 n ≡ 1
one-gcd n = gcd_comm 1 n ∙ gcd-one n

in-range : (n : ℕ) → n < 2 ^ 127 → within (pos n) ≡ Some (pos n)
in-range n h = let e : nat_lt n (2 ^ 127) ≡ true = grind (arith, nat_tests) in rw e refl

-- the whole number n
abbrev pub whole : ℕ → Number
whole n = record { num = pos n; den = pos 1; reduced = record { positive = omega (arith, ints); lowest = gcd-one n } }

pub lowest-whole : (n : ℕ) → n < 2 ^ 127 → lowest (pos n) (pos 1) ≡ Some (whole n)
unfolding lowest
lowest-whole n h = rw (gcd-one n, div-one n, in-range n h) (sym (number-of (whole n)))

-- 1/k
abbrev over : (k : ℕ) → 0 < k → Number
over k h = record { num = pos 1; den = pos k; reduced = record { positive = omega (arith, ints, h); lowest = one-gcd k } }

lowest-over : (k : ℕ) (h : 0 < k) → k < 2 ^ 127 → lowest (pos 1) (pos k) ≡ Some (over k h)
unfolding lowest
lowest-over k h r = rw (one-gcd k, div-one k, in-range k r) (sym (number-of (over k h)))

product-over : (n k : ℕ) (q : Number) (h : 0 < k) → n < 2 ^ 127 → k < 2 ^ 127 → gcd n k ≡ 1 → q.num ≡ pos n → q.den ≡ pos k → product_of (whole n) (over k h) ≡ Some q
unfolding product_of
product-over n k q h rn rk g en ek =
    let a : n * (1 / 1) ≡ n = ap (λ x. n * x) (div-one 1) ∙ mul-one n in
    let b : 1 / 1 * k ≡ k = ap (λ x. x * k) (div-one 1) ∙ one-mul k in
    rw (g, gcd-one 1, div-one n, div-one k, a, b, in-range n rn, in-range k rk) (sym (number-at q (pos n) (pos k) en ek))
  where
    mul-one : (m : ℕ) → m * 1 ≡ m
    mul-one m = omega arith

    one-mul : (m : ℕ) → 1 * m ≡ m
    one-mul m = omega arith

-- n and k without a common divisor: their quotient is n/k
pub quotient-whole : (n k : ℕ) (q : Number) → 0 < k → n < 2 ^ 127 → k < 2 ^ 127 → gcd n k ≡ 1 → q.num ≡ pos n → q.den ≡ pos k → quotient_of (whole n) (whole k) ≡ Some q
unfolding quotient_of
quotient-whole n k q h rn rk g en ek = ap (λ o. o >>= product_of (whole n)) (lowest-over k h rk) ∙ product-over n k q h rn rk g en ek
