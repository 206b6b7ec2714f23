-- Fractions in lowest terms are numbers as they stand.
use Rattle.std.proofs.Common.{◌≡◌, ◌≢◌, ◌∙◌, ℕ, ◌/◌, ◌^◌, ◌==◌, Bool, true, false, nat_lt, ℤ, pos, negsuc, ◌<ℤ◌, unsigned_abs, None, Some, refl, ap, arith}
use Rattle.std.specs.Prelude.{◌&&◌}
use Rattle.std.specs.Int.RustNames.{int_lt}
use Rattle.std.proofs.Math.Nat.{div-one}
use Rattle.std.proofs.lemmas.Bool.{eqb-true}
use Rattle.std.proofs.lemmas.Int.{ints}
use Rattle.scasp_num.specs.Gcd.{gcd}
use Rattle.scasp_num.specs.Number.{InRange}
use Rattle.scasp_num.specs.Arithmetic.{is_reduced, lowest, number, number_if, signed, signs_differ, within}
use Rattle.scasp_num.proofs.Numbers.{lt_ltb}

number_if-none : (n d : ℤ) (t : Bool) (e : is_reduced n d ≡ t) → t ≡ false → number_if n d t e ≡ None
number_if-none n d true e h = cc
number_if-none n d false e h = refl

and-none : (a b : Bool) → b ≡ false → (a && b) ≡ false
and-none true b h = h
and-none false b h = refl

differs : (a : ℕ) → a ≢ 1 → (t : Bool) → (a == 1) ≡ t → t ≡ false
differs a h true e = absurd (h (eqb-true a 1 e))
differs a h false e = refl

-- a fraction that is not in lowest terms is no number
pub number-none : (n d : ℤ) → gcd (unsigned_abs n) (unsigned_abs d) ≢ 1 → number n d ≡ None
number-none n d h =
    let g = gcd (unsigned_abs n) (unsigned_abs d) in
    number_if-none n d (is_reduced n d) refl (and-none (int_lt (pos 0) d) (g == 1) (differs g h (g == 1) refl))

sign-kept : (n : ℤ) (b : ℕ) → signed (signs_differ n (pos b)) (unsigned_abs n) ≡ n
sign-kept (pos a) b = refl
sign-kept (negsuc a) b = refl

pub within-range : (z : ℤ) → InRange z → within z ≡ Some z
within-range z h = let t : nat_lt (unsigned_abs z) (2 ^ 127) ≡ true = lt_ltb h in rw t refl

over : (a g : ℕ) → g ≡ 1 → a / g ≡ a
over a g e = ap (λ k. a / k) e ∙ div-one a

pub lowest-number : (n d : ℤ) → pos 0 <ℤ d → InRange n → InRange d → gcd (unsigned_abs n) (unsigned_abs d) ≡ 1 → lowest n d ≡ number n d
unfolding lowest
lowest-number n (pos b) h r s g =
    let p = over (unsigned_abs n) (gcd (unsigned_abs n) b) g in
    let q = over b (gcd (unsigned_abs n) b) g in
    rw (p, q, sign-kept n b, within-range n r, within-range (pos b) s) refl
lowest-number n (negsuc b) h r s g = absurd (omega (arith, ints))
