-- Whole numbers as bounded fractions.
use Rattle.std.proofs.Common.{◌≡◌, ◌≢◌, ◌*ℤ◌, suc, ◌^◌, ◌≤◌, ◌/◌, Bool, true, false, nat_lt, ℤ, pos, negsuc, unsigned_abs, Some, None, Option, refl, sym, ap, subst, ◌∙◌, arith, FitsSigned}
use Rattle.std.specs.Prelude.{if◌then◌else◌}
use Rattle.std.specs.Int.{w128}
use Rattle.std.proofs.Math.Nat.{div-one}
use Rattle.std.proofs.Math.IntN.{zero-*ℤ}
use Rattle.scasp_num.proofs.Exact.{lowest-exact}
use Rattle.scasp_num.proofs.Integers.{*ℤ-cancel}
use Rattle.std.proofs.lemmas.Bool.Decides.{nat_tests}
use Rattle.scasp_num.specs.Gcd.{gcd, gcd_within}
use Rattle.scasp_num.specs.Number.{Number}
use Rattle.scasp_num.specs.Arithmetic.{◌>>=◌, in_range, within, lowest, number, signed, signs_differ}
use Rattle.scasp_num.proofs.Numbers.{unsigned_abs-signed, ltb_lt}
use Rattle.scasp_rows.specs.Steps.{whole}

too_large : (z : ℤ) → ¬ FitsSigned w128 z → 2 ^ 127 ≤ unsigned_abs z
too_large (pos n) h = by (nat_lt n (2 ^ 127)) refl
  where
    by : (t : Bool) → nat_lt n (2 ^ 127) ≡ t → 2 ^ 127 ≤ n
    by true e = absurd (h (record { sfits = ltb_lt e }))
    by false e = grind (arith, nat_tests)
too_large (negsuc n) h = by (nat_lt n (2 ^ 127)) refl
  where
    by : (t : Bool) → nat_lt n (2 ^ 127) ≡ t → 2 ^ 127 ≤ suc n
    by true e = absurd (h (record { sfits = ltb_lt e }))
    by false e = grind (arith, nat_tests)

within-none : (z : ℤ) → 2 ^ 127 ≤ unsigned_abs z → within z ≡ None
within-none z h = let f : in_range z ≡ false = grind (arith, nat_tests) in ap (λ t. if t then Some z else None) f

-- an integer that does not fit is no number
pub whole-none : (z : ℤ) → ¬ FitsSigned w128 z → None ≡ whole z
unfolding lowest gcd gcd_within
whole-none z h =
    let s = signed (signs_differ z (pos 1)) (unsigned_abs z / 1) in
    let size : unsigned_abs s ≡ unsigned_abs z = unsigned_abs-signed (signs_differ z (pos 1)) (unsigned_abs z / 1) ∙ div-one (unsigned_abs z) in
    let none : within s ≡ None = within-none s (subst (λ n. 2 ^ 127 ≤ n) (sym size) (too_large z h)) in
    sym (ap (λ (o : Option ℤ). o >>= (λ num. within (pos (1 / 1)) >>= (λ den. number num den))) none)

-- a whole number that is not 0, as a fraction
pub whole-nonzero : (z : ℤ) (q : Number) → Some q ≡ whole z → z ≢ pos 0 → q.num ≢ pos 0
whole-nonzero z q e n f =
    let h = lowest-exact q z (pos 1) e in
    let g : z *ℤ q.den ≡ pos 0 *ℤ q.den = sym h ∙ ap (λ y. y *ℤ pos 1) f ∙ sym (zero-*ℤ q.den) in
    n (*ℤ-cancel z (pos 0) q.den q.reduced.positive g)
