-- How the test of a comparison with 0 and the comparison itself belong together.
use Rattle.std.proofs.Common.{◌≡◌, ◌≢◌, ◌↔◌, ℕ, IsTrue, zero, suc, true, false, not, ℤ, pos, negsuc, refl, ap, subst, arith}
use Rattle.std.proofs.lemmas.Int.{ints}
use Rattle.scasp_num.specs.declared.linear.Op.{Op}
use Rattle.scasp_num.specs.declared.linear.Op.TheVariants as op
use Rattle.scasp_num.specs.Number.{Number}
use Rattle.scasp_num.specs.Linear.{Linear, is_zero, Compares, compares}
use Rattle.scasp_num.specs.Values.{numerator_under, Holds, holds}
use Rattle.scasp_num.proofs.NormalForms.{zero_is}

pub ne_zero : (z : ℤ) → is_zero z ≡ false → z ≢ pos 0
ne_zero z e f = let g : is_zero (pos 0) ≡ false = subst (λ y. is_zero y ≡ false) f e in cc

pub compares-true : (o : Op) (z : ℤ) → Compares o z → compares o z ≡ true
compares-true op.Eq z h = ap is_zero h
compares-true op.Lt z h = grind (arith, ints)
compares-true op.Le z h = grind (arith, ints)
compares-true op.Ne (pos zero) h = absurd (h refl)
compares-true op.Ne (pos (suc n)) h = refl
compares-true op.Ne (negsuc n) h = refl

pub compares-is : (o : Op) (z : ℤ) → compares o z ≡ true → Compares o z
compares-is op.Eq z h = zero_is z h
compares-is op.Lt z h = grind (arith, ints)
compares-is op.Le z h = grind (arith, ints)
compares-is op.Ne z h = by z h
  where
    by : (z : ℤ) → not (is_zero z) ≡ true → z ≢ pos 0
    by (pos zero) h = cc
    by (pos (suc n)) h = ne_zero (pos (suc n)) refl
    by (negsuc n) h = ne_zero (negsuc n) refl

pub holds-decided : (v : ℕ → Number) (r : Linear) → IsTrue (holds v r) ↔ Holds v r
holds-decided v r = (compares-is r.op (numerator_under v r), compares-true r.op (numerator_under v r))
