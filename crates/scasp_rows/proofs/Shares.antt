-- What two coefficients are divided by, and the multipliers that are made of them.
use Rattle.std.proofs.Common.{◌≡◌, ◌≢◌, ℕ, zero, suc, ◌<◌, max, Bool, true, false, not, ℤ, pos, negsuc, ◌*ℤ◌, ◌<ℤ◌, unsigned_abs, int_div, refl, sym, ap, subst, ◌∙◌, arith}
use Rattle.std.specs.Prelude.{int_lt}
use Rattle.std.specs.Int.{◌∣◌}
use Rattle.std.proofs.lemmas.Int.{ints}
use Rattle.std.proofs.Math.Nat.{le-max_right, div-mul_cancel, one-dvd}
use Rattle.std.proofs.Math.IntN.{zero-*ℤ}
use Rattle.scasp_num.specs.Gcd.{gcd}
use Rattle.scasp_num.specs.Linear.{negated_if}
use Rattle.scasp_num.proofs.Gcds.{gcd-is}
use Rattle.scasp_num.proofs.Integers.{neg-*ℤ}
use Rattle.scasp_num.proofs.Numbers.{unsigned_abs-pos, div-pos}
use Rattle.scasp_num.proofs.Exact.{over-times}
use Rattle.scasp_rows.specs.Elimination.{share, size_over, against}

pub share-above : (a b : ℤ) → 0 < share a b
share-above a b = let h = le-max_right (gcd (unsigned_abs a) (unsigned_abs b)) 1 in omega (arith, h)

divides : (g n : ℕ) → g ∣ n → max g 1 ∣ n
divides zero n h = one-dvd n
divides (suc g) n h = let e : max (suc g) 1 ≡ suc g = omega arith in subst (λ k. k ∣ n) (sym e) h

pub share-dvd_left : (a b : ℤ) → share a b ∣ unsigned_abs a
share-dvd_left a b = divides (gcd (unsigned_abs a) (unsigned_abs b)) (unsigned_abs a) (gcd-is (unsigned_abs a) (unsigned_abs b)).0

pub share-dvd_right : (a b : ℤ) → share a b ∣ unsigned_abs b
share-dvd_right a b = divides (gcd (unsigned_abs a) (unsigned_abs b)) (unsigned_abs b) (gcd-is (unsigned_abs a) (unsigned_abs b)).1

-- the multiplier |a|/g is above 0
pub size_over-above : (a : ℤ) (g : ℕ) → a ≢ pos 0 → g ∣ unsigned_abs a → pos 0 <ℤ size_over a g
size_over-above a g n d = let h = div-pos (unsigned_abs a) g d (unsigned_abs-pos a n) in omega (arith, ints, h)

pub size_over-times : (a : ℤ) (g : ℕ) → g ∣ unsigned_abs a → size_over a g *ℤ pos g ≡ pos (unsigned_abs a)
size_over-times a g d = ap pos (div-mul_cancel g d)

-- the sign turned where a is not below 0
abbrev pub turned : ℤ → ℤ → ℤ
turned a z = negated_if (not (int_lt a (pos 0))) z

turned-by_times : (t : Bool) (z k : ℤ) → negated_if t z *ℤ k ≡ negated_if t (z *ℤ k)
turned-by_times true z k = neg-*ℤ z k
turned-by_times false z k = refl

pub against-times : (a b : ℤ) (g : ℕ) → g ∣ unsigned_abs b → against a b g *ℤ pos g ≡ turned a b
against-times a b g d =
    let t = not (int_lt a (pos 0)) in
    turned-by_times t (int_div b (pos g)) (pos g) ∙ ap (negated_if t) (over-times b g d)

turned-zero : (t : Bool) (z : ℤ) → negated_if t z ≡ pos 0 → z ≡ pos 0
turned-zero false z e = e
turned-zero true (pos zero) e = refl
turned-zero true (pos (suc n)) e = cc
turned-zero true (negsuc n) e = cc

-- the multiplier of the equation is not 0
pub against-nonzero : (a b : ℤ) (g : ℕ) → b ≢ pos 0 → g ∣ unsigned_abs b → against a b g ≢ pos 0
against-nonzero a b g n d e =
    let t = not (int_lt a (pos 0)) in
    n (turned-zero t b (sym (against-times a b g d) ∙ ap (λ z. z *ℤ pos g) e ∙ zero-*ℤ (pos g)))
