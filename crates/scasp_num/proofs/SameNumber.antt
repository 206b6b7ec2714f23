-- Laws of numbers.
use Rattle.std.proofs.Common.{◌≡◌, ◌≢◌, zero, suc, ◌*◌, ℤ, pos, negsuc, ◌*ℤ◌, neg_ℤ, ◌<ℤ◌, unsigned_abs, refl, sym, ap, subst, ◌∙◌, arith}
use Rattle.std.specs.Int.{◌∣◌}
use Rattle.std.proofs.lemmas.Int.{ints, unsigned_abs-mul}
use Rattle.std.proofs.Math.Nat.{dvd_antisymm, dvd-mul_left}
use Rattle.std.proofs.Math.IntN.{neg_ℤ-neg_ℤ, *ℤ-negsuc}
use Rattle.scasp_num.specs.Number.{Number, IsFraction}
use Rattle.scasp_num.proofs.Gcds.{gcd_comm, dvd-coprime}
use Rattle.scasp_num.specs.Arithmetic.{number}
use Rattle.scasp_num.proofs.Numbers.{number-of, some-same}
use Rattle.scasp_num.proofs.Integers.{*ℤ_right_comm, *ℤ-cancel}

-- the denominator of one divides that of the other
den-dvd : (q r : Number) → q.num *ℤ r.den ≡ r.num *ℤ q.den → unsigned_abs q.den ∣ unsigned_abs r.den
den-dvd q r e =
    let same : unsigned_abs q.num * unsigned_abs r.den ≡ unsigned_abs r.num * unsigned_abs q.den = sym (unsigned_abs-mul q.num r.den) ∙ ap unsigned_abs e ∙ unsigned_abs-mul r.num q.den in
    dvd-coprime (unsigned_abs q.den) (unsigned_abs q.num) (unsigned_abs r.den) (gcd_comm (unsigned_abs q.den) (unsigned_abs q.num) ∙ q.reduced.lowest) (subst (λ x. unsigned_abs q.den ∣ x) (sym same) (dvd-mul_left (unsigned_abs q.den) (unsigned_abs r.num)))

-- a factor that is not 0 cancels
cancel : (a b c : ℤ) → c ≢ pos 0 → a *ℤ c ≡ b *ℤ c → a ≡ b
cancel a b (pos zero) h e = absurd (h refl)
cancel a b (pos (suc k)) h e = *ℤ-cancel a b (pos (suc k)) (omega (arith, ints)) e
cancel a b (negsuc k) h e = *ℤ-cancel a b (pos (suc k)) (omega (arith, ints)) (turned a ∙ ap neg_ℤ e ∙ sym (turned b))
  where
    turned : (z : ℤ) → z *ℤ pos (suc k) ≡ neg_ℤ (z *ℤ negsuc k)
    turned z = sym (neg_ℤ-neg_ℤ (z *ℤ pos (suc k))) ∙ ap neg_ℤ (sym (*ℤ-negsuc z k))

cross : (q r : Number) (n d : ℤ) → d ≢ pos 0 → IsFraction q n d → IsFraction r n d → q.num *ℤ r.den ≡ r.num *ℤ q.den
cross q r n d h e f =
    cancel (q.num *ℤ r.den) (r.num *ℤ q.den) d h (*ℤ_right_comm q.num r.den d ∙ ap (λ x. x *ℤ r.den) e ∙ *ℤ_right_comm n q.den r.den ∙ ap (λ x. x *ℤ q.den) (sym f) ∙ *ℤ_right_comm r.num d q.den)

same-size : (a b : ℤ) → pos 0 <ℤ a → pos 0 <ℤ b → unsigned_abs a ≡ unsigned_abs b → a ≡ b
same-size (pos m) (pos n) h k e = ap pos e
same-size (negsuc m) b h k e = absurd (omega (arith, ints))
same-size (pos m) (negsuc n) h k e = absurd (omega (arith, ints))

-- numbers that are the same fraction are equal
pub same_number : (q r : Number) (n d : ℤ) → d ≢ pos 0 → IsFraction q n d → IsFraction r n d → q ≡ r
same_number q r n d h e f =
    let all : q.num *ℤ r.den ≡ r.num *ℤ q.den = cross q r n d h e f in
    let den : q.den ≡ r.den = same-size q.den r.den q.reduced.positive r.reduced.positive (dvd_antisymm (den-dvd q r all) (den-dvd r q (sym all))) in
    let num : q.num ≡ r.num = *ℤ-cancel q.num r.num r.den r.reduced.positive (all ∙ ap (λ x. r.num *ℤ x) den) in
    some-same (number-of q ∙ (λ i. number (num i) (den i)) ∙ sym (number-of r))
