-- What rows mean: their sums, and that the normal form and the negation keep it.
use Rattle.std.proofs.Common.{◌≡◌, ◌↔◌, ℕ, zero, suc, ◌*◌, ◌<◌, Bool, true, false, not, ◌&&◌, ℤ, pos, negsuc, ◌+ℤ◌, ◌*ℤ◌, neg_ℤ, ◌<ℤ◌, ◌≤ℤ◌, unsigned_abs, int_div, List, [], ◌∷◌, refl, sym, ap, subst, ◌∙◌, arith}
use Rattle.std.specs.Prelude.{if◌then◌else◌}
use Rattle.std.specs.Int.{◌∣◌}
use Rattle.std.proofs.Math.Nat.{mul-pos}
use Rattle.std.proofs.Math.IntN.{neg_ℤ-neg_ℤ, *ℤ_comm, +ℤ_idl, zero-*ℤ, neg_ℤ-+ℤ}
use Rattle.std.proofs.lemmas.Int.{ints}
use Rattle.scasp_num.specs.declared.linear.Coeff.{Coeff}
use Rattle.scasp_num.specs.declared.linear.Op.{Op}
use Rattle.scasp_num.specs.declared.linear.Op.TheVariants as op
use Rattle.scasp_list.specs.Each.{Each}
use Rattle.scasp_num.specs.Linear.{Linear, divisor, is_zero, is_symmetric, is_negated, negated_if, shares, normal_form, weighted, Compares, Meets, negation, negated, opposite}
use Rattle.scasp_num.proofs.Integers.{*ℤ_right_comm, +ℤ-*ℤ, neg-*ℤ, *ℤ-cancel}
use Rattle.scasp_num.proofs.Exact.{over-times}
use Rattle.scasp_num.proofs.NormalForms.{share, divisor-dvd, divisor-above, zero_is}

*ℤ-neg : (a b : ℤ) → a *ℤ neg_ℤ b ≡ neg_ℤ (a *ℤ b)
*ℤ-neg a b = *ℤ_comm a (neg_ℤ b) ∙ neg-*ℤ b a ∙ ap neg_ℤ (*ℤ_comm b a)

-- what the shares are to be multiplied by
abbrev factor : Bool → ℕ → ℤ
factor n g = negated_if n (pos g)

share-times : (n : Bool) (g : ℕ) (c : ℤ) → g ∣ unsigned_abs c → share n g c *ℤ factor n g ≡ c
share-times false g c d = over-times c g d
share-times true g c d = neg-*ℤ (int_div c (pos g)) (neg_ℤ (pos g)) ∙ ap neg_ℤ (*ℤ-neg (int_div c (pos g)) (pos g)) ∙ neg_ℤ-neg_ℤ (int_div c (pos g) *ℤ pos g) ∙ over-times c g d

term-times : (a x s c : ℤ) → a *ℤ s ≡ c → (a *ℤ x) *ℤ s ≡ c *ℤ x
term-times a x s c e = *ℤ_right_comm a x s ∙ ap (λ y. y *ℤ x) e

shares-times : (n : Bool) (g : ℕ) (m : ℕ → ℤ) (ks : List Coeff) → Each (λ k. g ∣ unsigned_abs k.c) ks → weighted m (shares n g ks) *ℤ factor n g ≡ weighted m ks
shares-times n g m [] d = zero-*ℤ (factor n g)
shares-times n g m (k ∷ ks) d = by (is_zero k.c) refl (shares-times n g m ks d.1)
  where
    by : (t : Bool) → is_zero k.c ≡ t → weighted m (shares n g ks) *ℤ factor n g ≡ weighted m ks → weighted m (if t then shares n g ks else (record { x = k.x; c = share n g k.c } ∷ shares n g ks)) *ℤ factor n g ≡ k.c *ℤ m k.x +ℤ weighted m ks
    by true z e = e ∙ sym (+ℤ_idl (weighted m ks)) ∙ ap (λ x. x +ℤ weighted m ks) (sym (ap (λ c. c *ℤ m k.x) (zero_is k.c z) ∙ zero-*ℤ (m k.x)))
    by false z e = +ℤ-*ℤ (share n g k.c *ℤ m k.x) (weighted m (shares n g ks)) (factor n g) ∙ (λ i. term-times (share n g k.c) (m k.x) (factor n g) k.c (share-times n g k.c d.0) i +ℤ e i)

-- the whole sum of the normal form, times the factor, is that of the row
normal_form-sum : (r : Linear) (m : ℕ → ℤ) (d : ℤ) → (weighted m (shares (is_negated r) (divisor r) r.coeffs) +ℤ share (is_negated r) (divisor r) r.constant *ℤ d) *ℤ factor (is_negated r) (divisor r) ≡ weighted m r.coeffs +ℤ r.constant *ℤ d
normal_form-sum r m d =
    let n = is_negated r in
    let g = divisor r in
    let v = divisor-dvd r in
    +ℤ-*ℤ (weighted m (shares n g r.coeffs)) (share n g r.constant *ℤ d) (factor n g) ∙ (λ i. shares-times n g m r.coeffs v.1 i +ℤ term-times (share n g r.constant) d (factor n g) r.constant (share-times n g r.constant v.0) i)

zero-from_times : (z : ℤ) (n : Bool) (g : ℕ) → 0 < g → z *ℤ factor n g ≡ pos 0 → z ≡ pos 0
zero-from_times z false g h e = *ℤ-cancel z (pos 0) (pos g) (omega (arith, ints)) (e ∙ sym (zero-*ℤ (pos g)))
zero-from_times z true g h e =
    let f : z *ℤ pos g ≡ pos 0 = sym (neg_ℤ-neg_ℤ (z *ℤ pos g)) ∙ ap neg_ℤ (sym (*ℤ-neg z (pos g)) ∙ e) in
    *ℤ-cancel z (pos 0) (pos g) (omega (arith, ints)) (f ∙ sym (zero-*ℤ (pos g)))

below-times : (z : ℤ) (g : ℕ) → 0 < g → (z <ℤ pos 0) ↔ ((z *ℤ pos g) <ℤ pos 0)
below-times (pos a) g h = (λ p. absurd (omega (arith, ints)), λ p. absurd (omega (arith, ints)))
below-times (negsuc a) g h = let m : 0 < suc a * g = mul-pos (omega arith) h in (λ p. omega (arith, ints), λ p. omega (arith, ints))

most-times : (z : ℤ) (g : ℕ) → 0 < g → (z ≤ℤ pos 0) ↔ ((z *ℤ pos g) ≤ℤ pos 0)
most-times (pos zero) g h = (λ p. omega (arith, ints), λ p. omega (arith, ints))
most-times (pos (suc a)) g h = let m : 0 < suc a * g = mul-pos (omega arith) h in (λ p. absurd (omega (arith, ints)), λ p. absurd (omega (arith, ints)))
most-times (negsuc a) g h = (λ p. omega (arith, ints), λ p. omega (arith, ints))

compares-times : (o : Op) (n : Bool) (g : ℕ) (z w : ℤ) → 0 < g → (n ≡ true → is_symmetric o ≡ true) → z *ℤ factor n g ≡ w → Compares o z ↔ Compares o w
compares-times op.Eq n g z w h s e = (λ p. sym e ∙ ap (λ x. x *ℤ factor n g) p ∙ zero-*ℤ (factor n g), λ p. zero-from_times z n g h (e ∙ p))
compares-times op.Ne n g z w h s e = (λ p q. p (zero-from_times z n g h (e ∙ q)), λ p q. p (sym e ∙ ap (λ x. x *ℤ factor n g) q ∙ zero-*ℤ (factor n g)))
compares-times op.Lt false g z w h s e = let b = below-times z g h in (λ p. subst (λ x. x <ℤ pos 0) e (b.0 p), λ p. b.1 (subst (λ x. x <ℤ pos 0) (sym e) p))
compares-times op.Lt true g z w h s e = let f = s refl in cc
compares-times op.Le false g z w h s e = let b = most-times z g h in (λ p. subst (λ x. x ≤ℤ pos 0) e (b.0 p), λ p. b.1 (subst (λ x. x ≤ℤ pos 0) (sym e) p))
compares-times op.Le true g z w h s e = let f = s refl in cc

pub compares-scaled : (op : Op) (x k : ℤ) → pos 0 <ℤ k → Compares op x ↔ Compares op (x *ℤ k)
compares-scaled op x (pos g) h = compares-times op false g x (x *ℤ pos g) (omega (arith, ints)) (λ e. cc) refl
compares-scaled op x (negsuc g) h = absurd (omega (arith, ints))

first-true : (a b : Bool) → (a && b) ≡ true → a ≡ true
first-true true b e = refl
first-true false b e = e

-- the normal form is met by the same values
pub normal_form-meets : (r : Linear) (m : ℕ → ℤ) (d : ℤ) → Meets m d (normal_form r) ↔ Meets m d r
unfolding normal_form
normal_form-meets r m d =
    compares-times r.op (is_negated r) (divisor r) (weighted m (shares (is_negated r) (divisor r) r.coeffs) +ℤ share (is_negated r) (divisor r) r.constant *ℤ d) (weighted m r.coeffs +ℤ r.constant *ℤ d) (divisor-above r) (first-true (is_symmetric r.op) _) (normal_form-sum r m d)

pub normal_form-meets_of : (r row : Linear) → row ≡ normal_form r → (m : ℕ → ℤ) (d : ℤ) → Meets m d row ↔ Meets m d r
normal_form-meets_of r row e m d = subst (λ (x : Linear). Meets m d x ↔ Meets m d r) (sym e) (normal_form-meets r m d)

-- ---- the negation is met exactly where the row is not

negated-weighted : (n : Bool) (m : ℕ → ℤ) (ks : List Coeff) → weighted m (negated n ks) ≡ negated_if n (weighted m ks)
negated-weighted false m [] = refl
negated-weighted true m [] = refl
negated-weighted false m (k ∷ ks) = ap (λ x. k.c *ℤ m k.x +ℤ x) (negated-weighted false m ks)
negated-weighted true m (k ∷ ks) = (λ i. neg-*ℤ k.c (m k.x) i +ℤ negated-weighted true m ks i) ∙ sym (neg_ℤ-+ℤ (k.c *ℤ m k.x) (weighted m ks))

negation-sum : (n : Bool) (m : ℕ → ℤ) (d c : ℤ) (ks : List Coeff) → weighted m (negated n ks) +ℤ negated_if n c *ℤ d ≡ negated_if n (weighted m ks +ℤ c *ℤ d)
negation-sum false m d c ks = ap (λ x. x +ℤ c *ℤ d) (negated-weighted false m ks)
negation-sum true m d c ks = (λ i. negated-weighted true m ks i +ℤ neg-*ℤ c d i) ∙ sym (neg_ℤ-+ℤ (weighted m ks) (c *ℤ d))

twice : (z : ℤ) → ¬ ¬ (z ≡ pos 0) → z ≡ pos 0
twice (pos zero) h = refl
twice (pos (suc n)) h = absurd (h (λ e. cc))
twice (negsuc n) h = absurd (h (λ e. cc))

not-below : (z w : ℤ) → w ≡ neg_ℤ z → (w ≤ℤ pos 0) ↔ (¬ (z <ℤ pos 0))
not-below (pos n) w e = (λ p q. absurd (omega (arith, ints)), λ p. omega (arith, ints))
not-below (negsuc n) w e = (λ p q. absurd (omega (arith, ints)), λ p. absurd (p (omega (arith, ints))))

not-most : (z w : ℤ) → w ≡ neg_ℤ z → (w <ℤ pos 0) ↔ (¬ (z ≤ℤ pos 0))
not-most (pos zero) w e = (λ p q. absurd (omega (arith, ints)), λ p. absurd (p (omega (arith, ints))))
not-most (pos (suc n)) w e = (λ p q. absurd (omega (arith, ints)), λ p. omega (arith, ints))
not-most (negsuc n) w e = (λ p q. absurd (omega (arith, ints)), λ p. absurd (p (omega (arith, ints))))

negation-compares : (o : Op) (z w : ℤ) → w ≡ negated_if (not (is_symmetric o)) z → Compares (opposite o) w ↔ (¬ Compares o z)
negation-compares op.Eq z w e = (λ p q. p (e ∙ q), λ p q. p (sym e ∙ q))
negation-compares op.Ne z w e = (λ p q. q (sym e ∙ p), λ p. e ∙ twice z p)
negation-compares op.Lt z w e = not-below z w e
negation-compares op.Le z w e = not-most z w e

pub negation-meets : (r row : Linear) → row ≡ negation r → (m : ℕ → ℤ) (d : ℤ) → Meets m d row ↔ (¬ Meets m d r)
negation-meets r row e m d =
    subst (λ (x : Linear). Meets m d x ↔ (¬ Meets m d r)) (sym e) (negation-compares r.op (weighted m r.coeffs +ℤ r.constant *ℤ d) _ (negation-sum (not (is_symmetric r.op)) m d r.constant r.coeffs))
