-- Whole numbers that meet upper and lower bounds: what each choice of a value makes of the sums.
use Rattle.std.proofs.Common.{◌≡◌, ◌≢◌, suc, Bool, true, false, not, ℤ, pos, negsuc, ◌+ℤ◌, ◌*ℤ◌, neg_ℤ, ◌<ℤ◌, ◌≤ℤ◌, unsigned_abs, refl, sym, ap, subst, ◌∙◌, arith}
use Rattle.std.specs.Prelude.{int_lt}
use Rattle.std.proofs.lemmas.Int.{ints}
use Rattle.std.proofs.Math.IntN.{*ℤ_comm}
use Rattle.scasp_num.specs.declared.linear.Op.{Op}
use Rattle.scasp_num.specs.declared.linear.Op.TheVariants as op
use Rattle.scasp_num.specs.Linear.{Compares, is_equation, negated_if}
use Rattle.scasp_num.proofs.Integers.{*ℤ_assoc, *ℤ-+ℤ, +ℤ-*ℤ, neg-*ℤ}
use Rattle.scasp_num.proofs.Numbers.{times-pos, below-zero}
use Rattle.scasp_num.proofs.Meaning.{compares-scaled}
use Rattle.scasp_rows.proofs.Shares.{turned}

*ℤ-neg : (a b : ℤ) → a *ℤ neg_ℤ b ≡ neg_ℤ (a *ℤ b)
*ℤ-neg a b = *ℤ_comm a (neg_ℤ b) ∙ neg-*ℤ b a ∙ ap neg_ℤ (*ℤ_comm b a)

-- ---- bounds

-- what is below, and something that is not above 0
pub lowered : (o : Op) (y z w : ℤ) → is_equation o ≡ false → o ≢ op.Ne → Compares o y → z ≤ℤ pos 0 → w ≡ y +ℤ z → Compares o w
lowered op.Eq y z w e n h k f = cc
lowered op.Lt y z w e n h k f = omega (arith, ints)
lowered op.Le y z w e n h k f = omega (arith, ints)
lowered op.Ne y z w e n h k f = absurd (n refl)

pub below-compares : (o : Op) (z : ℤ) → is_equation o ≡ false → o ≢ op.Ne → z <ℤ pos 0 → Compares o z
below-compares op.Eq z e n h = cc
below-compares op.Lt z e n h = h
below-compares op.Le z e n h = omega (arith, ints)
below-compares op.Ne z e n h = absurd (n refl)

middle : (A k B b C a : ℤ) → A *ℤ (a *ℤ b +ℤ a *ℤ b) +ℤ neg_ℤ k *ℤ (B *ℤ a +ℤ neg_ℤ (C *ℤ b)) ≡ (a *ℤ A +ℤ k *ℤ C) *ℤ b +ℤ (A *ℤ b +ℤ neg_ℤ (B *ℤ k)) *ℤ a
middle A k B b C a =
    let e1 = +ℤ-*ℤ (a *ℤ A) (k *ℤ C) b in
    let e2 = +ℤ-*ℤ (A *ℤ b) (neg_ℤ (B *ℤ k)) a in
    let e3 = neg-*ℤ (B *ℤ k) a in
    let e4 = *ℤ-+ℤ A (a *ℤ b) (a *ℤ b) in
    let e5 = neg-*ℤ k (B *ℤ a +ℤ neg_ℤ (C *ℤ b)) in
    let e6 = *ℤ-+ℤ k (B *ℤ a) (neg_ℤ (C *ℤ b)) in
    let e7 = *ℤ-neg k (C *ℤ b) in
    let m1 : (a *ℤ A) *ℤ b ≡ A *ℤ (a *ℤ b) = ap (λ z. z *ℤ b) (*ℤ_comm a A) ∙ *ℤ_assoc A a b in
    let m2 : (A *ℤ b) *ℤ a ≡ A *ℤ (a *ℤ b) = *ℤ_assoc A b a ∙ ap (λ z. A *ℤ z) (*ℤ_comm b a) in
    let m3 : (B *ℤ k) *ℤ a ≡ k *ℤ (B *ℤ a) = ap (λ z. z *ℤ a) (*ℤ_comm B k) ∙ *ℤ_assoc k B a in
    let m4 = *ℤ_assoc k C b in
    omega (arith, ints, e1, e2, e3, e4, e5, e6, e7, m1, m2, m3, m4)

-- between the tightest lower bound -B/b and the tightest upper bound C/a, a lower row is met
pub middle-low : (o : Op) (A k B b C a : ℤ) → is_equation o ≡ false → o ≢ op.Ne → pos 0 <ℤ a → pos 0 <ℤ b → Compares o (a *ℤ A +ℤ k *ℤ C) → (A *ℤ b) ≤ℤ (B *ℤ k) → Compares o (A *ℤ (a *ℤ b +ℤ a *ℤ b) +ℤ neg_ℤ k *ℤ (B *ℤ a +ℤ neg_ℤ (C *ℤ b)))
middle-low o A k B b C a e n ha hb h t =
    let z = A *ℤ b +ℤ neg_ℤ (B *ℤ k) in
    let most : z ≤ℤ pos 0 = omega (arith, ints) in
    lowered o ((a *ℤ A +ℤ k *ℤ C) *ℤ b) (z *ℤ a) _ e n ((compares-scaled o (a *ℤ A +ℤ k *ℤ C) b hb).0 h) ((compares-scaled op.Le z a ha).0 most) (middle A k B b C a)

-- and so is an upper row
pub middle-high : (o : Op) (A k B b C a : ℤ) → is_equation o ≡ false → o ≢ op.Ne → pos 0 <ℤ a → pos 0 <ℤ b → Compares o (b *ℤ A +ℤ k *ℤ B) → (A *ℤ a) ≤ℤ (C *ℤ k) → Compares o (A *ℤ (a *ℤ b +ℤ a *ℤ b) +ℤ k *ℤ (B *ℤ a +ℤ neg_ℤ (C *ℤ b)))
middle-high o A k B b C a e n ha hb h t =
    let e1 : A *ℤ (b *ℤ a +ℤ b *ℤ a) ≡ A *ℤ (a *ℤ b +ℤ a *ℤ b) = ap (λ z. A *ℤ (z +ℤ z)) (*ℤ_comm b a) in
    let e2 = neg-*ℤ k (C *ℤ b +ℤ neg_ℤ (B *ℤ a)) in
    let e3 = *ℤ-+ℤ k (C *ℤ b) (neg_ℤ (B *ℤ a)) in
    let e4 = *ℤ-neg k (B *ℤ a) in
    let e5 = *ℤ-+ℤ k (B *ℤ a) (neg_ℤ (C *ℤ b)) in
    let e6 = *ℤ-neg k (C *ℤ b) in
    let same : A *ℤ (b *ℤ a +ℤ b *ℤ a) +ℤ neg_ℤ k *ℤ (C *ℤ b +ℤ neg_ℤ (B *ℤ a)) ≡ A *ℤ (a *ℤ b +ℤ a *ℤ b) +ℤ k *ℤ (B *ℤ a +ℤ neg_ℤ (C *ℤ b)) = omega (arith, ints, e1, e2, e3, e4, e5, e6) in
    subst (Compares o) same (middle-low o A k C a B b e n hb ha h t)

-- above the tightest lower bound -B/b by one, a lower row is met
pub above-low : (A k B b : ℤ) → pos 0 <ℤ k → pos 0 <ℤ b → (A *ℤ b) ≤ℤ (B *ℤ k) → (A *ℤ b +ℤ neg_ℤ k *ℤ (B +ℤ b)) <ℤ pos 0
above-low A k B b hk hb t =
    let e1 = neg-*ℤ k (B +ℤ b) in
    let e2 = *ℤ-+ℤ k B b in
    let e3 = *ℤ_comm k B in
    let h = times-pos k b hk hb in
    omega (arith, ints, e1, e2, e3, h)

-- below the tightest upper bound by one, an upper row is met
pub below-high : (A k C a : ℤ) → pos 0 <ℤ k → pos 0 <ℤ a → (A *ℤ a) ≤ℤ (C *ℤ k) → (A *ℤ a +ℤ k *ℤ neg_ℤ (C +ℤ a)) <ℤ pos 0
below-high A k C a hk ha t =
    let e1 = *ℤ-neg k (C +ℤ a) in
    let e2 = *ℤ-+ℤ k C a in
    let e3 = *ℤ_comm k C in
    let h = times-pos k a hk ha in
    omega (arith, ints, e1, e2, e3, h)

-- ---- an order of fractions A/k

pub fractions-chain : (A k B b C c : ℤ) → pos 0 <ℤ b → pos 0 <ℤ k → pos 0 <ℤ c → (A *ℤ b) ≤ℤ (B *ℤ k) → (B *ℤ c) ≤ℤ (C *ℤ b) → (A *ℤ c) ≤ℤ (C *ℤ k)
fractions-chain A k B b C c hb hk hc s t =
    let y = A *ℤ b +ℤ neg_ℤ (B *ℤ k) in
    let z = B *ℤ c +ℤ neg_ℤ (C *ℤ b) in
    let y0 : y ≤ℤ pos 0 = omega (arith, ints) in
    let z0 : z ≤ℤ pos 0 = omega (arith, ints) in
    let yc = (compares-scaled op.Le y c hc).0 y0 in
    let zk = (compares-scaled op.Le z k hk).0 z0 in
    let e1 = +ℤ-*ℤ (A *ℤ b) (neg_ℤ (B *ℤ k)) c in
    let e2 = neg-*ℤ (B *ℤ k) c in
    let e3 = +ℤ-*ℤ (B *ℤ c) (neg_ℤ (C *ℤ b)) k in
    let e4 = neg-*ℤ (C *ℤ b) k in
    let w = A *ℤ c +ℤ neg_ℤ (C *ℤ k) in
    let e5 = +ℤ-*ℤ (A *ℤ c) (neg_ℤ (C *ℤ k)) b in
    let e6 = neg-*ℤ (C *ℤ k) b in
    let m1 : (A *ℤ b) *ℤ c ≡ (A *ℤ c) *ℤ b = *ℤ_assoc A b c ∙ ap (λ z. A *ℤ z) (*ℤ_comm b c) ∙ sym (*ℤ_assoc A c b) in
    let m2 : (B *ℤ c) *ℤ k ≡ (B *ℤ k) *ℤ c = *ℤ_assoc B c k ∙ ap (λ z. B *ℤ z) (*ℤ_comm c k) ∙ sym (*ℤ_assoc B k c) in
    let m3 : (C *ℤ b) *ℤ k ≡ (C *ℤ k) *ℤ b = *ℤ_assoc C b k ∙ ap (λ z. C *ℤ z) (*ℤ_comm b k) ∙ sym (*ℤ_assoc C k b) in
    let wb : (w *ℤ b) ≤ℤ pos 0 = omega (arith, ints, e1, e2, e3, e4, e5, e6, m1, m2, m3, yc, zk) in
    let w0 : w ≤ℤ pos 0 = (compares-scaled op.Le w b hb).1 wb in
    omega (arith, ints, w0)

-- ---- equations

pub cancelled : (b A : ℤ) → A *ℤ b +ℤ b *ℤ neg_ℤ A ≡ pos 0
cancelled b A =
    let e = *ℤ-neg b A in
    let f = *ℤ_comm A b in
    omega (arith, ints, e, f)

cancelled-over : (b A : ℤ) → A *ℤ b +ℤ neg_ℤ (b *ℤ A) ≡ pos 0
cancelled-over b A = let f = *ℤ_comm A b in omega (arith, ints, f)

pub solved-equation : (a A : ℤ) → A *ℤ pos (unsigned_abs a) +ℤ a *ℤ turned a A ≡ pos 0
solved-equation (pos n) A =
    let t : turned (pos n) A ≡ neg_ℤ A = ap (λ b. negated_if (not b) A) (below-zero n) in
    ap (λ z. A *ℤ pos n +ℤ pos n *ℤ z) t ∙ cancelled (pos n) A
solved-equation (negsuc n) A = ap (λ z. A *ℤ pos (suc n) +ℤ z) (neg-*ℤ (pos (suc n)) A) ∙ cancelled-over (pos (suc n)) A

turned-over : (t : Bool) (b A : ℤ) → negated_if t b *ℤ A ≡ b *ℤ negated_if t A
turned-over true b A = neg-*ℤ b A ∙ sym (*ℤ-neg b A)
turned-over false b A = refl

-- the multiple of a row and an equation, times g, is the row at the equation's solution
pub solved-row : (S T g a b A P : ℤ) → S *ℤ g ≡ pos (unsigned_abs a) → T *ℤ g ≡ turned a b → (S *ℤ A +ℤ T *ℤ P) *ℤ g ≡ A *ℤ pos (unsigned_abs a) +ℤ b *ℤ turned a P
solved-row S T g a b A P e f =
    let n = pos (unsigned_abs a) in
    let m1 : (S *ℤ A) *ℤ g ≡ A *ℤ n = ap (λ z. z *ℤ g) (*ℤ_comm S A) ∙ *ℤ_assoc A S g ∙ ap (λ z. A *ℤ z) e in
    let m2 : (T *ℤ P) *ℤ g ≡ b *ℤ turned a P = ap (λ z. z *ℤ g) (*ℤ_comm T P) ∙ *ℤ_assoc P T g ∙ ap (λ z. P *ℤ z) f ∙ *ℤ_comm P (turned a b) ∙ turned-over (not (int_lt a (pos 0))) b P in
    +ℤ-*ℤ (S *ℤ A) (T *ℤ P) g ∙ (λ i. m1 i +ℤ m2 i)

-- the multiples of two rows, times g
pub met-rows : (S T g a b A P : ℤ) → S *ℤ g ≡ a → T *ℤ g ≡ b → (S *ℤ A +ℤ T *ℤ P) *ℤ g ≡ a *ℤ A +ℤ b *ℤ P
met-rows S T g a b A P e f =
    let m1 : (S *ℤ A) *ℤ g ≡ a *ℤ A = ap (λ z. z *ℤ g) (*ℤ_comm S A) ∙ *ℤ_assoc A S g ∙ ap (λ z. A *ℤ z) e ∙ *ℤ_comm A a in
    let m2 : (T *ℤ P) *ℤ g ≡ b *ℤ P = ap (λ z. z *ℤ g) (*ℤ_comm T P) ∙ *ℤ_assoc P T g ∙ ap (λ z. P *ℤ z) f ∙ *ℤ_comm P b in
    +ℤ-*ℤ (S *ℤ A) (T *ℤ P) g ∙ (λ i. m1 i +ℤ m2 i)
