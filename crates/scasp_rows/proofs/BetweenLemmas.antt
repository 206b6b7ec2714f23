-- A value between lower and upper bounds, all strict or not.
use Rattle.std.proofs.Common.{◌≡◌, ◌≢◌, Bool, true, false, ◌||◌, ℤ, pos, ◌+ℤ◌, ◌*ℤ◌, neg_ℤ, ◌<ℤ◌, ◌≤ℤ◌, List, [], ◌∷◌, refl, subst, arith}
use Rattle.std.proofs.lemmas.Int.{ints, by_lt_z}
use Rattle.scasp_list.specs.Each.{Each}
use Rattle.scasp_list.proofs.EachLemmas.{Each-both, Each-map}
use Rattle.scasp_num.specs.declared.linear.Op.TheVariants as op
use Rattle.scasp_num.specs.Linear.{Compares, is_equation}
use Rattle.scasp_num.proofs.Numbers.{times-pos}
use Rattle.scasp_rows.proofs.Bounds.{below-compares, middle-low, middle-high, above-low, below-high, fractions-chain}
use Rattle.scasp_rows.specs.PlainRows.{Plain, comparison}

inequality : (b : Bool) → is_equation (comparison b) ≡ false
inequality true = refl
inequality false = refl

pub comparing : (b : Bool) → comparison b ≢ op.Ne
comparing true e = cc
comparing false e = cc

left-compares : (b c : Bool) (z : ℤ) → Compares (comparison (b || c)) z → Compares (comparison b) z
left-compares true c z h = h
left-compares false true z h = omega (arith, ints)
left-compares false false z h = h

right-compares : (b c : Bool) (z : ℤ) → Compares (comparison (b || c)) z → Compares (comparison c) z
right-compares true true z h = h
right-compares true false z h = omega (arith, ints)
right-compares false c z h = h

-- the value of a row but for one variable, and the size of that variable's coefficient, are V and S

abbrev pub Sized : (Plain → ℤ) → Plain → Type 0
Sized S r = pos 0 <ℤ S r

-- a lower row and an upper row are met where the variable has the value z/e
abbrev pub LowMet : (Plain → ℤ) → (Plain → ℤ) → ℤ → ℤ → Plain → Type 0
LowMet V S e z r = Compares (comparison r.is_strict) (V r *ℤ e +ℤ neg_ℤ (S r) *ℤ z)

abbrev pub HighMet : (Plain → ℤ) → (Plain → ℤ) → ℤ → ℤ → Plain → Type 0
HighMet V S e z r = Compares (comparison r.is_strict) (V r *ℤ e +ℤ S r *ℤ z)

-- they allow a value between them
abbrev pub Meeting : (Plain → ℤ) → (Plain → ℤ) → Plain → Plain → Type 0
Meeting V S l u = Compares (comparison (l.is_strict || u.is_strict)) (S u *ℤ V l +ℤ S l *ℤ V u)

-- q bounds no more tightly than t
abbrev AtMost : (Plain → ℤ) → (Plain → ℤ) → Plain → Plain → Type 0
AtMost V S t q = (V q *ℤ S t) ≤ℤ (V t *ℤ S q)

-- a row that bounds as tightly as any of the list
tightest : (V S : Plain → ℤ) (P : Plain → Type 0) (r : Plain) (rs : List Plain) → Each (Sized S) (r ∷ rs) → Each P (r ∷ rs) → (t : Plain) × P t × Sized S t × Each (AtMost V S t) (r ∷ rs)
tightest V S P r [] b h = (r, h.0, b.0, (omega (arith, ints), tt))
tightest V S P r (s ∷ ss) b h =
    let u = tightest V S P s ss b.1 h.1 in
    let t = u.0 in
    by_lt_z (V t *ℤ S r) (V r *ℤ S t)
    (λ less.
    let least : (V t *ℤ S r) ≤ℤ (V r *ℤ S t) = omega (arith, ints, less) in
    (r, h.0, b.0, (omega (arith, ints), each r t b.0 u.2 least (s ∷ ss) b.1 u.3)))
    (λ most. (t, u.1, u.2, (most, u.3)))
  where
    each : (r t : Plain) → Sized S r → Sized S t → (V t *ℤ S r) ≤ℤ (V r *ℤ S t) → (qs : List Plain) → Each (Sized S) qs → Each (AtMost V S t) qs → Each (AtMost V S r) qs
    each r t br bt least [] b h = tt
    each r t br bt least (q ∷ qs) b h = (
      fractions-chain (V q) (S q) (V t) (S t) (V r) (S r) bt b.0 br h.0 least,
      each r t br bt least qs b.1 h.1,
    )

abbrev pub Solution : (Plain → ℤ) → (Plain → ℤ) → List Plain → List Plain → Type 0
Solution V S ls us = (e : ℤ) × (z : ℤ) × (pos 0 <ℤ e) × Each (LowMet V S e z) ls × Each (HighMet V S e z) us

-- where each lower row meets each upper row, one value meets all of them
pub solution : (V S : Plain → ℤ) (ls us : List Plain) → Each (Sized S) ls → Each (Sized S) us → Each (λ l. Each (Meeting V S l) us) ls → Solution V S ls us
solution V S [] [] bl bu h = (pos 1, pos 0, omega (arith, ints), tt, tt)
solution V S (l ∷ ls) [] bl bu h =
    let u = tightest V S (Sized S) l ls bl bl in
    let t = u.0 in
    let z = V t +ℤ S t in (
      S t,
      z,
      u.2,
      Each-map (λ q. Sized S q × AtMost V S t q) (LowMet V S (S t) z)
          (λ q k. below-compares (comparison q.is_strict) _ (inequality q.is_strict) (comparing q.is_strict) (above-low (V q) (S q) (V t) (S t) k.0 u.2 k.1))
          (l ∷ ls) (Each-both (Sized S) (AtMost V S t) (l ∷ ls) bl u.3),
      tt,
    )
solution V S [] (u ∷ us) bl bu h =
    let v = tightest V S (Sized S) u us bu bu in
    let t = v.0 in
    let z = neg_ℤ (V t +ℤ S t) in (
      S t,
      z,
      v.2,
      tt,
      Each-map (λ q. Sized S q × AtMost V S t q) (HighMet V S (S t) z)
          (λ q k. below-compares (comparison q.is_strict) _ (inequality q.is_strict) (comparing q.is_strict) (below-high (V q) (S q) (V t) (S t) k.0 v.2 k.1))
          (u ∷ us) (Each-both (Sized S) (AtMost V S t) (u ∷ us) bu v.3),
    )
solution V S (l ∷ ls) (u ∷ us) bl bu h =
    let f = tightest V S (λ l. Each (Meeting V S l) (u ∷ us)) l ls bl h in
    let low = f.0 in
    let g = tightest V S (λ u. Meeting V S low u × Each (λ l. Meeting V S l u) (l ∷ ls)) u us bu (swapped low (u ∷ us) f.1 h) in
    let high = g.0 in
    let b = S low in
    let a = S high in
    let z = V low *ℤ a +ℤ neg_ℤ (V high *ℤ b) in
    let e = a *ℤ b +ℤ a *ℤ b in
    let above = times-pos a b g.2 f.2 in
    let twice : pos 0 <ℤ e = omega (arith, ints, above) in
    let lows = Each-both (Sized S) (λ q. Meeting V S q high × AtMost V S low q) (l ∷ ls) bl (Each-both (λ q. Meeting V S q high) (AtMost V S low) (l ∷ ls) g.1.1 f.3) in
    let highs = Each-both (Sized S) (λ q. Meeting V S low q × AtMost V S high q) (u ∷ us) bu (Each-both (Meeting V S low) (AtMost V S high) (u ∷ us) f.1 g.3) in (
      e,
      z,
      twice,
      Each-map (λ q. Sized S q × (Meeting V S q high × AtMost V S low q)) (LowMet V S e z)
          (λ q k. middle-low (comparison q.is_strict) (V q) (S q) (V low) b (V high) a (inequality q.is_strict) (comparing q.is_strict) g.2 f.2 (left-compares q.is_strict high.is_strict _ k.1.0) k.1.1)
          (l ∷ ls) lows,
      Each-map (λ q. Sized S q × (Meeting V S low q × AtMost V S high q)) (HighMet V S e z)
          (λ q k. middle-high (comparison q.is_strict) (V q) (S q) (V low) b (V high) a (inequality q.is_strict) (comparing q.is_strict) g.2 f.2 (subst (Compares (comparison q.is_strict)) (turn (S q) (V low) b (V q)) (right-compares low.is_strict q.is_strict _ k.1.0)) k.1.1)
          (u ∷ us) highs,
    )
  where
    turn : (k B b A : ℤ) → k *ℤ B +ℤ b *ℤ A ≡ b *ℤ A +ℤ k *ℤ B
    turn k B b A = omega (arith, ints)

    swapped : (low : Plain) (vs : List Plain) → Each (Meeting V S low) vs → Each (λ l. Each (Meeting V S l) vs) (l ∷ ls) → Each (λ u. Meeting V S low u × Each (λ l. Meeting V S l u) (l ∷ ls)) vs
    swapped low [] f g = tt
    swapped low (v ∷ vs) f g = (
      (f.0, Each-map (λ q. Each (Meeting V S q) (v ∷ vs)) (λ q. Meeting V S q v) (λ q k. k.0) (l ∷ ls) g),
      swapped low vs f.1 (Each-map (λ q. Each (Meeting V S q) (v ∷ vs)) (λ q. Each (Meeting V S q) vs) (λ q k. k.1) (l ∷ ls) g),
    )
