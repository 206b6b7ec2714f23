-- A point for the rows without x extends to x: by the equation's value, or between the bounds.
use Rattle.std.proofs.Common.{◌≡◌, ◌≢◌, ℕ, zero, suc, Bool, true, false, not, ◌&&◌, ℤ, pos, negsuc, ◌+ℤ◌, ◌*ℤ◌, neg_ℤ, ◌<ℤ◌, ◌≤ℤ◌, unsigned_abs, Some, None, List, [], ◌∷◌, refl, sym, ap, subst, ◌∙◌, arith, cond}
use Rattle.std.specs.Prelude.{if◌then◌else◌, int_lt, filter}
use Rattle.std.proofs.lemmas.Bool.{and_parts}
use Rattle.std.proofs.lemmas.Int.{ints, by_lt_z}
use Rattle.std.proofs.Math.IntN.{zero-*ℤ}
use Rattle.scasp_num.specs.declared.linear.Op.{Op}
use Rattle.scasp_num.specs.declared.linear.Op.TheVariants as op
use Rattle.scasp_list.specs.Each.{Each}
use Rattle.scasp_list.proofs.EachLemmas.{Each-map, Each-both, Each-filter}
use Rattle.scasp_num.specs.Linear.{IsNormal, is_zero, is_equation, Compares, Meets}
use Rattle.scasp_num.proofs.Numbers.{times-pos, unsigned_abs-pos, lt_ltb}
use Rattle.scasp_num.proofs.Meaning.{compares-scaled}
use Rattle.scasp_num.proofs.NormalForms.{zero_is}
use Rattle.scasp_rows.specs.declared.state.Sign.TheVariants as sign
use Rattle.scasp_rows.specs.declared.state.Standing.{Standing}
use Rattle.scasp_rows.specs.Steps.{joined}
use Rattle.scasp_num.proofs.Comparing.{ne_zero}
use Rattle.scasp_rows.specs.Elimination.{factor, solves, first_equation, share, size_over, against, has_sign, rows_with}
use Rattle.scasp_rows.proofs.Sums.{value}
use Rattle.scasp_rows.proofs.Shares.{turned, share-above, share-dvd_left, share-dvd_right, size_over-times, against-times}
use Rattle.scasp_rows.proofs.Bounds.{below-compares, middle-low, middle-high, above-low, below-high, fractions-chain, solved-equation, solved-row, met-rows}
use Rattle.scasp_rows.proofs.Values.{moved, value-at}
use Rattle.scasp_rows.proofs.Soundness.{not_true, below-nonzero, above-nonzero, filter-passes}
use Rattle.scasp_rows.proofs.Forward.{Met, Fine, Between, Became, below-size, above-size}

-- the row is met where x has the value z/e in place of 0
abbrev pub Extends : (ℕ → ℤ) → ℤ → ℕ → ℤ → ℤ → Standing → Type 0
Extends m d x e z r = Compares r.row.op (value m d r.row *ℤ e +ℤ factor x r *ℤ z)

pub extended : (m : ℕ → ℤ) (d : ℤ) (x : ℕ) (e z : ℤ) (r : Standing) → m x ≡ pos 0 → IsNormal r.row → Extends m d x e z r → Meets (moved m e x z) (d *ℤ e) r.row
extended m d x e z r h n c = subst (Compares r.row.op) (sym (value-at m d e x z r.row h n.ascending)) c

-- a row without x stays met
pub kept-extends : (m : ℕ → ℤ) (d : ℤ) (x : ℕ) (e z : ℤ) (r : Standing) → pos 0 <ℤ e → is_zero (factor x r) ≡ true → Meets m d r.row → Extends m d x e z r
kept-extends m d x e z r h f c =
    let none : factor x r *ℤ z ≡ pos 0 = ap (λ y. y *ℤ z) (zero_is (factor x r) f) ∙ zero-*ℤ z in
    let same : value m d r.row *ℤ e ≡ value m d r.row *ℤ e +ℤ factor x r *ℤ z = omega (arith, ints, none) in
    subst (Compares r.row.op) same ((compares-scaled r.row.op (value m d r.row) e h).0 c)

pub size-above : (z : ℤ) → z ≢ pos 0 → pos 0 <ℤ pos (unsigned_abs z)
size-above z n = let h = unsigned_abs-pos z n in omega (arith, ints, h)

joined-equation : (o : Op) → joined o op.Eq ≡ o
joined-equation op.Eq = refl
joined-equation op.Lt = refl
joined-equation op.Le = refl
joined-equation op.Ne = refl

equation-is : (o : Op) → is_equation o ≡ true → o ≡ op.Eq
equation-is op.Eq e = refl
equation-is op.Lt e = cc
equation-is op.Le e = cc
equation-is op.Ne e = cc

-- ---- by an equation

pub solves-sized : (x : ℕ) (p : Standing) → solves x p ≡ true → pos 0 <ℤ pos (unsigned_abs (factor x p))
solves-sized x p s =
    let parts = and_parts (is_equation p.row.op) (not (is_zero (factor x p))) s in
    size-above (factor x p) (ne_zero (factor x p) (not_true (is_zero (factor x p)) parts.1))

pub equation-extends : (m : ℕ → ℤ) (d : ℤ) (x : ℕ) (p : Standing) → solves x p ≡ true → Extends m d x (pos (unsigned_abs (factor x p))) (turned (factor x p) (value m d p.row)) p
equation-extends m d x p s =
    let parts = and_parts (is_equation p.row.op) (not (is_zero (factor x p))) s in
    let is = equation-is p.row.op parts.0 in
    subst (λ (o : Op). Compares o (value m d p.row *ℤ pos (unsigned_abs (factor x p)) +ℤ factor x p *ℤ turned (factor x p) (value m d p.row))) (sym is) (solved-equation (factor x p) (value m d p.row))

pub became-extends : (m : ℕ → ℤ) (d : ℤ) (x : ℕ) (p q : Standing) → solves x p ≡ true → Became m d x p q → Extends m d x (pos (unsigned_abs (factor x p))) (turned (factor x p) (value m d p.row)) q
became-extends m d x p q s b = by (is_zero (factor x q)) refl
  where
    by : (t : Bool) → is_zero (factor x q) ≡ t → Extends m d x (pos (unsigned_abs (factor x p))) (turned (factor x p) (value m d p.row)) q
    by true e =
        kept-extends m d x (pos (unsigned_abs (factor x p))) (turned (factor x p) (value m d p.row)) q (solves-sized x p s) e (b.kept e)
    by false e =
        let parts = and_parts (is_equation p.row.op) (not (is_zero (factor x p))) s in
        let a = factor x p in
        let c = factor x q in
        let k = share a c in
        let S = size_over a k in
        let T = against a c k in
        let above = share-above a c in
        let o : joined q.row.op p.row.op ≡ q.row.op = ap (joined q.row.op) (equation-is p.row.op parts.0) ∙ joined-equation q.row.op in
        let made = subst (λ (u : Op). Compares u (S *ℤ value m d q.row +ℤ T *ℤ value m d p.row)) o (b.made e) in
        let times = (compares-scaled q.row.op (S *ℤ value m d q.row +ℤ T *ℤ value m d p.row) (pos k) (omega (arith, ints, above))).0 made in
        subst (Compares q.row.op) (solved-row S T (pos k) a c (value m d q.row) (value m d p.row) (size_over-times a k (share-dvd_left a c)) (against-times a c k (share-dvd_right a c))) times

-- ---- by bounds

joined-left : (o u : Op) (z : ℤ) → is_equation o ≡ false → o ≢ op.Ne → is_equation u ≡ false → u ≢ op.Ne → Compares (joined o u) z → Compares o z
joined-left op.Eq u z e n f k h = cc
joined-left op.Ne u z e n f k h = absurd (n refl)
joined-left op.Lt u z e n f k h = h
joined-left op.Le op.Eq z e n f k h = cc
joined-left op.Le op.Lt z e n f k h = omega (arith, ints)
joined-left op.Le op.Le z e n f k h = h
joined-left op.Le op.Ne z e n f k h = absurd (k refl)

joined-right : (o u : Op) (z : ℤ) → is_equation o ≡ false → o ≢ op.Ne → is_equation u ≡ false → u ≢ op.Ne → Compares (joined o u) z → Compares u z
joined-right op.Eq u z e n f k h = cc
joined-right op.Ne u z e n f k h = absurd (n refl)
joined-right op.Lt op.Eq z e n f k h = cc
joined-right op.Lt op.Lt z e n f k h = h
joined-right op.Lt op.Le z e n f k h = omega (arith, ints)
joined-right op.Lt op.Ne z e n f k h = absurd (k refl)
joined-right op.Le op.Eq z e n f k h = cc
joined-right op.Le op.Lt z e n f k h = h
joined-right op.Le op.Le z e n f k h = h
joined-right op.Le op.Ne z e n f k h = absurd (k refl)

-- the size of the coefficient of x
abbrev pub size : ℕ → Standing → ℤ
size x r = pos (unsigned_abs (factor x r))

-- the row bounds x: it is an inequality with x
pub record Bounding (x : ℕ) (r : Standing) : Type 0 where
  pub inequality : is_equation r.row.op ≡ false
  pub comparing : r.row.op ≢ op.Ne
  pub sized : pos 0 <ℤ size x r

-- a row that bounds x as tightly as any of the list
pub tightest : (P : Standing → Type 0) (m : ℕ → ℤ) (d : ℤ) (x : ℕ) (r : Standing) (rs : List Standing) → Each (Bounding x) (r ∷ rs) → Each P (r ∷ rs) → (t : Standing) × P t × Bounding x t × Each (λ q. (value m d q.row *ℤ size x t) ≤ℤ (value m d t.row *ℤ size x q)) (r ∷ rs)
tightest P m d x r [] b h = (r, h.0, b.0, (omega (arith, ints), tt))
tightest P m d x r (s ∷ ss) b h =
    let u = tightest P m d x s ss b.1 h.1 in
    let t = u.0 in
    let A = value m d r.row in
    let T = value m d t.row in
    by_lt_z (T *ℤ size x r) (A *ℤ size x t)
    (λ less.
    let least : (T *ℤ size x r) ≤ℤ (A *ℤ size x t) = omega (arith, ints, less) in
    (r, h.0, b.0, (omega (arith, ints), each r t b.0 u.2 least (s ∷ ss) b.1 u.3)))
    (λ most. (t, u.1, u.2, (most, u.3)))
  where
    each : (r t : Standing) → Bounding x r → Bounding x t → (value m d t.row *ℤ size x r) ≤ℤ (value m d r.row *ℤ size x t) → (qs : List Standing) → Each (Bounding x) qs → Each (λ q. (value m d q.row *ℤ size x t) ≤ℤ (value m d t.row *ℤ size x q)) qs → Each (λ q. (value m d q.row *ℤ size x r) ≤ℤ (value m d r.row *ℤ size x q)) qs
    each r t br bt least [] b h = tt
    each r t br bt least (q ∷ qs) b h = (
      fractions-chain (value m d q.row) (size x q) (value m d t.row) (size x t) (value m d r.row) (size x r) bt.sized b.0.sized br.sized h.0 least,
      each r t br bt least qs b.1 h.1,
    )

-- a lower row and an upper row allow some value of x between them
pub record Meeting (m : ℕ → ℤ) (d : ℤ) (x : ℕ) (l u : Standing) : Type 0 where
  pub low : Compares l.row.op (size x u *ℤ value m d l.row +ℤ size x l *ℤ value m d u.row)
  pub high : Compares u.row.op (size x u *ℤ value m d l.row +ℤ size x l *ℤ value m d u.row)

pub between-meets : (m : ℕ → ℤ) (d : ℤ) (x : ℕ) (l u : Standing) → Bounding x l → Bounding x u → Between m d x l u → Meeting m d x l u
between-meets m d x l u bl bu h =
    let k = share (factor x l) (factor x u) in
    let S = size_over (factor x u) k in
    let T = size_over (factor x l) k in
    let o = joined l.row.op u.row.op in
    let above = share-above (factor x l) (factor x u) in
    let times = (compares-scaled o (S *ℤ value m d l.row +ℤ T *ℤ value m d u.row) (pos k) (omega (arith, ints, above))).0 h in
    let all = subst (Compares o) (met-rows S T (pos k) (size x u) (size x l) (value m d l.row) (value m d u.row) (size_over-times (factor x u) k (share-dvd_right (factor x l) (factor x u))) (size_over-times (factor x l) k (share-dvd_left (factor x l) (factor x u)))) times in
    record {
      low = joined-left l.row.op u.row.op _ bl.inequality bl.comparing bu.inequality bu.comparing all;
      high = joined-right l.row.op u.row.op _ bl.inequality bl.comparing bu.inequality bu.comparing all;
    }

-- the sign of x's coefficient
abbrev pub IsLower : ℕ → Standing → Type 0
IsLower x r = factor x r ≡ neg_ℤ (size x r)

abbrev pub IsUpper : ℕ → Standing → Type 0
IsUpper x r = factor x r ≡ size x r

abbrev pub Solution : (ℕ → ℤ) → ℤ → ℕ → List Standing → List Standing → Type 0
Solution m d x ls us = (e : ℤ) × (z : ℤ) × (pos 0 <ℤ e) × Each (Extends m d x e z) ls × Each (Extends m d x e z) us

Each-all : {A B : Type 0} (R : A → B → Type 0) (xs : List A) (b : B) (bs : List B) → Each (λ x. Each (R x) (b ∷ bs)) xs → Each (λ x. R x b) xs
Each-all R [] b bs h = tt
Each-all R (x ∷ xs) b bs h = (h.0.0, Each-all R xs b bs h.1)

-- values of x that meet the bounds of both kinds
pub solution : (m : ℕ → ℤ) (d : ℤ) (x : ℕ) (ls us : List Standing) → Each (Bounding x) ls → Each (Bounding x) us → Each (IsLower x) ls → Each (IsUpper x) us → Each (λ l. Each (Meeting m d x l) us) ls → Solution m d x ls us
solution m d x [] [] bl bu sl su h = (pos 1, pos 0, omega (arith, ints), tt, tt)
solution m d x (l ∷ ls) [] bl bu sl su h =
    let u = tightest (IsLower x) m d x l ls bl sl in
    let t = u.0 in
    let z = value m d t.row +ℤ size x t in (
      size x t,
      z,
      u.2.sized,
      Each-map (λ q. (Bounding x q × IsLower x q) × ((value m d q.row *ℤ size x t) ≤ℤ (value m d t.row *ℤ size x q))) (Extends m d x (size x t) z)
          (λ q k. below-compares q.row.op _ k.0.0.inequality k.0.0.comparing (subst (λ c. (value m d q.row *ℤ size x t +ℤ c *ℤ z) <ℤ pos 0) (sym k.0.1) (above-low (value m d q.row) (size x q) (value m d t.row) (size x t) k.0.0.sized u.2.sized k.1)))
          (l ∷ ls) (Each-both (λ q. Bounding x q × IsLower x q) (λ q. (value m d q.row *ℤ size x t) ≤ℤ (value m d t.row *ℤ size x q)) (l ∷ ls) (Each-both (Bounding x) (IsLower x) (l ∷ ls) bl sl) u.3),
      tt,
    )
solution m d x [] (u ∷ us) bl bu sl su h =
    let v = tightest (IsUpper x) m d x u us bu su in
    let t = v.0 in
    let z = neg_ℤ (value m d t.row +ℤ size x t) in (
      size x t,
      z,
      v.2.sized,
      tt,
      Each-map (λ q. (Bounding x q × IsUpper x q) × ((value m d q.row *ℤ size x t) ≤ℤ (value m d t.row *ℤ size x q))) (Extends m d x (size x t) z)
          (λ q k. below-compares q.row.op _ k.0.0.inequality k.0.0.comparing (subst (λ c. (value m d q.row *ℤ size x t +ℤ c *ℤ z) <ℤ pos 0) (sym k.0.1) (below-high (value m d q.row) (size x q) (value m d t.row) (size x t) k.0.0.sized v.2.sized k.1)))
          (u ∷ us) (Each-both (λ q. Bounding x q × IsUpper x q) (λ q. (value m d q.row *ℤ size x t) ≤ℤ (value m d t.row *ℤ size x q)) (u ∷ us) (Each-both (Bounding x) (IsUpper x) (u ∷ us) bu su) v.3),
    )
solution m d x (l ∷ ls) (u ∷ us) bl bu sl su h =
    let f = tightest (λ l. Each (Meeting m d x l) (u ∷ us)) m d x l ls bl h in
    let low = f.0 in
    let g = tightest (λ u. Meeting m d x low u × Each (λ l. Meeting m d x l u) (l ∷ ls)) m d x u us bu (swapped low (u ∷ us) f.1 h) in
    let high = g.0 in
    let b = size x low in
    let a = size x high in
    let z = value m d low.row *ℤ a +ℤ neg_ℤ (value m d high.row *ℤ b) in
    let e = a *ℤ b +ℤ a *ℤ b in
    let above = times-pos a b g.2.sized f.2.sized in
    let twice : pos 0 <ℤ e = omega (arith, ints, above) in
    let lows = Each-both (λ q. Bounding x q × IsLower x q) (λ q. Meeting m d x q high × ((value m d q.row *ℤ size x low) ≤ℤ (value m d low.row *ℤ size x q))) (l ∷ ls) (Each-both (Bounding x) (IsLower x) (l ∷ ls) bl sl) (Each-both (λ q. Meeting m d x q high) (λ q. (value m d q.row *ℤ size x low) ≤ℤ (value m d low.row *ℤ size x q)) (l ∷ ls) g.1.1 f.3) in
    let highs = Each-both (λ q. Bounding x q × IsUpper x q) (λ q. Meeting m d x low q × ((value m d q.row *ℤ size x high) ≤ℤ (value m d high.row *ℤ size x q))) (u ∷ us) (Each-both (Bounding x) (IsUpper x) (u ∷ us) bu su) (Each-both (λ q. Meeting m d x low q) (λ q. (value m d q.row *ℤ size x high) ≤ℤ (value m d high.row *ℤ size x q)) (u ∷ us) f.1 g.3) in (
      e,
      z,
      twice,
      Each-map (λ q. (Bounding x q × IsLower x q) × (Meeting m d x q high × ((value m d q.row *ℤ size x low) ≤ℤ (value m d low.row *ℤ size x q)))) (Extends m d x e z)
          (λ q k. subst (λ c. Compares q.row.op (value m d q.row *ℤ e +ℤ c *ℤ z)) (sym k.0.1) (middle-low q.row.op (value m d q.row) (size x q) (value m d low.row) b (value m d high.row) a k.0.0.inequality k.0.0.comparing g.2.sized f.2.sized k.1.0.low k.1.1))
          (l ∷ ls) lows,
      Each-map (λ q. (Bounding x q × IsUpper x q) × (Meeting m d x low q × ((value m d q.row *ℤ size x high) ≤ℤ (value m d high.row *ℤ size x q)))) (Extends m d x e z)
          (λ q k. subst (λ c. Compares q.row.op (value m d q.row *ℤ e +ℤ c *ℤ z)) (sym k.0.1) (middle-high q.row.op (value m d q.row) (size x q) (value m d low.row) b (value m d high.row) a k.0.0.inequality k.0.0.comparing g.2.sized f.2.sized (subst (Compares q.row.op) (turn (size x q) (value m d low.row) b (value m d q.row)) k.1.0.high) k.1.1))
          (u ∷ us) highs,
    )
  where
    turn : (k B b A : ℤ) → k *ℤ B +ℤ b *ℤ A ≡ b *ℤ A +ℤ k *ℤ B
    turn k B b A = omega (arith, ints)

    swapped : (low : Standing) (vs : List Standing) → Each (Meeting m d x low) vs → Each (λ l. Each (Meeting m d x l) vs) (l ∷ ls) → Each (λ u. Meeting m d x low u × Each (λ l. Meeting m d x l u) (l ∷ ls)) vs
    swapped low [] f g = tt
    swapped low (v ∷ vs) f g = (
      (f.0, Each-map (λ q. Each (Meeting m d x q) (v ∷ vs)) (λ q. Meeting m d x q v) (λ q k. k.0) (l ∷ ls) g),
      swapped low vs f.1 (Each-map (λ q. Each (Meeting m d x q) (v ∷ vs)) (λ q. Each (Meeting m d x q) vs) (λ q k. k.1) (l ∷ ls) g),
    )

pub from-filter : (P : Standing → Type 0) (p : Standing → Bool) (rs : List Standing) → Each P (filter p rs) → Each (λ r. p r ≡ true → P r) rs
from-filter P p [] h = tt
from-filter P p (r ∷ rs) h = by (p r) refl h (from-filter P p rs)
  where
    by : (b : Bool) → p r ≡ b → Each P (cond b (r ∷ filter p rs) (filter p rs)) → (Each P (filter p rs) → Each (λ r. p r ≡ true → P r) rs) → Each (λ r. p r ≡ true → P r) (r ∷ rs)
    by true e h rest = ((λ _. h.0), rest h.1)
    by false e h rest = ((λ t. absurd (let no : true ≡ false = sym t ∙ e in cc)), rest h)

pub one-sign : (P : Type 0) (z : ℤ) → (int_lt z (pos 0) ≡ true → P) → (is_zero z ≡ true → P) → (int_lt (pos 0) z ≡ true → P) → P
one-sign P (pos zero) f g h = g refl
one-sign P (pos (suc n)) f g h = h (lt_ltb (omega arith))
one-sign P (negsuc n) f g h = f refl

-- what holds of the rows with each sign holds of all
pub by-signs : (P : Standing → Type 0) (x : ℕ) (rows : List Standing) → Each P (rows_with sign.Below x rows) → Each P (rows_with sign.Zero x rows) → Each P (rows_with sign.Above x rows) → Each P rows
by-signs P x rows f g h =
    let below = λ (r : Standing). has_sign sign.Below (factor x r) in
    let zero = λ (r : Standing). has_sign sign.Zero (factor x r) in
    let above = λ (r : Standing). has_sign sign.Above (factor x r) in
    Each-map (λ r. (below r ≡ true → P r) × ((zero r ≡ true → P r) × (above r ≡ true → P r))) P (λ r k. one-sign (P r) (factor x r) k.0 k.1.0 k.1.1) rows
    (Each-both (λ r. below r ≡ true → P r) (λ r. (zero r ≡ true → P r) × (above r ≡ true → P r)) rows (from-filter P below rows f)
    (Each-both (λ r. zero r ≡ true → P r) (λ r. above r ≡ true → P r) rows (from-filter P zero rows g) (from-filter P above rows h)))

-- ---- all rows with x, where no equation has it

pub no-equation : (x : ℕ) (rs : List Standing) → None ≡ first_equation x rs → Each (λ r. solves x r ≡ false) rs
no-equation x [] e = tt
no-equation x (r ∷ rs) e = by (solves x r) refl e (no-equation x rs)
  where
    by : (b : Bool) → solves x r ≡ b → None ≡ (if b then Some r else first_equation x rs) → (None ≡ first_equation x rs → Each (λ r. solves x r ≡ false) rs) → Each (λ r. solves x r ≡ false) (r ∷ rs)
    by true f e rest = cc
    by false f e rest = (f, rest e)

pub bounding : (x : ℕ) (xs : List ℕ) (r : Standing) → Fine (x ∷ xs) r → factor x r ≢ pos 0 → solves x r ≡ false → Bounding x r
bounding x xs r f n s = record {
  inequality = by (is_equation r.row.op) (is_zero (factor x r)) refl s;
  comparing = f.comparing;
  sized = size-above (factor x r) n;
}
  where
    by : (b : Bool) (c : Bool) → is_zero (factor x r) ≡ c → (b && not c) ≡ false → b ≡ false
    by false c e h = refl
    by true true e h = absurd (n (zero_is (factor x r) e))
    by true false e h = cc

-- where a point meets the rows without x, and each lower row with each upper row, it extends to all rows
pub bounds-extend : (m : ℕ → ℤ) (d : ℤ) (x : ℕ) (xs : List ℕ) (rows : List Standing) → Each (Fine (x ∷ xs)) rows → None ≡ first_equation x rows → Met m d (rows_with sign.Zero x rows) → Each (λ l. Each (Between m d x l) (rows_with sign.Above x rows)) (rows_with sign.Below x rows) → (e : ℤ) × (z : ℤ) × (pos 0 <ℤ e) × Each (Extends m d x e z) rows
bounds-extend m d x xs rows fine none kept between =
    let below = λ (r : Standing). has_sign sign.Below (factor x r) in
    let zero = λ (r : Standing). has_sign sign.Zero (factor x r) in
    let above = λ (r : Standing). has_sign sign.Above (factor x r) in
    let ls = filter below rows in
    let us = filter above rows in
    let zs = filter zero rows in
    let Good = λ (r : Standing). Fine (x ∷ xs) r × (solves x r ≡ false) in
    let good = Each-both (Fine (x ∷ xs)) (λ r. solves x r ≡ false) rows fine (no-equation x rows none) in
    let lows = Each-both Good (λ r. below r ≡ true) ls (Each-filter Good below rows good) (filter-passes below rows) in
    let highs = Each-both Good (λ r. above r ≡ true) us (Each-filter Good above rows good) (filter-passes above rows) in
    let bl = Each-map (λ r. Good r × (below r ≡ true)) (Bounding x) (λ r k. bounding x xs r k.0.0 (below-nonzero (factor x r) k.1) k.0.1) ls lows in
    let bu = Each-map (λ r. Good r × (above r ≡ true)) (Bounding x) (λ r k. bounding x xs r k.0.0 (above-nonzero (factor x r) k.1) k.0.1) us highs in
    let sl = Each-map (λ r. Good r × (below r ≡ true)) (IsLower x) (λ r k. below-size (factor x r) k.1) ls lows in
    let su = Each-map (λ r. Good r × (above r ≡ true)) (IsUpper x) (λ r k. above-size (factor x r) k.1) us highs in
    let meeting = Each-map (λ l. Bounding x l × Each (Between m d x l) us) (λ l. Each (Meeting m d x l) us)
    (λ l k. Each-map (λ u. Bounding x u × Between m d x l u) (Meeting m d x l) (λ u h. between-meets m d x l u k.0 h.0 h.1) us (Each-both (Bounding x) (Between m d x l) us bu k.1)) ls
    (Each-both (Bounding x) (λ l. Each (Between m d x l) us) ls bl between) in
    let s = solution m d x ls us bl bu sl su meeting in
    let e = s.0 in
    let z = s.1 in
    let zeros = Each-map (λ (r : Standing). Meets m d r.row × (zero r ≡ true)) (Extends m d x e z) (λ r k. kept-extends m d x e z r s.2 k.1 k.0) zs (Each-both (λ (r : Standing). Meets m d r.row) (λ r. zero r ≡ true) zs kept (filter-passes zero rows)) in
    (e, z, s.2, by-signs (Extends m d x e z) x rows s.3 zeros s.4)
