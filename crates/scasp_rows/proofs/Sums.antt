-- The sum of two rows: which values it compares, and that it is in normal form.
use Rattle.std.proofs.Common.{◌≡◌, ◌≢◌, ◌↔◌, ℕ, true, ℤ, pos, ◌+ℤ◌, ◌*ℤ◌, ◌<ℤ◌, ◌≤ℤ◌, Some, List, [], ◌∷◌, ◌++◌, refl, sym, ap, subst, ◌∙◌, arith}
use Rattle.std.proofs.lemmas.Bool.{and_parts}
use Rattle.std.proofs.lemmas.Int.{ints}
use Rattle.std.proofs.Math.IntN.{*ℤ_comm, *ℤ-zero, +ℤ_idl, +ℤ_assoc}
use Rattle.scasp_num.specs.declared.linear.Coeff.{Coeff}
use Rattle.scasp_num.specs.declared.linear.RatPair.{RatPair}
use Rattle.scasp_num.specs.declared.linear.Op.{Op}
use Rattle.scasp_num.specs.declared.linear.Op.TheVariants as op
use Rattle.scasp_num.specs.Number.{Number, IsFraction}
use Rattle.scasp_num.specs.Arithmetic.{◌>>=◌, sum_of}
use Rattle.scasp_list.proofs.EachLemmas.{Each-left, Each-right}
use Rattle.scasp_num.specs.Linear.{Linear, IsNormal, weighted, Compares, Meets}
use Rattle.scasp_num.specs.Values.{Holds, HaveDenominator}
use Rattle.scasp_num.specs.Sums.{normal_of, IsTimes, AreTimes}
use Rattle.scasp_num.proofs.Kept.{normal_of-op, normal_of-IsNormal}
use Rattle.scasp_num.proofs.Integers.{*ℤ_assoc, *ℤ-+ℤ, +ℤ-*ℤ, *ℤ_right_comm, *ℤ-cancel}
use Rattle.scasp_num.proofs.Numbers.{times-pos, some-same}
use Rattle.scasp_num.proofs.Exact.{bind-some, lowest-exact, sum_of-exact}
use Rattle.scasp_num.proofs.Meaning.{compares-scaled}
use Rattle.scasp_num.proofs.Valuations.{Holds-Meets, denominator-exists}
use Rattle.scasp_num.proofs.Wholes.{normal_of-meets}
use Rattle.scasp_rows.specs.Points.{RationalPoint}
use Rattle.scasp_rows.specs.Steps.{whole, times, terms_sum, constant_sum, joined, row_sum, may_scale, may_step}

-- what a row compares with 0 where the variables have the values m x / d
abbrev pub value : (ℕ → ℤ) → ℤ → Linear → ℤ
value m d r = weighted m r.coeffs +ℤ r.constant *ℤ d

-- the terms times a
abbrev pub scaled : ℤ → List Coeff → List Coeff
scaled a [] = []
scaled a (k ∷ ks) = record { x = k.x; c = a *ℤ k.c } ∷ scaled a ks

pub scaled-weighted : (m : ℕ → ℤ) (a : ℤ) (ks : List Coeff) → weighted m (scaled a ks) ≡ a *ℤ weighted m ks
scaled-weighted m a [] = sym (*ℤ-zero a)
scaled-weighted m a (k ∷ ks) = (λ i. *ℤ_assoc a k.c (m k.x) i +ℤ scaled-weighted m a ks i) ∙ sym (*ℤ-+ℤ a (k.c *ℤ m k.x) (weighted m ks))

weighted-append : (m : ℕ → ℤ) (ks js : List Coeff) → weighted m (ks ++ js) ≡ weighted m ks +ℤ weighted m js
weighted-append m [] js = sym (+ℤ_idl (weighted m js))
weighted-append m (k ∷ ks) js = ap (λ w. k.c *ℤ m k.x +ℤ w) (weighted-append m ks js) ∙ sym (+ℤ_assoc (k.c *ℤ m k.x) (weighted m ks) (weighted m js))

pub whole-times : (q : Number) (z : ℤ) → Some q ≡ whole z → IsTimes (pos 1) q z
whole-times q z e = sym (lowest-exact q z (pos 1) e)

pub times-are : (a : ℤ) (ks : List Coeff) (out : List RatPair) → Some out ≡ times a ks → AreTimes (pos 1) out (scaled a ks)
times-are a [] out e = subst (λ (o : List RatPair). AreTimes (pos 1) o []) (let same : [] ≡ out = cc in same) tt
times-are a (k ∷ ks) out e =
    let p = bind-some (whole (a *ℤ k.c)) (λ product. times a ks >>= (λ rest. Some (record { x = k.x; value = product } ∷ rest))) out e in
    let r = bind-some (times a ks) (λ rest. Some (record { x = k.x; value = p.0 } ∷ rest)) out p.2 in
    let same : record { x = k.x; value = p.0 } ∷ r.0 ≡ out = cc in
    subst (λ (o : List RatPair). AreTimes (pos 1) o (scaled a (k ∷ ks))) same (refl, whole-times p.0 (a *ℤ k.c) p.1, times-are a ks r.0 r.1)

append-are : (l : ℤ) (ps qs : List RatPair) (ks js : List Coeff) → AreTimes l ps ks → AreTimes l qs js → AreTimes l (ps ++ qs) (ks ++ js)
append-are l [] qs [] js a b = b
append-are l [] qs (k ∷ ks) js a b = absurd a
append-are l (p ∷ ps) qs [] js a b = absurd a
append-are l (p ∷ ps) qs (k ∷ ks) js a b = (a.0, a.1, append-are l ps qs ks js a.2 b)

sum-times : (p q r : Number) (z w : ℤ) → Some r ≡ sum_of p q → IsTimes (pos 1) p z → IsTimes (pos 1) q w → IsTimes (pos 1) r (z +ℤ w)
sum-times p q r z w e a b =
    let f = sum_of-exact p q r e in
    let k = p.den *ℤ q.den in
    let n = p.num *ℤ q.den +ℤ q.num *ℤ p.den in
    let l = pos 1 in
    let left : z *ℤ k ≡ (p.num *ℤ q.den) *ℤ l = sym (*ℤ_assoc z p.den q.den) ∙ ap (λ y. y *ℤ q.den) a ∙ *ℤ_right_comm p.num l q.den in
    let right : w *ℤ k ≡ (q.num *ℤ p.den) *ℤ l = ap (λ y. w *ℤ y) (*ℤ_comm p.den q.den) ∙ sym (*ℤ_assoc w q.den p.den) ∙ ap (λ y. y *ℤ p.den) b ∙ *ℤ_right_comm q.num l p.den in
    let all : (z +ℤ w) *ℤ k ≡ n *ℤ l = +ℤ-*ℤ z w k ∙ (λ i. left i +ℤ right i) ∙ sym (+ℤ-*ℤ (p.num *ℤ q.den) (q.num *ℤ p.den) l) in
    *ℤ-cancel ((z +ℤ w) *ℤ r.den) (r.num *ℤ l) k (times-pos p.den q.den p.reduced.positive q.reduced.positive)
    (*ℤ_right_comm (z +ℤ w) r.den k ∙ ap (λ y. y *ℤ r.den) all ∙ *ℤ_right_comm n l r.den ∙ ap (λ y. y *ℤ l) (sym f) ∙ *ℤ_right_comm r.num k l)

-- the parts of which a sum is made
pub record IsSum (a : ℤ) (p : Linear) (b : ℤ) (q row : Linear) : Type 0 where
  pub left : List RatPair
  pub right : List RatPair
  pub constant : Number
  pub left_are : AreTimes (pos 1) left (scaled a p.coeffs)
  pub right_are : AreTimes (pos 1) right (scaled b q.coeffs)
  pub constant_is : IsTimes (pos 1) constant (a *ℤ p.constant +ℤ b *ℤ q.constant)
  pub made : Some row ≡ normal_of (left ++ right) constant (joined p.op q.op)

pub row_sum-IsSum : (a : ℤ) (p : Linear) (b : ℤ) (q row : Linear) → Some row ≡ row_sum a p b q → IsSum a p b q row
unfolding row_sum
row_sum-IsSum a p b q row e =
    let last = λ (terms : List RatPair) (constant : Number). normal_of terms constant (joined p.op q.op) in
    let t = bind-some (terms_sum a p b q) (λ terms. constant_sum a p b q >>= (λ constant. last terms constant)) row e in
    let c = bind-some (constant_sum a p b q) (λ constant. last t.0 constant) row t.2 in
    let left = bind-some (times a p.coeffs) (λ left. times b q.coeffs >>= (λ right. Some (left ++ right))) t.0 t.1 in
    let right = bind-some (times b q.coeffs) (λ right. Some (left.0 ++ right)) t.0 left.2 in
    let f = bind-some (whole (a *ℤ p.constant)) (λ first. whole (b *ℤ q.constant) >>= (λ second. sum_of first second)) c.0 c.1 in
    let g = bind-some (whole (b *ℤ q.constant)) (λ second. sum_of f.0 second) c.0 f.2 in
    let joins : t.0 ≡ left.0 ++ right.0 = some-same right.2 in
    record {
      left = left.0;
      right = right.0;
      constant = c.0;
      left_are = times-are a p.coeffs left.0 left.1;
      right_are = times-are b q.coeffs right.0 right.1;
      constant_is = sum-times f.0 g.0 c.0 (a *ℤ p.constant) (b *ℤ q.constant) g.2 (whole-times f.0 (a *ℤ p.constant) f.1) (whole-times g.0 (b *ℤ q.constant) g.1);
      made = subst (λ (ts : List RatPair). Some row ≡ last ts c.0) joins c.2;
    }

regroup : (a b u v s t d : ℤ) → (a *ℤ u +ℤ b *ℤ v) +ℤ (a *ℤ s +ℤ b *ℤ t) *ℤ d ≡ a *ℤ (u +ℤ s *ℤ d) +ℤ b *ℤ (v +ℤ t *ℤ d)
regroup a b u v s t d =
    let e = +ℤ-*ℤ (a *ℤ s) (b *ℤ t) d in
    let f = *ℤ_assoc a s d in
    let g = *ℤ_assoc b t d in
    let h = *ℤ-+ℤ a u (s *ℤ d) in
    let k = *ℤ-+ℤ b v (t *ℤ d) in
    omega (arith, ints, e, f, g, h, k)

-- the sum of two rows compares the sum of what they compare
pub row_sum-meets : (a : ℤ) (p : Linear) (b : ℤ) (q row : Linear) → Some row ≡ row_sum a p b q → (m : ℕ → ℤ) (d : ℤ) → Meets m d row ↔ Compares (joined p.op q.op) (a *ℤ value m d p +ℤ b *ℤ value m d q)
row_sum-meets a p b q row e m d =
    let s = row_sum-IsSum a p b q row e in
    let terms = scaled a p.coeffs ++ scaled b q.coeffs in
    let constant = a *ℤ p.constant +ℤ b *ℤ q.constant in
    let weighs : weighted m terms ≡ a *ℤ weighted m p.coeffs +ℤ b *ℤ weighted m q.coeffs =
    weighted-append m (scaled a p.coeffs) (scaled b q.coeffs) ∙ (λ i. scaled-weighted m a p.coeffs i +ℤ scaled-weighted m b q.coeffs i) in
    let same = ap (λ w. w +ℤ constant *ℤ d) weighs ∙ regroup a b (weighted m p.coeffs) (weighted m q.coeffs) p.constant q.constant d in
    subst (λ z. Meets m d row ↔ Compares (joined p.op q.op) z) same
    (normal_of-meets (s.left ++ s.right) s.constant (joined p.op q.op) row s.made m d (pos 1) terms constant (omega (arith, ints)) (append-are (pos 1) s.left s.right (scaled a p.coeffs) (scaled b q.coeffs) s.left_are s.right_are) s.constant_is)

-- ---- what two rows compare, multiplied and added

pub Compares-scaled : (a : ℤ) (o : Op) (z : ℤ) → may_scale a o ≡ true → Compares o z → Compares o (a *ℤ z)
Compares-scaled a op.Eq z s h = ap (λ y. a *ℤ y) h ∙ *ℤ-zero a
Compares-scaled a op.Lt z s h = subst (λ y. y <ℤ pos 0) (*ℤ_comm z a) ((compares-scaled op.Lt z a (omega (arith, ints, s))).0 h)
Compares-scaled a op.Le z s h = subst (λ y. y ≤ℤ pos 0) (*ℤ_comm z a) ((compares-scaled op.Le z a (omega (arith, ints, s))).0 h)
Compares-scaled a op.Ne z s h = cc

pub Compares-joined : (o u : Op) (y z : ℤ) → o ≢ op.Ne → u ≢ op.Ne → Compares o y → Compares u z → Compares (joined o u) (y +ℤ z)
Compares-joined op.Eq op.Eq y z n k g h = omega (arith, ints)
Compares-joined op.Eq op.Lt y z n k g h = omega (arith, ints)
Compares-joined op.Eq op.Le y z n k g h = omega (arith, ints)
Compares-joined op.Lt op.Eq y z n k g h = omega (arith, ints)
Compares-joined op.Lt op.Lt y z n k g h = omega (arith, ints)
Compares-joined op.Lt op.Le y z n k g h = omega (arith, ints)
Compares-joined op.Le op.Eq y z n k g h = omega (arith, ints)
Compares-joined op.Le op.Lt y z n k g h = omega (arith, ints)
Compares-joined op.Le op.Le y z n k g h = omega (arith, ints)
Compares-joined op.Ne u y z n k g h = absurd (n refl)
Compares-joined op.Eq op.Ne y z n k g h = absurd (k refl)
Compares-joined op.Lt op.Ne y z n k g h = absurd (k refl)
Compares-joined op.Le op.Ne y z n k g h = absurd (k refl)

scaled-op : (a : ℤ) (o : Op) → may_scale a o ≡ true → o ≢ op.Ne
scaled-op a o s e = let f : may_scale a op.Ne ≡ true = subst (λ u. may_scale a u ≡ true) e s in cc

-- whole values that meet both rows meet their sum
pub step-meets : (a : ℤ) (p : Linear) (b : ℤ) (q row : Linear) → may_step a p b q ≡ true → Some row ≡ row_sum a p b q → (m : ℕ → ℤ) (d : ℤ) → Meets m d p → Meets m d q → Meets m d row
step-meets a p b q row s e m d g h =
    let may = and_parts (may_scale a p.op) (may_scale b q.op) s in
    (row_sum-meets a p b q row e m d).1
    (Compares-joined p.op q.op (a *ℤ value m d p) (b *ℤ value m d q) (scaled-op a p.op may.0) (scaled-op b q.op may.1) (Compares-scaled a p.op (value m d p) may.0 g) (Compares-scaled b q.op (value m d q) may.1 h))

-- a point that meets both rows meets their sum
pub step-holds : (a : ℤ) (p : Linear) (b : ℤ) (q row : Linear) → may_step a p b q ≡ true → Some row ≡ row_sum a p b q → (v : RationalPoint) → Holds v p → Holds v q → Holds v row
step-holds a p b q row s e v g h =
    let rest = p.coeffs ++ q.coeffs in
    let c = denominator-exists v (row.coeffs ++ rest) in
    let m = c.0 in
    let d = c.1 in
    let P = λ (k : Coeff). IsFraction (v k.x) (m k.x) d in
    let of_rest : HaveDenominator v m d rest = Each-right P row.coeffs rest c.3 in
    let of_row = Holds-Meets v m d row c.2 (Each-left P row.coeffs rest c.3) in
    let of_p = Holds-Meets v m d p c.2 (Each-left P p.coeffs q.coeffs of_rest) in
    let of_q = Holds-Meets v m d q c.2 (Each-right P p.coeffs q.coeffs of_rest) in
    of_row.1 (step-meets a p b q row s e m d (of_p.0 g) (of_q.0 h))

pub joined-comparing : (o u : Op) → o ≢ op.Ne → u ≢ op.Ne → joined o u ≢ op.Ne
joined-comparing op.Eq op.Eq n k e = cc
joined-comparing op.Eq op.Lt n k e = cc
joined-comparing op.Eq op.Le n k e = cc
joined-comparing op.Eq op.Ne n k e = k refl
joined-comparing op.Lt u n k e = cc
joined-comparing op.Le op.Eq n k e = cc
joined-comparing op.Le op.Lt n k e = cc
joined-comparing op.Le op.Le n k e = cc
joined-comparing op.Le op.Ne n k e = k refl
joined-comparing op.Ne u n k e = n refl

-- the sum of two rows is in normal form
pub row_sum-IsNormal : (a : ℤ) (p : Linear) (b : ℤ) (q row : Linear) → Some row ≡ row_sum a p b q → IsNormal row
row_sum-IsNormal a p b q row e =
    let s = row_sum-IsSum a p b q row e in
    normal_of-IsNormal (s.left ++ s.right) s.constant (joined p.op q.op) row s.made

-- the sum of two rows that are no disequations is none
pub row_sum-op : (a : ℤ) (p : Linear) (b : ℤ) (q row : Linear) → Some row ≡ row_sum a p b q → p.op ≢ op.Ne → q.op ≢ op.Ne → row.op ≢ op.Ne
row_sum-op a p b q row e n k =
    let s = row_sum-IsSum a p b q row e in
    let is = normal_of-op (s.left ++ s.right) s.constant (joined p.op q.op) row s.made in
    λ f. joined-comparing p.op q.op n k (sym is ∙ f)
