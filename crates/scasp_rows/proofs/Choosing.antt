-- The number chosen for a variable meets the rows with it.
use Rattle.std.proofs.Common.{◌≡◌, ◌≢◌, ◌⊎◌, inl, inr, ℕ, Bool, true, false, ℤ, pos, ◌+ℤ◌, ◌*ℤ◌, neg_ℤ, ◌<ℤ◌, ◌≤ℤ◌, Some, None, Option, List, [], ◌∷◌, refl, sym, ap, subst, ◌∙◌, arith}
use Rattle.std.specs.Prelude.{if◌then◌else◌}
use Rattle.std.proofs.lemmas.Int.{ints}
use Rattle.std.proofs.Math.IntN.{*ℤ_comm, *ℤ-zero, zero-*ℤ, neg_ℤ-neg_ℤ}
use Rattle.scasp_num.specs.declared.linear.RatPair.{RatPair}
use Rattle.scasp_num.specs.declared.linear.Op.{Op}
use Rattle.scasp_num.specs.declared.linear.Op.TheVariants as op
use Rattle.scasp_num.specs.Number.{Number, IsFraction}
use Rattle.scasp_num.specs.Arithmetic.{◌>>=◌, sum_of, difference_of, negation_of}
use Rattle.scasp_list.specs.Each.{Each}
use Rattle.scasp_num.specs.Linear.{Compares, is_equation}
use Rattle.scasp_num.proofs.Integers.{*ℤ_assoc, *ℤ-+ℤ, +ℤ-*ℤ, *ℤ_right_comm, *ℤ-cancel, neg-*ℤ}
use Rattle.scasp_num.proofs.Numbers.{times-pos, some-same}
use Rattle.scasp_num.proofs.Exact.{bind-some, sum_of-exact, difference_of-is}
use Rattle.scasp_num.proofs.Meaning.{compares-scaled}
use Rattle.scasp_rows.specs.declared.state.Sign.{Sign}
use Rattle.scasp_rows.specs.declared.state.Sign.TheVariants as sign
use Rattle.scasp_rows.specs.declared.state.Standing.{Standing}
use Rattle.scasp_rows.specs.Steps.{whole}
use Rattle.scasp_rows.specs.Elimination.{factor, has_sign}
use Rattle.scasp_rows.specs.Samples.{is_less, tighter, bound_with, bound, middle, over, solution_of}
use Rattle.scasp_rows.proofs.Sums.{value}
use Rattle.scasp_rows.proofs.Bounds.{below-compares, fractions-chain}
use Rattle.scasp_rows.proofs.Extending.{Extends, Bounding, Meeting, IsLower, IsUpper, size}
use Rattle.scasp_rows.proofs.Solving.{Less, AtMost, less-by, fraction-sum, whole-fraction, over-is, sum-at}

-- ---- the chosen numbers

itself : (p : Number) → IsFraction p p.num p.den
itself p = refl

one-more : (p : Number) → ((p.num *ℤ p.den) <ℤ ((p.num +ℤ pos 1 *ℤ p.den) *ℤ p.den)) × (((p.num +ℤ neg_ℤ (pos 1 *ℤ p.den)) *ℤ p.den) <ℤ (p.num *ℤ p.den))
one-more p =
    let e1 = +ℤ-*ℤ p.num (pos 1 *ℤ p.den) p.den in
    let e2 = +ℤ-*ℤ p.num (neg_ℤ (pos 1 *ℤ p.den)) p.den in
    let e3 = neg-*ℤ (pos 1 *ℤ p.den) p.den in
    let one : pos 1 *ℤ p.den ≡ p.den = omega (arith, ints) in
    let e4 : (pos 1 *ℤ p.den) *ℤ p.den ≡ p.den *ℤ p.den = ap (λ z. z *ℤ p.den) one in
    let h = times-pos p.den p.den p.reduced.positive p.reduced.positive in
    (omega (arith, ints, e1, e4, h), omega (arith, ints, e2, e3, e4, h))

pub plus-one : (lo one v : Number) → Some one ≡ whole (pos 1) → Some v ≡ sum_of lo one → Less lo v
plus-one lo one v e f =
    let g = fraction-sum lo one v lo.num (pos 1 *ℤ lo.den) lo.den (itself lo) (whole-fraction one (pos 1) lo.den e) (sum_of-exact lo one v f) in
    less-by lo v lo.num lo.den (lo.num +ℤ pos 1 *ℤ lo.den) lo.den lo.reduced.positive lo.reduced.positive (itself lo) g (one-more lo).0

pub minus-one : (hi one v : Number) → Some one ≡ whole (pos 1) → Some v ≡ difference_of hi one → Less v hi
minus-one hi one v e f =
    let d = hi.den in
    let a = pos 1 *ℤ d in
    let minus = negation_of one in
    let h : IsFraction minus (neg_ℤ a) d = neg-*ℤ one.num d ∙ ap neg_ℤ (whole-fraction one (pos 1) d e) ∙ sym (neg-*ℤ a one.den) in
    let g = fraction-sum hi minus v hi.num (neg_ℤ a) d (itself hi) h (sum_of-exact hi minus v (f ∙ sym (difference_of-is hi one minus refl))) in
    less-by v hi (hi.num +ℤ neg_ℤ a) d hi.num d hi.reduced.positive hi.reduced.positive g (itself hi) (one-more hi).1

halves : (L H D : ℤ) → pos 0 <ℤ D → L <ℤ H → ((L *ℤ (D *ℤ pos 2)) <ℤ ((L +ℤ H) *ℤ D)) × (((L +ℤ H) *ℤ D) <ℤ (H *ℤ (D *ℤ pos 2)))
halves L H D h l =
    let z = L +ℤ neg_ℤ H in
    let z0 : z <ℤ pos 0 = omega (arith, ints, l) in
    let zd = (compares-scaled op.Lt z D h).0 z0 in
    let e1 = +ℤ-*ℤ L (neg_ℤ H) D in
    let e2 = neg-*ℤ H D in
    let e3 = +ℤ-*ℤ L H D in
    let two : D *ℤ pos 2 ≡ D +ℤ D = omega (arith, ints) in
    let e4 : L *ℤ (D *ℤ pos 2) ≡ L *ℤ D +ℤ L *ℤ D = ap (λ y. L *ℤ y) two ∙ *ℤ-+ℤ L D D in
    let e5 : H *ℤ (D *ℤ pos 2) ≡ H *ℤ D +ℤ H *ℤ D = ap (λ y. H *ℤ y) two ∙ *ℤ-+ℤ H D D in
    (omega (arith, ints, zd, e1, e2, e3, e4), omega (arith, ints, zd, e1, e2, e3, e5))

pub in-middle : (lo hi v : Number) → Less lo hi → Some v ≡ middle lo hi → Less lo v × Less v hi
in-middle lo hi v l e =
    let s = bind-some (sum_of lo hi) (λ sum. over sum (pos 2)) v e in
    let D = lo.den *ℤ hi.den in
    let L = lo.num *ℤ hi.den in
    let H = hi.num *ℤ lo.den in
    let above = times-pos lo.den hi.den lo.reduced.positive hi.reduced.positive in
    let above2 : pos 0 <ℤ (D *ℤ pos 2) = times-pos D (pos 2) above (omega (arith, ints)) in
    let fl : IsFraction lo L D = sym (*ℤ_assoc lo.num lo.den hi.den) ∙ *ℤ_right_comm lo.num lo.den hi.den in
    let fh : IsFraction hi H D = sym (*ℤ_assoc hi.num lo.den hi.den) in
    let fs = fraction-sum lo hi s.0 L H D fl fh (sum_of-exact lo hi s.0 s.1) in
    let fv : IsFraction v (L +ℤ H) (D *ℤ pos 2) = over-is s.0 v (pos 2) (L +ℤ H) D s.2 fs in
    let h = halves L H D above l in
    (less-by lo v L D (L +ℤ H) (D *ℤ pos 2) above above2 fl fv h.0, less-by v hi (L +ℤ H) (D *ℤ pos 2) H D above2 above fv fh h.1)

-- ---- the tightest bounds

abbrev pub Under : (Number → Number → Type 0) → Number → Option Number → Type 0
Under R q None = ⊥
Under R q (Some v) = R q v

abbrev pub Kept : (Number → Number → Type 0) → Option Number → Option Number → Type 0
Kept R None out = Unit {0}
Kept R (Some p) out = Under R p out

-- a row whose bound this is
abbrev pub Source : Sign → ℕ → List RatPair → (Standing → Type 0) → Option Number → Type 0
Source t x point P out = (r : Standing) × P r × (has_sign t (factor x r) ≡ true) × (q : Number) × (Some q ≡ solution_of x point r.row) × (out ≡ Some q)

pub record Order (t : Sign) (R : Number → Number → Type 0) : Type 0 where
  pub same : (q : Number) → R q q
  pub along : (p q r : Number) → R p q → R q r → R p r
  pub new : (best : Option Number) (q : Number) → R q (tighter t best q)
  pub old : (p q : Number) → R p (tighter t (Some p) q)
  pub one : (best : Option Number) (q : Number) → (tighter t best q ≡ q) ⊎ (best ≡ Some (tighter t best q))

under-along : (t : Sign) (R : Number → Number → Type 0) → Order t R → (p q : Number) (out : Option Number) → R p q → Under R q out → Under R p out
under-along t R o p q None h u = u
under-along t R o p q (Some v) h u = o.along p q v h u

kept-same : (t : Sign) (R : Number → Number → Type 0) → Order t R → (best : Option Number) → Kept R best best
kept-same t R o None = tt
kept-same t R o (Some p) = o.same p

abbrev pub Bounds : Sign → (Number → Number → Type 0) → ℕ → List RatPair → (Standing → Type 0) → List Standing → Option Number → Option Number → Type 0
Bounds t R x point P rs best out =
    Kept R best out × Each (λ r. has_sign t (factor x r) ≡ true → (q : Number) × (Some q ≡ solution_of x point r.row) × Under R q out) rs × ((out ≡ best) ⊎ Source t x point P out)

kept-before : (t : Sign) (R : Number → Number → Type 0) → Order t R → (best : Option Number) (q : Number) (out : Option Number) → Under R (tighter t best q) out → Kept R best out
kept-before t R o None q out u = tt
kept-before t R o (Some p) q out u = under-along t R o p (tighter t (Some p) q) out (o.old p q) u

source-from : {S : Type 0} (out best : Option Number) (w q : Number) → (out ≡ Some w) ⊎ S → (w ≡ q) ⊎ (best ≡ Some w) → (out ≡ Some q → S) → (out ≡ best) ⊎ S
source-from out best w q (inr s) f g = inr s
source-from out best w q (inl e) (inl f) g = inr (g (e ∙ ap Some f))
source-from out best w q (inl e) (inr f) g = inl (e ∙ sym f)

pub bound-ok : (t : Sign) (R : Number → Number → Type 0) → Order t R → (x : ℕ) (point : List RatPair) (P : Standing → Type 0) (rs : List Standing) (best out : Option Number) → Each P rs → Some out ≡ bound t x point rs best → Bounds t R x point P rs best out
bound-ok t R o x point P [] best out h e =
    let same : out ≡ best = some-same e in
    (subst (λ u. Kept R best u) (sym same) (kept-same t R o best), tt, inl same)
bound-ok t R o x point P (r ∷ rs) best out h e =
    let n = bind-some (bound_with t x point r best) (λ next. bound t x point rs next) out e in
    by (has_sign t (factor x r)) refl n.0 n.1 (bound-ok t R o x point P rs n.0 out h.1 n.2)
  where
    by : (b : Bool) → has_sign t (factor x r) ≡ b → (next : Option Number) → Some next ≡ (if b then (solution_of x point r.row >>= (λ q. Some (Some (tighter t best q)))) else Some best) → Bounds t R x point P rs next out → Bounds t R x point P (r ∷ rs) best out
    by false s next f rest =
        let same : next ≡ best = some-same f in
        let k = subst (λ w. Bounds t R x point P rs w out) same rest in
        (k.0, ((λ y. absurd (let no : true ≡ false = sym y ∙ s in cc)), k.1), k.2)
    by true s next f rest =
        let q = bind-some (solution_of x point r.row) (λ q. Some (Some (tighter t best q))) next f in
        let w = tighter t best q.0 in
        let same : next ≡ Some w = some-same q.2 in
        let k = subst (λ u. Bounds t R x point P rs u out) same rest in
        let here : Under R q.0 out = under-along t R o q.0 w out (o.new best q.0) k.0 in (
          kept-before t R o best q.0 out k.0,
          ((λ _. (q.0, q.1, here)), k.1),
          source-from out best w q.0 k.2 (o.one best q.0) (λ g. (r, h.0, s, q.0, q.1, g)),
        )

-- ---- the two orders

most-same : (q : Number) → AtMost q q
most-same q = omega (arith, ints)

most-along : (p q r : Number) → AtMost p q → AtMost q r → AtMost p r
most-along p q r h g = fractions-chain p.num p.den q.num q.den r.num r.den q.reduced.positive p.reduced.positive r.reduced.positive h g

pub less-is : (p q : Number) → is_less p q ≡ true → Less p q
less-is p q e = grind (arith, ints)

pub not-less-is : (p q : Number) → is_less p q ≡ false → AtMost q p
not-less-is p q e = grind (arith, ints)

pub lower-order : Order sign.Below AtMost
lower-order = record {
  same = most-same;
  along = most-along;
  new = new;
  old = old;
  one = one;
}
  where
    new : (best : Option Number) (q : Number) → AtMost q (tighter sign.Below best q)
    new None q = most-same q
    new (Some p) q = by (is_less p q) refl
      where
        by : (b : Bool) → is_less p q ≡ b → AtMost q (if b then q else p)
        by true e = most-same q
        by false e = not-less-is p q e

    old : (p q : Number) → AtMost p (tighter sign.Below (Some p) q)
    old p q = by (is_less p q) refl
      where
        by : (b : Bool) → is_less p q ≡ b → AtMost p (if b then q else p)
        by true e = let h = less-is p q e in omega (arith, ints, h)
        by false e = most-same p

    one : (best : Option Number) (q : Number) → (tighter sign.Below best q ≡ q) ⊎ (best ≡ Some (tighter sign.Below best q))
    one None q = inl refl
    one (Some p) q = by (is_less p q)
      where
        by : (b : Bool) → ((if b then q else p) ≡ q) ⊎ (◌≡◌ {A = Option Number} (Some p) (Some (if b then q else p)))
        by true = inl refl
        by false = inr refl

pub upper-order : Order sign.Above (λ p q. AtMost q p)
upper-order = record {
  same = most-same;
  along = λ p q r h g. most-along r q p g h;
  new = new;
  old = old;
  one = one;
}
  where
    new : (best : Option Number) (q : Number) → AtMost (tighter sign.Above best q) q
    new None q = most-same q
    new (Some p) q = by (is_less q p) refl
      where
        by : (b : Bool) → is_less q p ≡ b → AtMost (if b then q else p) q
        by true e = most-same q
        by false e = not-less-is q p e

    old : (p q : Number) → AtMost (tighter sign.Above (Some p) q) p
    old p q = by (is_less q p) refl
      where
        by : (b : Bool) → is_less q p ≡ b → AtMost (if b then q else p) p
        by true e = let h = less-is q p e in omega (arith, ints, h)
        by false e = most-same p

    one : (best : Option Number) (q : Number) → (tighter sign.Above best q ≡ q) ⊎ (best ≡ Some (tighter sign.Above best q))
    one None q = inl refl
    one (Some p) q = by (is_less q p)
      where
        by : (b : Bool) → ((if b then q else p) ≡ q) ⊎ (◌≡◌ {A = Option Number} (Some p) (Some (if b then q else p)))
        by true = inl refl
        by false = inr refl

-- ---- a row at the chosen number

-- the number v for x
abbrev pub ExtendsTo : (ℕ → ℤ) → ℤ → ℕ → Number → Standing → Type 0
ExtendsTo m d x v r = Extends m d x v.den (v.num *ℤ d) r

-- q is the number at which the row's sum is 0
abbrev pub SolvedBy : (ℕ → ℤ) → ℤ → ℕ → Standing → Number → Type 0
SolvedBy m d x r q = q.num *ℤ (d *ℤ neg_ℤ (factor x r)) ≡ value m d r.row *ℤ q.den

pub low-extends : (m : ℕ → ℤ) (d : ℤ) (x : ℕ) (v q : Number) (r : Standing) → pos 0 <ℤ d → Bounding x r → IsLower x r → SolvedBy m d x r q → Less q v → ExtendsTo m d x v r
low-extends m d x v q r hd b s e l =
    let T = value m d r.row *ℤ v.den +ℤ factor x r *ℤ (v.num *ℤ d) in
    let W = q.num *ℤ v.den +ℤ neg_ℤ (v.num *ℤ q.den) in
    let k : neg_ℤ (factor x r) ≡ size x r = ap neg_ℤ s ∙ neg_ℤ-neg_ℤ (size x r) in
    let dk = d *ℤ size x r in
    let is : T *ℤ q.den ≡ W *ℤ dk = sum-at (value m d r.row) (factor x r) d q v e ∙ ap (λ c. (d *ℤ c) *ℤ W) k ∙ *ℤ_comm dk W in
    let w0 : W <ℤ pos 0 = omega (arith, ints, l) in
    let wk = (compares-scaled op.Lt W dk (times-pos d (size x r) hd b.sized)).0 w0 in
    let tq : (T *ℤ q.den) <ℤ pos 0 = subst (λ z. z <ℤ pos 0) (sym is) wk in
    below-compares r.row.op T b.inequality b.comparing ((compares-scaled op.Lt T q.den q.reduced.positive).1 tq)

pub high-extends : (m : ℕ → ℤ) (d : ℤ) (x : ℕ) (v q : Number) (r : Standing) → pos 0 <ℤ d → Bounding x r → IsUpper x r → SolvedBy m d x r q → Less v q → ExtendsTo m d x v r
high-extends m d x v q r hd b s e l =
    let T = value m d r.row *ℤ v.den +ℤ factor x r *ℤ (v.num *ℤ d) in
    let W = q.num *ℤ v.den +ℤ neg_ℤ (v.num *ℤ q.den) in
    let dk = d *ℤ size x r in
    let turn : d *ℤ neg_ℤ (factor x r) ≡ neg_ℤ dk = ap (λ c. d *ℤ neg_ℤ c) s ∙ *ℤ_comm d (neg_ℤ (size x r)) ∙ neg-*ℤ (size x r) d ∙ ap neg_ℤ (*ℤ_comm (size x r) d) in
    let is : T *ℤ q.den ≡ neg_ℤ (dk *ℤ W) = sum-at (value m d r.row) (factor x r) d q v e ∙ ap (λ c. c *ℤ W) turn ∙ neg-*ℤ dk W in
    let w0 : pos 0 <ℤ W = omega (arith, ints, l) in
    let wk = times-pos dk W (times-pos d (size x r) hd b.sized) w0 in
    let tq : (T *ℤ q.den) <ℤ pos 0 = omega (arith, ints, is, wk) in
    below-compares r.row.op T b.inequality b.comparing ((compares-scaled op.Lt T q.den q.reduced.positive).1 tq)

-- the row's sum is 0 at its own number
pub solved-zero : (m : ℕ → ℤ) (d : ℤ) (x : ℕ) (r : Standing) (q : Number) → SolvedBy m d x r q → value m d r.row *ℤ q.den +ℤ factor x r *ℤ (q.num *ℤ d) ≡ pos 0
solved-zero m d x r q e =
    let T = value m d r.row *ℤ q.den +ℤ factor x r *ℤ (q.num *ℤ d) in
    let w : q.num *ℤ q.den +ℤ neg_ℤ (q.num *ℤ q.den) ≡ pos 0 = omega (arith, ints) in
    *ℤ-cancel T (pos 0) q.den q.reduced.positive (sum-at (value m d r.row) (factor x r) d q q e ∙ ap (λ z. (d *ℤ neg_ℤ (factor x r)) *ℤ z) w ∙ *ℤ-zero (d *ℤ neg_ℤ (factor x r)) ∙ sym (zero-*ℤ q.den))

-- where the sum of a lower row is 0, an upper row that meets it is met
pub high-at : (m : ℕ → ℤ) (d e z : ℤ) (x : ℕ) (l u : Standing) → pos 0 <ℤ e → Bounding x l → IsLower x l → IsUpper x u → Meeting m d x l u → value m d l.row *ℤ e +ℤ factor x l *ℤ z ≡ pos 0 → Extends m d x e z u
high-at m d e z x l u he bl sl su h none =
    let A = value m d l.row in
    let C = value m d u.row in
    let a = size x u in
    let b = size x l in
    let zero : A *ℤ e +ℤ neg_ℤ b *ℤ z ≡ pos 0 = ap (λ c. A *ℤ e +ℤ c *ℤ z) (sym sl) ∙ none in
    let same : (a *ℤ A +ℤ b *ℤ C) *ℤ e ≡ (C *ℤ e +ℤ a *ℤ z) *ℤ b = identity A C a b e z zero in
    let times = (compares-scaled u.row.op (a *ℤ A +ℤ b *ℤ C) e he).0 h.high in
    let all = (compares-scaled u.row.op (C *ℤ e +ℤ a *ℤ z) b bl.sized).1 (subst (Compares u.row.op) same times) in
    subst (λ c. Compares u.row.op (C *ℤ e +ℤ c *ℤ z)) (sym su) all
  where
    identity : (A C a b e z : ℤ) → A *ℤ e +ℤ neg_ℤ b *ℤ z ≡ pos 0 → (a *ℤ A +ℤ b *ℤ C) *ℤ e ≡ (C *ℤ e +ℤ a *ℤ z) *ℤ b
    identity A C a b e z none =
        let f1 = +ℤ-*ℤ (a *ℤ A) (b *ℤ C) e in
        let f2 = +ℤ-*ℤ (C *ℤ e) (a *ℤ z) b in
        let f3 = neg-*ℤ b z in
        let bz : A *ℤ e ≡ b *ℤ z = omega (arith, ints, f3, none) in
        let m1 : (a *ℤ A) *ℤ e ≡ (a *ℤ z) *ℤ b = *ℤ_assoc a A e ∙ ap (λ y. a *ℤ y) (bz ∙ *ℤ_comm b z) ∙ sym (*ℤ_assoc a z b) in
        let m2 : (b *ℤ C) *ℤ e ≡ (C *ℤ e) *ℤ b = ap (λ y. y *ℤ e) (*ℤ_comm b C) ∙ *ℤ_right_comm C b e in
        omega (arith, ints, f1, f2, m1, m2)

-- where the sum of an upper row is 0, a lower row that meets it is met
pub low-at : (m : ℕ → ℤ) (d e z : ℤ) (x : ℕ) (l u : Standing) → pos 0 <ℤ e → Bounding x u → IsLower x l → IsUpper x u → Meeting m d x l u → value m d u.row *ℤ e +ℤ factor x u *ℤ z ≡ pos 0 → Extends m d x e z l
low-at m d e z x l u he bu sl su h none =
    let A = value m d l.row in
    let C = value m d u.row in
    let a = size x u in
    let b = size x l in
    let zero : C *ℤ e +ℤ a *ℤ z ≡ pos 0 = ap (λ c. C *ℤ e +ℤ c *ℤ z) (sym su) ∙ none in
    let same : (a *ℤ A +ℤ b *ℤ C) *ℤ e ≡ (A *ℤ e +ℤ neg_ℤ b *ℤ z) *ℤ a = identity A C a b e z zero in
    let times = (compares-scaled l.row.op (a *ℤ A +ℤ b *ℤ C) e he).0 h.low in
    let all = (compares-scaled l.row.op (A *ℤ e +ℤ neg_ℤ b *ℤ z) a bu.sized).1 (subst (Compares l.row.op) same times) in
    subst (λ c. Compares l.row.op (A *ℤ e +ℤ c *ℤ z)) (sym sl) all
  where
    identity : (A C a b e z : ℤ) → C *ℤ e +ℤ a *ℤ z ≡ pos 0 → (a *ℤ A +ℤ b *ℤ C) *ℤ e ≡ (A *ℤ e +ℤ neg_ℤ b *ℤ z) *ℤ a
    identity A C a b e z none =
        let f1 = +ℤ-*ℤ (a *ℤ A) (b *ℤ C) e in
        let f2 = +ℤ-*ℤ (A *ℤ e) (neg_ℤ b *ℤ z) a in
        let f3 = neg-*ℤ b z in
        let f4 = neg-*ℤ (b *ℤ z) a in
        let f5 : (neg_ℤ b *ℤ z) *ℤ a ≡ neg_ℤ ((b *ℤ z) *ℤ a) = ap (λ y. y *ℤ a) f3 ∙ f4 in
        let az : C *ℤ e ≡ neg_ℤ (a *ℤ z) = omega (arith, ints, none) in
        let m1 : (a *ℤ A) *ℤ e ≡ (A *ℤ e) *ℤ a = ap (λ y. y *ℤ e) (*ℤ_comm a A) ∙ *ℤ_right_comm A a e in
        let m2 : (b *ℤ C) *ℤ e ≡ b *ℤ neg_ℤ (a *ℤ z) = *ℤ_assoc b C e ∙ ap (λ y. b *ℤ y) az in
        let m3 : b *ℤ neg_ℤ (a *ℤ z) ≡ neg_ℤ ((b *ℤ z) *ℤ a) = *ℤ_comm b (neg_ℤ (a *ℤ z)) ∙ neg-*ℤ (a *ℤ z) b ∙ ap neg_ℤ (*ℤ_comm (a *ℤ z) b ∙ ap (λ y. b *ℤ y) (*ℤ_comm a z) ∙ sym (*ℤ_assoc b z a)) in
        omega (arith, ints, f1, f2, f5, m1, m2, m3)

-- an upper row that is met where its number is at most v has the sum 0
pub high-zero : (m : ℕ → ℤ) (d : ℤ) (x : ℕ) (v q : Number) (r : Standing) → pos 0 <ℤ d → Bounding x r → IsUpper x r → SolvedBy m d x r q → AtMost q v → ExtendsTo m d x v r → value m d r.row *ℤ v.den +ℤ factor x r *ℤ (v.num *ℤ d) ≡ pos 0
high-zero m d x v q r hd b s e l met =
    let T = value m d r.row *ℤ v.den +ℤ factor x r *ℤ (v.num *ℤ d) in
    let W = q.num *ℤ v.den +ℤ neg_ℤ (v.num *ℤ q.den) in
    let dk = d *ℤ size x r in
    let turn : d *ℤ neg_ℤ (factor x r) ≡ neg_ℤ dk = ap (λ c. d *ℤ neg_ℤ c) s ∙ *ℤ_comm d (neg_ℤ (size x r)) ∙ neg-*ℤ (size x r) d ∙ ap neg_ℤ (*ℤ_comm (size x r) d) in
    let is : T *ℤ q.den ≡ neg_ℤ (W *ℤ dk) = sum-at (value m d r.row) (factor x r) d q v e ∙ ap (λ c. c *ℤ W) turn ∙ neg-*ℤ dk W ∙ ap neg_ℤ (*ℤ_comm dk W) in
    let w0 : W ≤ℤ pos 0 = omega (arith, ints, l) in
    let wk = (compares-scaled op.Le W dk (times-pos d (size x r) hd b.sized)).0 w0 in
    let t0 : T ≤ℤ pos 0 = most r.row.op b.inequality b.comparing T met in
    let tq = (compares-scaled op.Le T q.den q.reduced.positive).0 t0 in
    let zero : T *ℤ q.den ≡ pos 0 = omega (arith, ints, is, wk, tq) in
    *ℤ-cancel T (pos 0) q.den q.reduced.positive (zero ∙ sym (zero-*ℤ q.den))
  where
    most : (o : Op) → is_equation o ≡ false → o ≢ op.Ne → (z : ℤ) → Compares o z → z ≤ℤ pos 0
    most op.Eq f n z h = cc
    most op.Lt f n z h = omega (arith, ints, h)
    most op.Le f n z h = h
    most op.Ne f n z h = absurd (n refl)
