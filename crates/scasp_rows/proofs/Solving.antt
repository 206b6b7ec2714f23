-- The number at which a row's sum is 0, and what the row compares at other numbers.
use Rattle.std.proofs.Common.{◌≡◌, ◌⊎◌, inl, inr, ℕ, ◌==◌, Bool, true, false, ℤ, pos, ◌+ℤ◌, ◌*ℤ◌, neg_ℤ, ◌<ℤ◌, ◌≤ℤ◌, Some, List, [], ◌∷◌, sym, ap, subst, ◌∙◌, arith}
use Rattle.std.specs.Prelude.{if◌then◌else◌}
use Rattle.std.proofs.lemmas.Int.{ints}
use Rattle.std.proofs.Math.IntN.{*ℤ_comm, *ℤ-zero, neg_ℤ-neg_ℤ}
use Rattle.scasp_num.specs.declared.linear.Coeff.{Coeff}
use Rattle.scasp_num.specs.declared.linear.RatPair.{RatPair}
use Rattle.scasp_num.specs.declared.linear.Op.TheVariants as op
use Rattle.scasp_num.specs.Number.{Number, IsFraction}
use Rattle.scasp_num.specs.Arithmetic.{◌>>=◌, sum_of, product_of, quotient_of}
use Rattle.scasp_num.specs.Linear.{Linear, weighted, coefficient}
use Rattle.scasp_num.proofs.Integers.{*ℤ_assoc, *ℤ-+ℤ, +ℤ-*ℤ, *ℤ_right_comm, *ℤ-cancel, neg-*ℤ}
use Rattle.scasp_num.proofs.Numbers.{times-pos}
use Rattle.scasp_num.proofs.Exact.{bind-some, lowest-exact, sum_of-exact, product_of-exact, quotient_of-exact}
use Rattle.scasp_num.proofs.Meaning.{compares-scaled}
use Rattle.scasp_rows.specs.Steps.{whole}
use Rattle.scasp_rows.specs.Samples.{value_in, plus_product, plus_term, sum_with, over, solution_of}
use Rattle.scasp_rows.proofs.Sums.{value}
use Rattle.scasp_rows.proofs.Values.{zeroed}

-- ---- products of four factors

swap-last : (a b c d : ℤ) → a *ℤ b *ℤ c *ℤ d ≡ a *ℤ b *ℤ d *ℤ c
swap-last a b c d = *ℤ_right_comm (a *ℤ b) c d

swap-middle : (a b c d : ℤ) → a *ℤ b *ℤ c *ℤ d ≡ a *ℤ c *ℤ b *ℤ d
swap-middle a b c d = ap (λ z. z *ℤ d) (*ℤ_right_comm a b c)

swap-first : (a b c d : ℤ) → a *ℤ b *ℤ c *ℤ d ≡ b *ℤ a *ℤ c *ℤ d
swap-first a b c d = ap (λ z. z *ℤ c *ℤ d) (*ℤ_comm a b)

-- a product with a product of two
times-two : (a b c : ℤ) → a *ℤ (b *ℤ c) ≡ a *ℤ b *ℤ c
times-two a b c = sym (*ℤ_assoc a b c)

-- ---- fractions over one denominator

pub fraction-sum : (p q r : Number) (a b d : ℤ) → IsFraction p a d → IsFraction q b d → IsFraction r (p.num *ℤ q.den +ℤ q.num *ℤ p.den) (p.den *ℤ q.den) → IsFraction r (a +ℤ b) d
fraction-sum p q r a b d f g h =
    let k = p.den *ℤ q.den in
    let n = p.num *ℤ q.den +ℤ q.num *ℤ p.den in
    let left : (p.num *ℤ q.den) *ℤ d ≡ a *ℤ k = *ℤ_right_comm p.num q.den d ∙ ap (λ z. z *ℤ q.den) f ∙ *ℤ_assoc a p.den q.den in
    let right : (q.num *ℤ p.den) *ℤ d ≡ b *ℤ k = *ℤ_right_comm q.num p.den d ∙ ap (λ z. z *ℤ p.den) g ∙ *ℤ_assoc b q.den p.den ∙ ap (λ z. b *ℤ z) (*ℤ_comm q.den p.den) in
    let all : n *ℤ d ≡ (a +ℤ b) *ℤ k = +ℤ-*ℤ (p.num *ℤ q.den) (q.num *ℤ p.den) d ∙ (λ i. left i +ℤ right i) ∙ sym (+ℤ-*ℤ a b k) in
    *ℤ-cancel (r.num *ℤ d) ((a +ℤ b) *ℤ r.den) k (times-pos p.den q.den p.reduced.positive q.reduced.positive)
    (*ℤ_right_comm r.num d k ∙ ap (λ z. z *ℤ d) h ∙ *ℤ_right_comm n r.den d ∙ ap (λ z. z *ℤ r.den) all ∙ *ℤ_right_comm (a +ℤ b) k r.den)

whole-is : (q : Number) (c : ℤ) → Some q ≡ whole c → q.num ≡ c *ℤ q.den
whole-is q c e = omega (arith, ints, lowest-exact q c (pos 1) e)

pub whole-fraction : (q : Number) (c d : ℤ) → Some q ≡ whole c → IsFraction q (c *ℤ d) d
whole-fraction q c d e = ap (λ z. z *ℤ d) (whole-is q c e) ∙ *ℤ_right_comm c q.den d

fraction-product : (q v r : Number) (c m d : ℤ) → q.num ≡ c *ℤ q.den → IsFraction v m d → IsFraction r (q.num *ℤ v.num) (q.den *ℤ v.den) → IsFraction r (c *ℤ m) d
fraction-product q v r c m d e f h =
    let k = q.den *ℤ v.den in
    let top : (q.num *ℤ v.num) *ℤ d ≡ (c *ℤ m) *ℤ k =
    *ℤ_assoc q.num v.num d ∙ (λ i. e i *ℤ f i) ∙ shuffle c q.den m v.den in
    *ℤ-cancel (r.num *ℤ d) ((c *ℤ m) *ℤ r.den) k (times-pos q.den v.den q.reduced.positive v.reduced.positive)
    (*ℤ_right_comm r.num d k ∙ ap (λ z. z *ℤ d) h ∙ *ℤ_right_comm (q.num *ℤ v.num) r.den d ∙ ap (λ z. z *ℤ r.den) top ∙ *ℤ_right_comm (c *ℤ m) k r.den)
  where
    shuffle : (c g m h : ℤ) → (c *ℤ g) *ℤ (m *ℤ h) ≡ (c *ℤ m) *ℤ (g *ℤ h)
    shuffle c g m h = times-two (c *ℤ g) m h ∙ swap-middle c g m h ∙ sym (times-two (c *ℤ m) g h)

-- ---- a row's sum

plus_product-fraction : (s : Number) (c : ℤ) (v t : Number) (a m d : ℤ) → Some t ≡ plus_product s c v → IsFraction s a d → IsFraction v m d → IsFraction t (a +ℤ c *ℤ m) d
plus_product-fraction s c v t a m d e f g =
    let q = bind-some (whole c) (λ q. product_of q v >>= (λ product. sum_of s product)) t e in
    let r = bind-some (product_of q.0 v) (λ product. sum_of s product) t q.2 in
    fraction-sum s r.0 t a (c *ℤ m) d f (fraction-product q.0 v r.0 c m d (whole-is q.0 c q.1) g (product_of-exact q.0 v r.0 r.1)) (sum_of-exact s r.0 t r.2)

-- the values of all variables over one denominator
abbrev pub HasAll : List RatPair → (ℕ → ℤ) → ℤ → Type 0
HasAll point m d = (y : ℕ) → IsFraction (value_in point y) (m y) d

plus_term-fraction : (x : ℕ) (point : List RatPair) (m : ℕ → ℤ) (d : ℤ) (k : Coeff) (s t : Number) (a : ℤ) → HasAll point m d → Some t ≡ plus_term x point k s → IsFraction s a d → IsFraction t (a +ℤ k.c *ℤ zeroed m x k.x) d
plus_term-fraction x point m d k s t a h e f = by (k.x == x) e
  where
    by : (b : Bool) → Some t ≡ (if b then Some s else plus_product s k.c (value_in point k.x)) → IsFraction t (a +ℤ k.c *ℤ (if b then pos 0 else m k.x)) d
    by true e =
        let same : s ≡ t = cc in
        let none = *ℤ-zero k.c in
        let sum : a ≡ a +ℤ k.c *ℤ pos 0 = omega (arith, ints, none) in
        subst (λ z. IsFraction t z d) sum (subst (λ (q : Number). IsFraction q a d) same f)
    by false e = plus_product-fraction s k.c (value_in point k.x) t a (m k.x) d e f (h k.x)

sum_with-fraction : (x : ℕ) (point : List RatPair) (m : ℕ → ℤ) (d : ℤ) (ks : List Coeff) (s t : Number) (a : ℤ) → HasAll point m d → Some t ≡ sum_with x point ks s → IsFraction s a d → IsFraction t (a +ℤ weighted (zeroed m x) ks) d
sum_with-fraction x point m d [] s t a h e f =
    let same : s ≡ t = cc in
    let sum : a ≡ a +ℤ pos 0 = omega (arith, ints) in
    subst (λ z. IsFraction t z d) sum (subst (λ (q : Number). IsFraction q a d) same f)
sum_with-fraction x point m d (k ∷ ks) s t a h e f =
    let n = bind-some (plus_term x point k s) (λ next. sum_with x point ks next) t e in
    let first = plus_term-fraction x point m d k s n.0 a h n.1 f in
    let rest = sum_with-fraction x point m d ks n.0 t (a +ℤ k.c *ℤ zeroed m x k.x) h n.2 first in
    let sum : (a +ℤ k.c *ℤ zeroed m x k.x) +ℤ weighted (zeroed m x) ks ≡ a +ℤ (k.c *ℤ zeroed m x k.x +ℤ weighted (zeroed m x) ks) = omega (arith, ints) in
    subst (λ z. IsFraction t z d) sum rest

-- the quotient by a whole number
pub over-is : (s q : Number) (c a d : ℤ) → Some q ≡ over s c → IsFraction s a d → q.num *ℤ (d *ℤ c) ≡ a *ℤ q.den
over-is s q c a d e f =
    let w = bind-some (whole c) (λ divisor. quotient_of s divisor) q e in
    let g = quotient_of-exact s w.0 q w.2 in
    let wn = whole-is w.0 c w.1 in
    let step : (q.num *ℤ s.den *ℤ c) *ℤ w.0.den ≡ (s.num *ℤ q.den) *ℤ w.0.den =
    *ℤ_assoc (q.num *ℤ s.den) c w.0.den ∙ ap (λ z. (q.num *ℤ s.den) *ℤ z) (sym wn) ∙ *ℤ_assoc q.num s.den w.0.num ∙ g ∙ *ℤ_right_comm s.num w.0.den q.den in
    let short : q.num *ℤ s.den *ℤ c ≡ s.num *ℤ q.den = *ℤ-cancel (q.num *ℤ s.den *ℤ c) (s.num *ℤ q.den) w.0.den w.0.reduced.positive step in
    let long : (q.num *ℤ (d *ℤ c)) *ℤ s.den ≡ (a *ℤ q.den) *ℤ s.den =
    ap (λ z. z *ℤ s.den) (times-two q.num d c) ∙ swap-last q.num d c s.den ∙ swap-middle' q.num d s.den c ∙ swap-last q.num s.den d c ∙ ap (λ z. z *ℤ d) short ∙ *ℤ_right_comm s.num q.den d ∙ ap (λ z. z *ℤ q.den) f ∙ *ℤ_right_comm a s.den q.den in
    *ℤ-cancel (q.num *ℤ (d *ℤ c)) (a *ℤ q.den) s.den s.reduced.positive long
  where
    swap-middle' : (a b c d : ℤ) → a *ℤ b *ℤ c *ℤ d ≡ a *ℤ c *ℤ b *ℤ d
    swap-middle' a b c d = ap (λ z. z *ℤ d) (*ℤ_right_comm a b c)

-- the number at which the row's sum is 0
pub solution-is : (x : ℕ) (point : List RatPair) (m : ℕ → ℤ) (d : ℤ) (r : Linear) (q : Number) → HasAll point m d → Some q ≡ solution_of x point r → q.num *ℤ (d *ℤ neg_ℤ (coefficient x r.coeffs)) ≡ value (zeroed m x) d r *ℤ q.den
unfolding solution_of
solution-is x point m d r q h e =
    let c = bind-some (whole r.constant) (λ constant. sum_with x point r.coeffs constant >>= (λ sum. over sum (neg_ℤ (coefficient x r.coeffs)))) q e in
    let s = bind-some (sum_with x point r.coeffs c.0) (λ sum. over sum (neg_ℤ (coefficient x r.coeffs))) q c.2 in
    let sum = sum_with-fraction x point m d r.coeffs c.0 s.0 (r.constant *ℤ d) h s.1 (whole-fraction c.0 r.constant d c.1) in
    let turn : r.constant *ℤ d +ℤ weighted (zeroed m x) r.coeffs ≡ value (zeroed m x) d r = omega (arith, ints) in
    over-is s.0 q (neg_ℤ (coefficient x r.coeffs)) (value (zeroed m x) d r) d s.2 (subst (λ z. IsFraction s.0 z d) turn sum)

-- ---- what a row compares at a number v, from the number q at which its sum is 0

-- the sum at v, times the denominator of q, is -c*d times the difference of q and v
pub sum-at : (A c d : ℤ) (q v : Number) → q.num *ℤ (d *ℤ neg_ℤ c) ≡ A *ℤ q.den → (A *ℤ v.den +ℤ c *ℤ (v.num *ℤ d)) *ℤ q.den ≡ (d *ℤ neg_ℤ c) *ℤ (q.num *ℤ v.den +ℤ neg_ℤ (v.num *ℤ q.den))
sum-at A c d q v e =
    let w = d *ℤ neg_ℤ c in
    let left = +ℤ-*ℤ (A *ℤ v.den) (c *ℤ (v.num *ℤ d)) q.den in
    let right = *ℤ-+ℤ w (q.num *ℤ v.den) (neg_ℤ (v.num *ℤ q.den)) in
    let m1 : (A *ℤ v.den) *ℤ q.den ≡ w *ℤ (q.num *ℤ v.den) = *ℤ_right_comm A v.den q.den ∙ ap (λ z. z *ℤ v.den) (sym e ∙ *ℤ_comm q.num w) ∙ *ℤ_assoc w q.num v.den in
    let m2 : w *ℤ neg_ℤ (v.num *ℤ q.den) ≡ (d *ℤ c) *ℤ (v.num *ℤ q.den) = *ℤ_comm w (neg_ℤ (v.num *ℤ q.den)) ∙ neg-*ℤ (v.num *ℤ q.den) w ∙ ap neg_ℤ (ap (λ z. (v.num *ℤ q.den) *ℤ z) (*ℤ_comm d (neg_ℤ c) ∙ neg-*ℤ c d) ∙ *ℤ_comm (v.num *ℤ q.den) (neg_ℤ (c *ℤ d)) ∙ neg-*ℤ (c *ℤ d) (v.num *ℤ q.den)) ∙ neg_ℤ-neg_ℤ ((c *ℤ d) *ℤ (v.num *ℤ q.den)) ∙ ap (λ z. z *ℤ (v.num *ℤ q.den)) (*ℤ_comm c d) in
    let m3 : (c *ℤ (v.num *ℤ d)) *ℤ q.den ≡ (d *ℤ c) *ℤ (v.num *ℤ q.den) = ap (λ z. z *ℤ q.den) (times-two c v.num d ∙ *ℤ_right_comm c v.num d ∙ ap (λ z. z *ℤ v.num) (*ℤ_comm c d)) ∙ *ℤ_assoc (d *ℤ c) v.num q.den in
    left ∙ (λ i. m1 i +ℤ (m3 ∙ sym m2) i) ∙ sym right

-- ---- an order of numbers

abbrev pub Less : Number → Number → Type 0
Less p q = (p.num *ℤ q.den) <ℤ (q.num *ℤ p.den)

abbrev pub AtMost : Number → Number → Type 0
AtMost p q = (p.num *ℤ q.den) ≤ℤ (q.num *ℤ p.den)

chain-strictly : (A k B b C c : ℤ) → pos 0 <ℤ b → pos 0 <ℤ k → pos 0 <ℤ c → ((A *ℤ b) ≤ℤ (B *ℤ k)) → ((B *ℤ c) ≤ℤ (C *ℤ b)) → (((A *ℤ b) <ℤ (B *ℤ k)) ⊎ ((B *ℤ c) <ℤ (C *ℤ b))) → (A *ℤ c) <ℤ (C *ℤ k)
chain-strictly A k B b C c hb hk hc s t strict =
    let y = A *ℤ b +ℤ neg_ℤ (B *ℤ k) in
    let z = B *ℤ c +ℤ neg_ℤ (C *ℤ b) in
    let y0 : y ≤ℤ pos 0 = omega (arith, ints) in
    let z0 : z ≤ℤ pos 0 = omega (arith, ints) in
    let yc = (compares-scaled op.Le y c hc).0 y0 in
    let zk = (compares-scaled op.Le z k hk).0 z0 in
    let e1 = +ℤ-*ℤ (A *ℤ b) (neg_ℤ (B *ℤ k)) c in
    let e2 = neg-*ℤ (B *ℤ k) c in
    let e3 = +ℤ-*ℤ (B *ℤ c) (neg_ℤ (C *ℤ b)) k in
    let e4 = neg-*ℤ (C *ℤ b) k in
    let w = A *ℤ c +ℤ neg_ℤ (C *ℤ k) in
    let e5 = +ℤ-*ℤ (A *ℤ c) (neg_ℤ (C *ℤ k)) b in
    let e6 = neg-*ℤ (C *ℤ k) b in
    let m1 : (A *ℤ b) *ℤ c ≡ (A *ℤ c) *ℤ b = *ℤ_right_comm A b c in
    let m2 : (B *ℤ c) *ℤ k ≡ (B *ℤ k) *ℤ c = *ℤ_right_comm B c k in
    let m3 : (C *ℤ b) *ℤ k ≡ (C *ℤ k) *ℤ b = *ℤ_right_comm C b k in
    let sum : w *ℤ b ≡ y *ℤ c +ℤ z *ℤ k = omega (arith, ints, e1, e2, e3, e4, e5, e6, m1, m2, m3) in
    let wb : (w *ℤ b) <ℤ pos 0 = elim strict [
      | inl l ↦ (let y1 : y <ℤ pos 0 = omega (arith, ints, l) in let h = (compares-scaled op.Lt y c hc).0 y1 in omega (arith, ints, h, zk, sum))
      | inr l ↦ (let z1 : z <ℤ pos 0 = omega (arith, ints, l) in let h = (compares-scaled op.Lt z k hk).0 z1 in omega (arith, ints, h, yc, sum))
    ] in
    let w0 : w <ℤ pos 0 = (compares-scaled op.Lt w b hb).1 wb in
    omega (arith, ints, w0)

pub most-less : (p q r : Number) → AtMost p q → Less q r → Less p r
most-less p q r h g = chain-strictly p.num p.den q.num q.den r.num r.den q.reduced.positive p.reduced.positive r.reduced.positive h (omega (arith, ints, g)) (inr g)

pub less-most : (p q r : Number) → Less p q → AtMost q r → Less p r
less-most p q r h g = chain-strictly p.num p.den q.num q.den r.num r.den q.reduced.positive p.reduced.positive r.reduced.positive (omega (arith, ints, h)) g (inl h)

-- from fractions over any two denominators
pub less-by : (p q : Number) (a d b e : ℤ) → pos 0 <ℤ d → pos 0 <ℤ e → IsFraction p a d → IsFraction q b e → (a *ℤ e) <ℤ (b *ℤ d) → Less p q
less-by p q a d b e hd he f g h =
    let w = p.num *ℤ q.den +ℤ neg_ℤ (q.num *ℤ p.den) in
    let u = a *ℤ e +ℤ neg_ℤ (b *ℤ d) in
    let k = p.den *ℤ q.den in
    let u0 : u <ℤ pos 0 = omega (arith, ints, h) in
    let uk = (compares-scaled op.Lt u k (times-pos p.den q.den p.reduced.positive q.reduced.positive)).0 u0 in
    let e1 = +ℤ-*ℤ (a *ℤ e) (neg_ℤ (b *ℤ d)) k in
    let e2 = neg-*ℤ (b *ℤ d) k in
    let e3 = +ℤ-*ℤ (p.num *ℤ q.den) (neg_ℤ (q.num *ℤ p.den)) (d *ℤ e) in
    let e4 = neg-*ℤ (q.num *ℤ p.den) (d *ℤ e) in
    let m1 : (p.num *ℤ q.den) *ℤ (d *ℤ e) ≡ (a *ℤ e) *ℤ k = times-two (p.num *ℤ q.den) d e ∙ swap-middle p.num q.den d e ∙ ap (λ z. z *ℤ q.den *ℤ e) f ∙ swap-last (a) p.den q.den e ∙ swap-middle a p.den e q.den ∙ sym (times-two (a *ℤ e) p.den q.den) in
    let m2 : (q.num *ℤ p.den) *ℤ (d *ℤ e) ≡ (b *ℤ d) *ℤ k = ap (λ z. (q.num *ℤ p.den) *ℤ z) (*ℤ_comm d e) ∙ times-two (q.num *ℤ p.den) e d ∙ swap-middle q.num p.den e d ∙ ap (λ z. z *ℤ p.den *ℤ d) g ∙ swap-last b q.den p.den d ∙ swap-middle b q.den d p.den ∙ swap-last b d q.den p.den ∙ sym (times-two (b *ℤ d) p.den q.den) in
    let wk : (w *ℤ (d *ℤ e)) <ℤ pos 0 = omega (arith, ints, e1, e2, e3, e4, m1, m2, uk) in
    let w0 : w <ℤ pos 0 = (compares-scaled op.Lt w (d *ℤ e) (times-pos d e hd he)).1 wk in
    omega (arith, ints, w0)
