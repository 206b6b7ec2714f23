-- The sum of a row in the range of the numbers is its sum.
use Rattle.std.proofs.Common.{◌≡◌, ◌↔◌, ℕ, Bool, true, false, ℤ, pos, ◌+ℤ◌, ◌*ℤ◌, ◌<ℤ◌, Some, List, [], ◌∷◌, refl, sym, ap, subst, ◌∙◌, arith}
use Rattle.std.proofs.lemmas.Int.{ints}
use Rattle.scasp_checker_rules.specs.BoundedTruth.{summed, bounded_sum}
use Rattle.scasp_num.specs.declared.linear.Coeff.{Coeff}
use Rattle.scasp_num.specs.Number.{Number, IsFraction}
use Rattle.scasp_num.specs.Arithmetic.{◌>>=◌, sum_of, product_of}
use Rattle.scasp_num.specs.Linear.{Linear, Compares, compares, weighted}
use Rattle.scasp_num.specs.Values.{HaveDenominator, numerator_under}
use Rattle.scasp_num.proofs.Comparing.{compares-true, compares-is}
use Rattle.scasp_num.proofs.Exact.{bind-some, lowest-exact, sum_of-exact, product_of-exact}
use Rattle.scasp_num.proofs.Integers.{*ℤ_assoc, *ℤ_right_comm, *ℤ-cancel}
use Rattle.scasp_num.proofs.Meaning.{compares-scaled}
use Rattle.scasp_num.proofs.Numbers.{times-pos}
use Rattle.scasp_num.proofs.Valuations.{denominator-exists, Holds-Meets}
use Rattle.scasp_rows.specs.Samples.{plus_product}
use Rattle.scasp_rows.specs.Steps.{whole}
use Rattle.scasp_rows.proofs.Solving.{fraction-sum, whole-fraction}
use Rattle.scasp_syntax.specs.RowTruth.{point, row_holds}
use Rattle.scasp_syntax.specs.Values.{Sub}

-- a whole number times a fraction
times-fraction : (q v r : Number) (c m d : ℤ) → q.num ≡ c *ℤ q.den → IsFraction v m d → IsFraction r (q.num *ℤ v.num) (q.den *ℤ v.den) → IsFraction r (c *ℤ m) d
times-fraction q v r c m d e f h =
    let k = q.den *ℤ v.den in
    let top : (q.num *ℤ v.num) *ℤ d ≡ (c *ℤ m) *ℤ k =
    *ℤ_assoc q.num v.num d ∙ (λ i. e i *ℤ f i) ∙ shuffle c q.den m v.den in
    *ℤ-cancel (r.num *ℤ d) ((c *ℤ m) *ℤ r.den) k (times-pos q.den v.den q.reduced.positive v.reduced.positive)
    (*ℤ_right_comm r.num d k ∙ ap (λ z. z *ℤ d) h ∙ *ℤ_right_comm (q.num *ℤ v.num) r.den d ∙ ap (λ z. z *ℤ r.den) top ∙ *ℤ_right_comm (c *ℤ m) k r.den)
  where
    shuffle : (c g m h : ℤ) → (c *ℤ g) *ℤ (m *ℤ h) ≡ (c *ℤ m) *ℤ (g *ℤ h)
    shuffle c g m h =
        sym (*ℤ_assoc (c *ℤ g) m h) ∙ ap (λ z. z *ℤ h) (*ℤ_right_comm c g m) ∙ *ℤ_assoc (c *ℤ m) g h

plus_product-fraction : (s : Number) (c : ℤ) (v t : Number) (a m d : ℤ) → Some t ≡ plus_product s c v → IsFraction s a d → IsFraction v m d → IsFraction t (a +ℤ c *ℤ m) d
plus_product-fraction s c v t a m d e f g =
    let q = bind-some (whole c) (λ q. product_of q v >>= (λ product. sum_of s product)) t e in
    let r = bind-some (product_of q.0 v) (λ product. sum_of s product) t q.2 in
    let is : q.0.num ≡ c *ℤ q.0.den = omega (arith, ints, lowest-exact q.0 c (pos 1) q.1) in
    fraction-sum s r.0 t a (c *ℤ m) d f (times-fraction q.0 v r.0 c m d is g (product_of-exact q.0 v r.0 r.1)) (sum_of-exact s r.0 t r.2)

-- the values over one denominator
summed-fraction : (v : Sub) (m : ℕ → ℤ) (d : ℤ) (ks : List Coeff) (s t : Number) (a : ℤ) → HaveDenominator (point v) m d ks → Some t ≡ summed v ks s → IsFraction s a d → IsFraction t (a +ℤ weighted m ks) d
summed-fraction v m d [] s t a h e f =
    let same : s ≡ t = cc in
    let sum : a ≡ a +ℤ pos 0 = omega (arith, ints) in
    subst (λ z. IsFraction t z d) sum (subst (λ (q : Number). IsFraction q a d) same f)
summed-fraction v m d (k ∷ ks) s t a h e f =
    let n = bind-some (plus_product s k.c (point v k.x)) (summed v ks) t e in
    let first = plus_product-fraction s k.c (point v k.x) n.0 a (m k.x) d n.1 f h.0 in
    let rest = summed-fraction v m d ks n.0 t (a +ℤ k.c *ℤ m k.x) h.1 n.2 first in
    let sum : (a +ℤ k.c *ℤ m k.x) +ℤ weighted m ks ≡ a +ℤ (k.c *ℤ m k.x +ℤ weighted m ks) = omega (arith, ints) in
    subst (λ z. IsFraction t z d) sum rest

same_truth : (x y : Bool) → (x ≡ true → y ≡ true) → (y ≡ true → x ≡ true) → x ≡ y
same_truth true y f g = sym (f refl)
same_truth false true f g = g refl
same_truth false false f g = refl

-- the sum compares as the row does
pub row-tested : (v : Sub) (r : Linear) (sum : Number) → Some sum ≡ bounded_sum v r → compares r.op sum.num ≡ row_holds v r
row-tested v r sum e =
    let den = denominator-exists (point v) r.coeffs in
    let m : ℕ → ℤ = den.0 in
    let d : ℤ = den.1 in
    let above : pos 0 <ℤ d = den.2 in
    let have = den.3 in
    let b = bind-some (whole r.constant) (summed v r.coeffs) sum e in
    let n : ℤ = r.constant *ℤ d +ℤ weighted m r.coeffs in
    let turned : n ≡ weighted m r.coeffs +ℤ r.constant *ℤ d = omega (arith, ints) in
    let f : IsFraction sum n d = summed-fraction v m d r.coeffs b.0 sum (r.constant *ℤ d) have b.2 (whole-fraction b.0 r.constant d b.1) in
    let meets = Holds-Meets (point v) m d r above have in
    let by_d = compares-scaled r.op sum.num d above in
    let by_den = compares-scaled r.op n sum.den sum.reduced.positive in
    same_truth (compares r.op sum.num) (row_holds v r)
    (λ h.
    let k : Compares r.op (n *ℤ sum.den) = subst (Compares r.op) f (by_d.0 (compares-is r.op sum.num h)) in
    compares-true r.op (numerator_under (point v) r) (meets.1 (subst (Compares r.op) turned (by_den.1 k))))
    (λ h.
    let k : Compares r.op n = subst (Compares r.op) (sym turned) (meets.0 (compares-is r.op (numerator_under (point v) r) h)) in
    compares-true r.op sum.num (by_d.1 (subst (Compares r.op) (sym f) (by_den.0 k))))
