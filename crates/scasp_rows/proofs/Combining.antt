-- Sums of points: n times the values of one point and those of another meet the rows that both meet, and for a
-- large n also what the first one meets strictly.
use Rattle.std.proofs.Common.{◌≡◌, ◌≢◌, ◌⊎◌, inl, inr, ℕ, zero, suc, ◌+◌, ◌*◌, ◌<◌, ◌≤◌, ℤ, pos, negsuc, ◌+ℤ◌, ◌*ℤ◌, neg_ℤ, ◌<ℤ◌, unsigned_abs, List, [], ◌∷◌, refl, sym, ap, subst, ◌∙◌, arith}
use Rattle.std.proofs.lemmas.Int.{ints}
use Rattle.std.proofs.Math.IntN.{*ℤ_comm, *ℤ-zero, zero-*ℤ}
use Rattle.scasp_num.specs.declared.linear.Coeff.{Coeff}
use Rattle.scasp_num.specs.declared.linear.Op.{Op}
use Rattle.scasp_num.specs.declared.linear.Op.TheVariants as op
use Rattle.scasp_list.specs.Each.{Each}
use Rattle.scasp_list.proofs.EachLemmas.{Each-map}
use Rattle.scasp_num.specs.Linear.{Linear, weighted, Compares, Meets}
use Rattle.scasp_num.proofs.Integers
use Rattle.scasp_num.proofs.Integers.{*ℤ_assoc, *ℤ-+ℤ, +ℤ-*ℤ, *ℤ_right_comm}
use Rattle.scasp_num.proofs.Meaning.{compares-scaled}
use Rattle.scasp_rows.specs.Points.{NoDisequation}
use Rattle.scasp_rows.specs.Steps.{joined}
use Rattle.scasp_rows.proofs.Sums.{value, Compares-joined}

-- n times the one values and the others
abbrev pub mixed : ℕ → (ℕ → ℤ) → (ℕ → ℤ) → ℕ → ℤ
mixed n m w x = pos n *ℤ m x +ℤ w x

mixed-weighted : (n : ℕ) (m w : ℕ → ℤ) (ks : List Coeff) → weighted (mixed n m w) ks ≡ pos n *ℤ weighted m ks +ℤ weighted w ks
mixed-weighted n m w [] = let e = *ℤ-zero (pos n) in omega (arith, ints, e)
mixed-weighted n m w (k ∷ ks) =
    let e1 = *ℤ-+ℤ k.c (pos n *ℤ m k.x) (w k.x) in
    let e2 : k.c *ℤ (pos n *ℤ m k.x) ≡ pos n *ℤ (k.c *ℤ m k.x) = sym (*ℤ_assoc k.c (pos n) (m k.x)) ∙ ap (λ z. z *ℤ m k.x) (*ℤ_comm k.c (pos n)) ∙ *ℤ_assoc (pos n) k.c (m k.x) in
    let e3 = *ℤ-+ℤ (pos n) (k.c *ℤ m k.x) (weighted m ks) in
    let rest = mixed-weighted n m w ks in
    omega (arith, ints, e1, e2, e3, rest)

pub mixed-value : (n : ℕ) (m w : ℕ → ℤ) (d e : ℤ) (r : Linear) → value (mixed n m w) (pos n *ℤ d +ℤ e) r ≡ pos n *ℤ value m d r +ℤ value w e r
mixed-value n m w d e r =
    let f1 = mixed-weighted n m w r.coeffs in
    let f2 = *ℤ-+ℤ r.constant (pos n *ℤ d) e in
    let f3 : r.constant *ℤ (pos n *ℤ d) ≡ pos n *ℤ (r.constant *ℤ d) = sym (*ℤ_assoc r.constant (pos n) d) ∙ ap (λ z. z *ℤ d) (*ℤ_comm r.constant (pos n)) ∙ *ℤ_assoc (pos n) r.constant d in
    let f4 = *ℤ-+ℤ (pos n) (weighted m r.coeffs) (r.constant *ℤ d) in
    omega (arith, ints, f1, f2, f3, f4)

joined-same : (o : Op) → joined o o ≡ o
joined-same op.Eq = refl
joined-same op.Lt = refl
joined-same op.Le = refl
joined-same op.Ne = refl

pub mixed-above : (n : ℕ) (d e : ℤ) → pos 0 <ℤ d → pos 0 <ℤ e → pos 0 <ℤ (pos n *ℤ d +ℤ e)
mixed-above zero d e hd he = let f = zero-*ℤ d in omega (arith, ints, f)
mixed-above (suc n) d e hd he = let h = (compares-scaled op.Lt (neg_ℤ d) (pos (suc n)) (omega (arith, ints))).0 (omega (arith, ints)) in let g = neg-times d (suc n) in omega (arith, ints, h, g)
  where
    neg-times : (d : ℤ) (n : ℕ) → neg_ℤ d *ℤ pos n ≡ neg_ℤ (pos n *ℤ d)
    neg-times d n = Integers.neg-*ℤ d (pos n) ∙ ap neg_ℤ (*ℤ_comm d (pos n))

-- a row that both meet is met
pub mixed-meets : (n : ℕ) (m w : ℕ → ℤ) (d e : ℤ) (r : Linear) → 0 < n → r.op ≢ op.Ne → Meets m d r → Meets w e r → Meets (mixed n m w) (pos n *ℤ d +ℤ e) r
mixed-meets n m w d e r above plain f g =
    let times = (compares-scaled r.op (value m d r) (pos n) (omega (arith, ints, above))).0 f in
    let turned = subst (Compares r.op) (*ℤ_comm (value m d r) (pos n)) times in
    let both = Compares-joined r.op r.op (pos n *ℤ value m d r) (value w e r) plain plain turned g in
    subst (Compares r.op) (sym (mixed-value n m w d e r)) (subst (λ (o : Op). Compares o (pos n *ℤ value m d r +ℤ value w e r)) (joined-same r.op) both)

pub all-mixed : (n : ℕ) (m w : ℕ → ℤ) (d e : ℤ) (rows : List Linear) → 0 < n → NoDisequation rows → Each (Meets m d) rows → Each (Meets w e) rows → Each (Meets (mixed n m w) (pos n *ℤ d +ℤ e)) rows
all-mixed n m w d e [] above plain f g = tt
all-mixed n m w d e (r ∷ rs) above plain f g = (mixed-meets n m w d e r above plain.0 f.0 g.0, all-mixed n m w d e rs above plain.1 f.1 g.1)

-- ---- a number that is larger than others

mul-least : (n k : ℕ) → n ≤ n * suc k
mul-least n k = omega arith

pub nonzero-mixed : (n : ℕ) (z w : ℤ) → unsigned_abs w < n → (z ≢ pos 0) ⊎ (w ≢ pos 0) → pos n *ℤ z +ℤ w ≢ pos 0
nonzero-mixed n (pos zero) w h (inl f) e = f refl
nonzero-mixed n (pos zero) w h (inr f) e = let g = *ℤ-zero (pos n) in f (omega (arith, ints, e, g))
nonzero-mixed n (pos (suc k)) (pos j) h f e = let l = mul-least n k in omega (arith, ints, e, l, h)
nonzero-mixed n (pos (suc k)) (negsuc j) h f e = let l = mul-least n k in omega (arith, ints, e, l, h)
nonzero-mixed n (negsuc k) (pos j) h f e = let l = mul-least n k in omega (arith, ints, e, l, h)
nonzero-mixed n (negsuc k) (negsuc j) h f e = let l = mul-least n k in omega (arith, ints, e, l, h)

pub below-mixed : (n : ℕ) (z w : ℤ) → unsigned_abs w < n → z <ℤ pos 0 → (pos n *ℤ z +ℤ w) <ℤ pos 0
below-mixed n (pos k) w h f = absurd (omega (arith, ints, f))
below-mixed n (negsuc k) (pos j) h f = let l = mul-least n k in omega (arith, ints, l, h)
below-mixed n (negsuc k) (negsuc j) h f = let l = mul-least n k in omega (arith, ints, l, h)

-- some number is above 0 and larger than all of these
pub larger : (zs : List ℤ) → (n : ℕ) × (0 < n) × Each (λ z. unsigned_abs z < n) zs
larger [] = (1, omega arith, tt)
larger (z ∷ zs) =
    let r = larger zs in
    let above = r.1 in
    (r.0 + unsigned_abs z, omega (arith, above), (omega (arith, above), Each-map (λ y. unsigned_abs y < r.0) (λ y. unsigned_abs y < r.0 + unsigned_abs z) (λ y h. omega (arith, h)) zs r.2))
