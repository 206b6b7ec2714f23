-- Between a variable and a number, or another variable, some point lies below, and some above.
use Rattle.std.proofs.Common.{◌≡◌, ℕ, ◌==◌, true, false, ℤ, pos, negsuc, ◌+ℤ◌, ◌*ℤ◌, neg_ℤ, ◌<ℤ◌, refl, sym, ap, subst, ◌∙◌, arith}
use Rattle.std.specs.Prelude.{if◌then◌else◌}
use Rattle.std.proofs.lemmas.Bool.Decides.{nat_tests}
use Rattle.std.proofs.lemmas.Int.{ints}
use Rattle.std.proofs.Math.IntN.{*ℤ_comm}
use Rattle.scasp_num.specs.declared.linear.Op.TheVariants as op
use Rattle.scasp_num.specs.Number.{Number}
use Rattle.scasp_num.specs.Values.{Holds, with_value}
use Rattle.scasp_num.proofs.Integers.{neg-*ℤ, +ℤ-*ℤ}
use Rattle.scasp_num.proofs.Numbers.{times-pos}
use Rattle.scasp_num.proofs.Valuations.{negation-holds}
use Rattle.scasp_rows.specs.Points.{RationalPoint}
use Rattle.scasp_rows.proofs.Completeness.{fraction}
use Rattle.scasp_syntax.specs.Tm.{Tm, var, num, app}
use Rattle.scasp_unify.specs.Parts.{occurs}
use Rattle.scasp_num.specs.Number.{zero_number}
use Rattle.scasp_unify.specs.Points.{read_as}
use Rattle.scasp_hint.specs.ExactRows.{difference}
use Rattle.scasp_hint.specs.Sides.{below, above, one, minus_one}
use Rattle.scasp_hint.proofs.ExactLemmas.{two-sum, one-sum}

abbrev Less : Number → Number → Type 0
Less q r = (q.num *ℤ r.den) <ℤ (r.num *ℤ q.den)

less-below : (p : RationalPoint) (x : ℕ) (t : Tm) → Less (p x) (read_as p x t) → Holds p (below (difference x t op.Ne))
less-below p x (var y) h = let e = two-sum (p x).num (p y).den (p y).num (p x).den in omega (arith, ints, e, h)
less-below p x (num q) h =
    let e = one-sum (p x).num (p x).den q.den q.num in
    let c = *ℤ_comm (p x).num q.den in
    omega (arith, ints, e, c, h)
less-below p x (app f ts) h = absurd (omega (arith, ints, h))

more-above : (p : RationalPoint) (x : ℕ) (t : Tm) → Less (read_as p x t) (p x) → Holds p (above (difference x t op.Ne))
more-above p x (var y) h =
    let e = two-sum (p x).num (p y).den (p y).num (p x).den in
    (negation-holds (record { coeffs = (difference x (var y) op.Ne).coeffs; constant = pos 0; op = op.Le }) (above (difference x (var y) op.Ne)) refl p).1 (λ k. omega (arith, ints, e, h, k))
more-above p x (num q) h =
    let e = one-sum (p x).num (p x).den q.den q.num in
    let c = *ℤ_comm (p x).num q.den in
    (negation-holds (record { coeffs = (difference x (num q) op.Ne).coeffs; constant = neg_ℤ q.num; op = op.Le }) (above (difference x (num q) op.Ne)) refl p).1 (λ k. omega (arith, ints, e, c, h, k))
more-above p x (app f ts) h = absurd (omega (arith, ints, h))

-- ---- points

-- the number for x, and 0 for the others
abbrev only : ℕ → Number → RationalPoint
only x q = with_value (λ y. zero_number) x q

only-self : (x : ℕ) (q : Number) → only x q x ≡ q
only-self x q = let f : (x == x) ≡ true = grind (arith, nat_tests) in ap (λ t. if t then q else zero_number) f

only-other : (x y : ℕ) (q : Number) → occurs x (var y) ≡ false → only x q y ≡ zero_number
only-other x y q e = let f : (y == x) ≡ false = grind (arith, nat_tests, e) in ap (λ t. if t then q else zero_number) f

near : (q : Number) (k : ℤ) → (r : Number) × (r.num *ℤ q.den ≡ (q.num +ℤ k *ℤ q.den) *ℤ r.den)
near q k = fraction (q.num +ℤ k *ℤ q.den) q.den q.reduced.positive

-- a compound term is left out
abbrev pub IsNumeric : Tm → Type 0
IsNumeric (var y) = Unit {0}
IsNumeric (num q) = Unit {0}
IsNumeric (app f ts) = ⊥

pub some-below : (x : ℕ) (t : Tm) → occurs x t ≡ false → IsNumeric t → (p : RationalPoint) × Holds p (below (difference x t op.Ne))
some-below x (var y) e n =
    let p = only x minus_one in
    let h : Less (p x) (p y) = subst (λ (q : Number). Less q (p y)) (sym (only-self x minus_one)) (subst (λ (q : Number). Less minus_one q) (sym (only-other x y minus_one e)) (omega (arith, ints))) in
    (p, less-below p x (var y) h)
some-below x (num q) e n =
    let f = near q (negsuc 0) in
    let r = f.0 in
    let p = only x r in
    let above = times-pos q.den r.den q.reduced.positive r.reduced.positive in
    let e1 = +ℤ-*ℤ q.num (negsuc 0 *ℤ q.den) r.den in
    let e2 : (negsuc 0 *ℤ q.den) *ℤ r.den ≡ neg_ℤ (q.den *ℤ r.den) = ap (λ z. z *ℤ r.den) (let g : negsuc 0 *ℤ q.den ≡ neg_ℤ q.den = omega (arith, ints) in g) ∙ neg-*ℤ q.den r.den in
    let h : Less r q = omega (arith, ints, f.1, above, e1, e2) in
    (p, less-below p x (num q) (subst (λ (s : Number). Less s q) (sym (only-self x r)) h))
some-below x (app f ts) e n = absurd n

pub some-above : (x : ℕ) (t : Tm) → occurs x t ≡ false → IsNumeric t → (p : RationalPoint) × Holds p (above (difference x t op.Ne))
some-above x (var y) e n =
    let p = only x one in
    let h : Less (p y) (p x) = subst (λ (q : Number). Less (p y) q) (sym (only-self x one)) (subst (λ (q : Number). Less q one) (sym (only-other x y one e)) (omega (arith, ints))) in
    (p, more-above p x (var y) h)
some-above x (num q) e n =
    let f = near q (pos 1) in
    let r = f.0 in
    let p = only x r in
    let above = times-pos q.den r.den q.reduced.positive r.reduced.positive in
    let e1 = +ℤ-*ℤ q.num (pos 1 *ℤ q.den) r.den in
    let e2 : (pos 1 *ℤ q.den) *ℤ r.den ≡ q.den *ℤ r.den = ap (λ z. z *ℤ r.den) (let g : pos 1 *ℤ q.den ≡ q.den = omega (arith, ints) in g) in
    let h : Less q r = omega (arith, ints, f.1, above, e1, e2) in
    (p, more-above p x (num q) (subst (λ (s : Number). Less q s) (sym (only-self x r)) h))
some-above x (app f ts) e n = absurd n
