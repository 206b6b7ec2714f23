-- The point that is found meets the rows.
use Rattle.std.proofs.Common.{◌≡◌, ◌⊎◌, inl, inr, ℕ, suc, ◌==◌, Bool, true, false, not, ℤ, pos, negsuc, ◌+ℤ◌, ◌*ℤ◌, neg_ℤ, ◌<ℤ◌, unsigned_abs, Some, None, Option, Result, Ok, Err, List, [], ◌∷◌, length, refl, sym, ap, subst, ◌∙◌, arith}
use Rattle.std.specs.Prelude.{if◌then◌else◌, filter, slice_get}
use Rattle.std.proofs.lemmas.Int.{ints}
use Rattle.std.proofs.lemmas.Bool.{eqb-true, eq-eqb}
use Rattle.std.proofs.Math.IntN.{*ℤ_comm, neg_ℤ-neg_ℤ}
use Rattle.scasp_num.specs.declared.linear.Coeff.{Coeff}
use Rattle.scasp_num.specs.declared.linear.RatPair.{RatPair}
use Rattle.scasp_num.specs.declared.hints.Step.{Step}
use Rattle.scasp_num.specs.Number.{Number, IsFraction}
use Rattle.scasp_num.specs.Arithmetic.{◌>>=◌, sum_of, difference_of}
use Rattle.scasp_list.specs.Each.{Each}
use Rattle.scasp_list.proofs.EachLemmas.{Each-map, Each-both, Each-at}
use Rattle.scasp_num.specs.Linear.{Linear, IsNormal, Compares, Meets, negated_if}
use Rattle.scasp_num.specs.Values.{Holds, HaveDenominator}
use Rattle.scasp_num.proofs.Integers.{*ℤ_assoc, +ℤ-*ℤ, *ℤ_right_comm, neg-*ℤ}
use Rattle.scasp_num.proofs.Numbers.{times-pos, some-same, below-zero}
use Rattle.scasp_num.proofs.Exact.{bind-some}
use Rattle.scasp_num.proofs.Meaning.{compares-scaled}
use Rattle.scasp_num.proofs.Valuations.{Holds-Meets}
use Rattle.scasp_rows.specs.declared.state.Halt.{Halt}
use Rattle.scasp_rows.specs.declared.state.Halt.TheVariants as halt
use Rattle.scasp_rows.specs.declared.state.Sign.{Sign}
use Rattle.scasp_rows.specs.declared.state.Sign.TheVariants as sign
use Rattle.scasp_rows.specs.declared.state.Standing.{Standing}
use Rattle.scasp_rows.specs.declared.state.State.{State}
use Rattle.scasp_rows.specs.Points.{MeetsAll, NoDisequation}
use Rattle.scasp_rows.specs.Steps.{whole}
use Rattle.scasp_rows.specs.Elimination.{and_then, factor, has_sign, rows_with, solves, first_equation, others, without, eliminated, variables, all_looked, elimination}
use Rattle.scasp_rows.specs.Samples.{value_in, is_less, bound, between, middle, by_solution, value_for, with_value_for, values_from, point_of, solution_of}
use Rattle.scasp_rows.proofs.Sums.{value}
use Rattle.scasp_rows.proofs.Shares.{turned}
use Rattle.scasp_rows.proofs.Values.{moved, zeroed, zeroed-at}
use Rattle.scasp_rows.proofs.Soundness.{first_equation-solves, below-nonzero, above-nonzero}
use Rattle.scasp_rows.proofs.Forward.{Met, Became, Between, Fine, Lacks, below-size, above-size}
use Rattle.scasp_rows.proofs.Extending.{Extends, Bounding, Meeting, IsLower, IsUpper, solves-sized, equation-extends, became-extends, between-meets, kept-extends, bounding, no-equation, from-filter, one-sign}
use Rattle.scasp_rows.proofs.Completeness.{Conditions, others-back, all-extended, made_without-conditions, without-made, zeroed-met, fine-none, all-among, variables-lack, all_looked-ok, given-rows}
use Rattle.scasp_rows.proofs.Solving.{Less, AtMost, HasAll, most-less, less-most, solution-is}
use Rattle.scasp_rows.proofs.Choosing
use Rattle.scasp_rows.proofs.Choosing.{ExtendsTo, SolvedBy, Under, Bounds, bound-ok, lower-order, upper-order, less-is, not-less-is, plus-one, minus-one, in-middle, low-extends, high-extends, solved-zero, high-at, low-at, high-zero}

-- ---- by an equation

-- a row is met at a value of x in whatever way that is written
extends-scaled : (m : ℕ → ℤ) (d : ℤ) (x : ℕ) (e z f y : ℤ) (r : Standing) → pos 0 <ℤ e → pos 0 <ℤ f → z *ℤ f ≡ y *ℤ e → Extends m d x f y r → Extends m d x e z r
extends-scaled m d x e z f y r he hf same h =
    let A = value m d r.row in
    let c = factor x r in
    let e1 = +ℤ-*ℤ (A *ℤ e) (c *ℤ z) f in
    let e2 = +ℤ-*ℤ (A *ℤ f) (c *ℤ y) e in
    let m1 = *ℤ_right_comm A e f in
    let m2 : (c *ℤ z) *ℤ f ≡ (c *ℤ y) *ℤ e = *ℤ_assoc c z f ∙ ap (λ w. c *ℤ w) same ∙ sym (*ℤ_assoc c y e) in
    let all : (A *ℤ f +ℤ c *ℤ y) *ℤ e ≡ (A *ℤ e +ℤ c *ℤ z) *ℤ f = omega (arith, ints, e1, e2, m1, m2) in
    (compares-scaled r.row.op (A *ℤ e +ℤ c *ℤ z) f hf).1 (subst (Compares r.row.op) all ((compares-scaled r.row.op (A *ℤ f +ℤ c *ℤ y) e he).0 h))

-- the equation's number is the value by which the rows became
turned-value : (a A d : ℤ) (v : Number) → v.num *ℤ (d *ℤ neg_ℤ a) ≡ A *ℤ v.den → (v.num *ℤ d) *ℤ pos (unsigned_abs a) ≡ turned a A *ℤ v.den
turned-value (pos n) A d v e =
    let t : turned (pos n) A ≡ neg_ℤ A = ap (λ b. negated_if (not b) A) (below-zero n) in
    let g : v.num *ℤ (d *ℤ neg_ℤ (pos n)) ≡ neg_ℤ (v.num *ℤ (d *ℤ pos n)) = ap (λ z. v.num *ℤ z) (*ℤ_comm d (neg_ℤ (pos n)) ∙ neg-*ℤ (pos n) d ∙ ap neg_ℤ (*ℤ_comm (pos n) d)) ∙ *ℤ_comm v.num (neg_ℤ (d *ℤ pos n)) ∙ neg-*ℤ (d *ℤ pos n) v.num ∙ ap neg_ℤ (*ℤ_comm (d *ℤ pos n) v.num) in
    let h : v.num *ℤ (d *ℤ pos n) ≡ neg_ℤ (A *ℤ v.den) = sym (neg_ℤ-neg_ℤ (v.num *ℤ (d *ℤ pos n))) ∙ ap neg_ℤ (sym g ∙ e) in
    *ℤ_assoc v.num d (pos n) ∙ h ∙ sym (neg-*ℤ A v.den) ∙ ap (λ z. z *ℤ v.den) (sym t)
turned-value (negsuc n) A d v e = *ℤ_assoc v.num d (pos (suc n)) ∙ e

equation-chosen : (m : ℕ → ℤ) (d : ℤ) (x : ℕ) (rows : List Standing) (p : Standing) (v : Number) → Some p ≡ first_equation x rows → SolvedBy m d x p v → Each (Became m d x p) (others x rows) → Each (ExtendsTo m d x v) rows
equation-chosen m d x rows p v o s became =
    let is = first_equation-solves x rows p o in
    let n = pos (unsigned_abs (factor x p)) in
    let z = turned (factor x p) (value m d p.row) in
    let all = others-back (Extends m d x n z) x rows p o (equation-extends m d x p is) (Each-map (Became m d x p) (Extends m d x n z) (λ q k. became-extends m d x p q is k) (others x rows) became) in
    Each-map (Extends m d x n z) (ExtendsTo m d x v) (λ r k. extends-scaled m d x v.den (v.num *ℤ d) n z r v.reduced.positive (solves-sized x p is) (turned-value (factor x p) (value m d p.row) d v s) k) rows all

-- ---- by bounds

-- the row has the sign
abbrev Has : Sign → ℕ → Standing → Type 0
Has t x r = has_sign t (factor x r) ≡ true

abbrev Fact : ℕ → List ℕ → Standing → Type 0
Fact x xs r = Fine (x ∷ xs) r × (solves x r ≡ false)

low-facts : (x : ℕ) (xs : List ℕ) (r : Standing) → Fact x xs r → Has sign.Below x r → Bounding x r × IsLower x r
low-facts x xs r f h = (bounding x xs r f.0 (below-nonzero (factor x r) h) f.1, below-size (factor x r) h)

high-facts : (x : ℕ) (xs : List ℕ) (r : Standing) → Fact x xs r → Has sign.Above x r → Bounding x r × IsUpper x r
high-facts x xs r f h = (bounding x xs r f.0 (above-nonzero (factor x r) h) f.1, above-size (factor x r) h)

-- each lower row meets each upper row
abbrev AllMeet : (ℕ → ℤ) → ℤ → ℕ → List Standing → Type 0
AllMeet m d x rows = Each (λ l. Has sign.Below x l → Each (λ u. Has sign.Above x u → Meeting m d x l u) rows) rows

all-meet : (m : ℕ → ℤ) (d : ℤ) (x : ℕ) (xs : List ℕ) (rows : List Standing) → Each (Fact x xs) rows → Each (λ l. Each (Between m d x l) (rows_with sign.Above x rows)) (rows_with sign.Below x rows) → AllMeet m d x rows
all-meet m d x xs rows f h =
    let below = λ (r : Standing). has_sign sign.Below (factor x r) in
    let above = λ (r : Standing). has_sign sign.Above (factor x r) in
    Each-map (λ l. Fact x xs l × (below l ≡ true → Each (Between m d x l) (filter above rows))) (λ l. Has sign.Below x l → Each (λ u. Has sign.Above x u → Meeting m d x l u) rows)
    (λ l k s. let bl = low-facts x xs l k.0 s in
    Each-map (λ u. Fact x xs u × (above u ≡ true → Between m d x l u)) (λ u. Has sign.Above x u → Meeting m d x l u)
    (λ u g t. let bu = high-facts x xs u g.0 t in between-meets m d x l u bl.0 bu.0 (g.1 t)) rows
    (Each-both (Fact x xs) (λ u. above u ≡ true → Between m d x l u) rows f (from-filter (Between m d x l) above rows (k.1 s)))) rows
    (Each-both (Fact x xs) (λ l. below l ≡ true → Each (Between m d x l) (filter above rows)) rows f (from-filter (λ l. Each (Between m d x l) (filter above rows)) below rows h))

-- what is known of the rows and of their bounds
record Bounded (m : ℕ → ℤ) (d : ℤ) (x : ℕ) (xs : List ℕ) (point : List RatPair) (rows : List Standing) : Type 0 where
  positive : pos 0 <ℤ d
  facts : Each (Fact x xs) rows
  solved : (r : Standing) (q : Number) → Some q ≡ solution_of x point r.row → SolvedBy m d x r q
  meet : AllMeet m d x rows

-- one of the rows
abbrev At : List Standing → Standing → Type 0
At rows r = (i : ℕ) × (Some r ≡ slice_get rows i)

all-at : (rows : List Standing) → Each (At rows) rows
all-at [] = tt
all-at (r ∷ rs) = ((0, refl), Each-map (At rs) (At (r ∷ rs)) (λ q k. (suc k.0, k.1)) rs (all-at rs))

abbrev OneOf : ℕ → List ℕ → List Standing → Standing → Type 0
OneOf x xs rows r = Fact x xs r × At rows r

abbrev LowBounds : ℕ → List ℕ → List RatPair → List Standing → Option Number → Type 0
LowBounds x xs point rows lo = Bounds sign.Below AtMost x point (OneOf x xs rows) rows None lo

abbrev HighBounds : ℕ → List ℕ → List RatPair → List Standing → Option Number → Type 0
HighBounds x xs point rows hi = Bounds sign.Above (λ p q. AtMost q p) x point (OneOf x xs rows) rows None hi

-- the lower rows are met above the greatest bound, and the upper rows below the least
lows-above : (m : ℕ → ℤ) (d : ℤ) (x : ℕ) (xs : List ℕ) (point : List RatPair) (rows : List Standing) → Bounded m d x xs point rows → (lo v : Number) → LowBounds x xs point rows (Some lo) → Less lo v → Each (λ r. Has sign.Below x r → ExtendsTo m d x v r) rows
lows-above m d x xs point rows b lo v h l =
    Each-map (λ r. Fact x xs r × (Has sign.Below x r → (q : Number) × (Some q ≡ solution_of x point r.row) × AtMost q lo)) (λ r. Has sign.Below x r → ExtendsTo m d x v r)
    (λ r k s. let f = low-facts x xs r k.0 s in let g = k.1 s in low-extends m d x v g.0 r b.positive f.0 f.1 (b.solved r g.0 g.1) (most-less g.0 lo v g.2 l)) rows
    (Each-both (Fact x xs) (λ r. Has sign.Below x r → (q : Number) × (Some q ≡ solution_of x point r.row) × AtMost q lo) rows b.facts h.1)

highs-below : (m : ℕ → ℤ) (d : ℤ) (x : ℕ) (xs : List ℕ) (point : List RatPair) (rows : List Standing) → Bounded m d x xs point rows → (hi v : Number) → HighBounds x xs point rows (Some hi) → Less v hi → Each (λ r. Has sign.Above x r → ExtendsTo m d x v r) rows
highs-below m d x xs point rows b hi v h l =
    Each-map (λ r. Fact x xs r × (Has sign.Above x r → (q : Number) × (Some q ≡ solution_of x point r.row) × AtMost hi q)) (λ r. Has sign.Above x r → ExtendsTo m d x v r)
    (λ r k s. let f = high-facts x xs r k.0 s in let g = k.1 s in high-extends m d x v g.0 r b.positive f.0 f.1 (b.solved r g.0 g.1) (less-most v hi g.0 l g.2)) rows
    (Each-both (Fact x xs) (λ r. Has sign.Above x r → (q : Number) × (Some q ≡ solution_of x point r.row) × AtMost hi q) rows b.facts h.1)

-- there are no rows with the sign
none-bound : (t : Sign) (R : Number → Number → Type 0) (x : ℕ) (point : List RatPair) (P Q : Standing → Type 0) (rows : List Standing) → Bounds t R x point P rows None None → Each (λ r. has_sign t (factor x r) ≡ true → Q r) rows
none-bound t R x point P Q rows h = Each-map (λ r. has_sign t (factor x r) ≡ true → (q : Number) × (Some q ≡ solution_of x point r.row) × Under R q None) (λ r. has_sign t (factor x r) ≡ true → Q r) (λ r k s. absurd (k s).2) rows h.1

-- lower and upper rows are met where the two bounds are equal
equal-bounds : (m : ℕ → ℤ) (d : ℤ) (x : ℕ) (xs : List ℕ) (point : List RatPair) (rows : List Standing) → Bounded m d x xs point rows → (lo hi : Number) → LowBounds x xs point rows (Some lo) → HighBounds x xs point rows (Some hi) → AtMost hi lo → Each (λ r. Has sign.Below x r → ExtendsTo m d x lo r) rows × Each (λ r. Has sign.Above x r → ExtendsTo m d x lo r) rows
equal-bounds m d x xs point rows b lo hi g h most = by g.2 h.2
  where
    by : (◌≡◌ {A = Option Number} (Some lo) None ⊎ Choosing.Source sign.Below x point (OneOf x xs rows) (Some lo)) → (◌≡◌ {A = Option Number} (Some hi) None ⊎ Choosing.Source sign.Above x point (OneOf x xs rows) (Some hi)) → Each (λ r. Has sign.Below x r → ExtendsTo m d x lo r) rows × Each (λ r. Has sign.Above x r → ExtendsTo m d x lo r) rows
    by (inl e) f = cc
    by (inr e) (inl f) = cc
    by (inr e) (inr f) =
        let l = e.0 in
        let u = f.0 in
        let fl = low-facts x xs l e.1.0 e.2 in
        let fu = high-facts x xs u f.1.0 f.2 in
        let sl : SolvedBy m d x l lo = subst (λ (q : Number). SolvedBy m d x l q) (sym (some-same e.5)) (b.solved l e.3 e.4) in
        let su : SolvedBy m d x u hi = subst (λ (q : Number). SolvedBy m d x u q) (sym (some-same f.5)) (b.solved u f.3 f.4) in
        let meets = Each-at (λ l. Has sign.Below x l → Each (λ u. Has sign.Above x u → Meeting m d x l u) rows) rows e.1.1.0 l b.meet e.1.1.1 e.2 in
        let high = λ (r : Standing) (k : Fact x xs r × (Has sign.Above x r → Meeting m d x l r)) (s : Has sign.Above x r). high-at m d lo.den (lo.num *ℤ d) x l r lo.reduced.positive fl.0 fl.1 (high-facts x xs r k.0 s).1 (k.1 s) (solved-zero m d x l lo sl) in
        let highs = Each-map (λ r. Fact x xs r × (Has sign.Above x r → Meeting m d x l r)) (λ r. Has sign.Above x r → ExtendsTo m d x lo r) high rows (Each-both (Fact x xs) (λ r. Has sign.Above x r → Meeting m d x l r) rows b.facts meets) in
        let both : Meeting m d x l u = Each-at (λ u. Has sign.Above x u → Meeting m d x l u) rows f.1.1.0 u meets f.1.1.1 f.2 in
        let last = high-at m d lo.den (lo.num *ℤ d) x l u lo.reduced.positive fl.0 fl.1 fu.1 both (solved-zero m d x l lo sl) in
        let zero = high-zero m d x lo hi u b.positive fu.0 fu.1 su most last in
        let lows = Each-map (λ r. Fact x xs r × (Has sign.Below x r → Each (λ u. Has sign.Above x u → Meeting m d x r u) rows)) (λ r. Has sign.Below x r → ExtendsTo m d x lo r)
        (λ r k s. low-at m d lo.den (lo.num *ℤ d) x r u lo.reduced.positive fu.0 (low-facts x xs r k.0 s).1 fu.1 (Each-at (λ u. Has sign.Above x u → Meeting m d x r u) rows f.1.1.0 u (k.1 s) f.1.1.1 f.2) zero) rows
        (Each-both (Fact x xs) (λ r. Has sign.Below x r → Each (λ u. Has sign.Above x u → Meeting m d x r u) rows) rows b.facts b.meet) in
        (lows, highs)

both-sides : (m : ℕ → ℤ) (d : ℤ) (x : ℕ) (xs : List ℕ) (point : List RatPair) (rows : List Standing) (v : Number) (lo hi : Option Number) → Bounded m d x xs point rows → LowBounds x xs point rows lo → HighBounds x xs point rows hi → Some v ≡ between lo hi → Each (λ r. Has sign.Below x r → ExtendsTo m d x v r) rows × Each (λ r. Has sign.Above x r → ExtendsTo m d x v r) rows
both-sides m d x xs point rows v None None b g h e = (none-bound sign.Below AtMost x point (OneOf x xs rows) (ExtendsTo m d x v) rows g, none-bound sign.Above (λ p q. AtMost q p) x point (OneOf x xs rows) (ExtendsTo m d x v) rows h)
both-sides m d x xs point rows v (Some lo) None b g h e =
    let one = bind-some (whole (pos 1)) (λ one. sum_of lo one) v e in
    (lows-above m d x xs point rows b lo v g (plus-one lo one.0 v one.1 one.2), none-bound sign.Above (λ p q. AtMost q p) x point (OneOf x xs rows) (ExtendsTo m d x v) rows h)
both-sides m d x xs point rows v None (Some hi) b g h e =
    let one = bind-some (whole (pos 1)) (λ one. difference_of hi one) v e in
    (none-bound sign.Below AtMost x point (OneOf x xs rows) (ExtendsTo m d x v) rows g, highs-below m d x xs point rows b hi v h (minus-one hi one.0 v one.1 one.2))
both-sides m d x xs point rows v (Some lo) (Some hi) b g h e = by (is_less lo hi) refl e
  where
    by : (t : Bool) → is_less lo hi ≡ t → Some v ≡ (if t then middle lo hi else Some lo) → Each (λ r. Has sign.Below x r → ExtendsTo m d x v r) rows × Each (λ r. Has sign.Above x r → ExtendsTo m d x v r) rows
    by true f e =
        let k = in-middle lo hi v (less-is lo hi f) e in
        (lows-above m d x xs point rows b lo v g k.0, highs-below m d x xs point rows b hi v h k.1)
    by false f e =
        let same : v ≡ lo = some-same e in
        subst (λ (w : Number). Each (λ r. Has sign.Below x r → ExtendsTo m d x w r) rows × Each (λ r. Has sign.Above x r → ExtendsTo m d x w r) rows) (sym same) (equal-bounds m d x xs point rows b lo hi g h (not-less-is lo hi f))

pub value-chosen : (m : ℕ → ℤ) (d : ℤ) (x : ℕ) (xs : List ℕ) (point : List RatPair) (rows : List Standing) (v : Number) → pos 0 <ℤ d → HasAll point m d → Each (Fine (x ∷ xs)) rows → Some v ≡ value_for x rows point → Conditions (zeroed m x) d x rows (first_equation x rows) → Each (ExtendsTo (zeroed m x) d x v) rows
value-chosen m d x xs point rows v above all fine e met = by (first_equation x rows) refl e met
  where
    solved : (r : Standing) (q : Number) → Some q ≡ solution_of x point r.row → SolvedBy (zeroed m x) d x r q
    solved r q f = solution-is x point m d r.row q all f

    by : (o : Option Standing) → o ≡ first_equation x rows → Some v ≡ by_solution x point rows o → Conditions (zeroed m x) d x rows o → Each (ExtendsTo (zeroed m x) d x v) rows
    by (Some p) o e met = equation-chosen (zeroed m x) d x rows p v o (solution-is x point m d p.row v all e) met
    by None o e met =
        let lo = bind-some (bound sign.Below x point rows None) (λ lo. bound sign.Above x point rows None >>= (λ hi. between lo hi)) v e in
        let hi = bind-some (bound sign.Above x point rows None) (λ hi. between lo.0 hi) v lo.2 in
        let facts = Each-both (Fine (x ∷ xs)) (λ r. solves x r ≡ false) rows fine (no-equation x rows o) in
        let ones = Each-both (Fact x xs) (At rows) rows facts (all-at rows) in
        let bounded : Bounded (zeroed m x) d x xs point rows = record { positive = above; facts = facts; solved = λ r q f. solution-is x point m d r.row q all f; meet = all-meet (zeroed m x) d x xs rows facts met.1 } in
        let zero = λ (r : Standing). has_sign sign.Zero (factor x r) in
        let zeros = Each-map (λ r. zero r ≡ true → Meets (zeroed m x) d r.row) (λ r. zero r ≡ true → ExtendsTo (zeroed m x) d x v r) (λ r k s. kept-extends (zeroed m x) d x v.den (v.num *ℤ d) r v.reduced.positive s (k s)) rows (from-filter (λ (r : Standing). Meets (zeroed m x) d r.row) zero rows met.0) in
        let sides = both-sides (zeroed m x) d x xs point rows v lo.0 hi.0 bounded (bound-ok sign.Below AtMost lower-order x point (OneOf x xs rows) rows None lo.0 ones lo.1) (bound-ok sign.Above (λ p q. AtMost q p) upper-order x point (OneOf x xs rows) rows None hi.0 ones hi.1) hi.2 in
        Each-map (λ r. (Has sign.Below x r → ExtendsTo (zeroed m x) d x v r) × ((zero r ≡ true → ExtendsTo (zeroed m x) d x v r) × (Has sign.Above x r → ExtendsTo (zeroed m x) d x v r))) (ExtendsTo (zeroed m x) d x v)
        (λ r k. one-sign (ExtendsTo (zeroed m x) d x v r) (factor x r) k.0 k.1.0 k.1.1) rows
        (Each-both (λ r. Has sign.Below x r → ExtendsTo (zeroed m x) d x v r) (λ r. (zero r ≡ true → ExtendsTo (zeroed m x) d x v r) × (Has sign.Above x r → ExtendsTo (zeroed m x) d x v r)) rows sides.0
        (Each-both (λ r. zero r ≡ true → ExtendsTo (zeroed m x) d x v r) (λ r. Has sign.Above x r → ExtendsTo (zeroed m x) d x v r) rows zeros sides.1))

-- ---- all variables

-- the point has the values m x / d, and they meet the rows
abbrev Meeting-values : List RatPair → List Standing → Type 0
Meeting-values point rows = (m : ℕ → ℤ) × (d : ℤ) × (pos 0 <ℤ d) × HasAll point m d × Met m d rows

-- the values with one more
moved-has : (point : List RatPair) (m : ℕ → ℤ) (d : ℤ) (x : ℕ) (v : Number) → HasAll point m d → HasAll (record { x = x; value = v } ∷ point) (moved (zeroed m x) v.den x (v.num *ℤ d)) (d *ℤ v.den)
moved-has point m d x v h y = by (x == y) refl (y == x) refl
  where
    by : (b : Bool) → (x == y) ≡ b → (c : Bool) → (y == x) ≡ c → IsFraction (if b then v else value_in point y) (if c then v.num *ℤ d else (if c then pos 0 else m y) *ℤ v.den) (d *ℤ v.den)
    by true e true f = sym (*ℤ_assoc v.num d v.den)
    by false e false f = sym (*ℤ_assoc (value_in point y).num d v.den) ∙ ap (λ z. z *ℤ v.den) (h y) ∙ *ℤ_right_comm (m y) (value_in point y).den v.den
    by true e false f =
        let same : x ≡ y = eqb-true x y e in
        let no : (x == x) ≡ false = subst (λ w. (w == x) ≡ false) (sym same) f in
        let yes : (x == x) ≡ true = eq-eqb x x refl in
        absurd (let wrong : true ≡ false = sym yes ∙ no in cc)
    by false e true f =
        let same : y ≡ x = eqb-true y x f in
        let no : (x == x) ≡ false = subst (λ w. (x == w) ≡ false) same e in
        let yes : (x == x) ≡ true = eq-eqb x x refl in
        absurd (let wrong : true ≡ false = sym yes ∙ no in cc)

pub then-ok : {A B : Type 0} (o : Result A Halt) (f : A → Result B Halt) (b : B) → and_then o f ≡ Ok b → (a : A) × (o ≡ Ok a) × (f a ≡ Ok b)
then-ok (Ok a) f b e = (a, refl, e)
then-ok (Err h) f b e = cc

with-value : (x : ℕ) (point all : List RatPair) (o : Option Number) → with_value_for x point o ≡ Ok all → (v : Number) × (Some v ≡ o) × (record { x = x; value = v } ∷ point ≡ all)
with-value x point all None e = cc
with-value x point all (Some v) e = (v, refl, (let same : record { x = x; value = v } ∷ point ≡ all = cc in same))

values_from-ok : (xs : List ℕ) (s : State) (point : List RatPair) → values_from xs s ≡ Ok point → Each (Fine xs) s.standing → Meeting-values point s.standing
values_from-ok [] s point e f =
    let same : [] ≡ point = cc in
    subst (λ (ps : List RatPair). Meeting-values ps s.standing) same
    ((λ y. pos 0), pos 1, omega (arith, ints), (λ y. refl), Each-map (Fine []) (λ (r : Standing). Meets (λ y. pos 0) (pos 1) r.row) (λ r k. fine-none (λ y. pos 0) (pos 1) r k) s.standing f)
values_from-ok (x ∷ xs) s point e f =
    let t = then-ok (without x s) (λ t. and_then (values_from xs t) (λ point. with_value_for x point (value_for x s.standing point))) point e in
    let p = then-ok (values_from xs t.0) (λ point. with_value_for x point (value_for x s.standing point)) point t.2 in
    let v = with-value x p.0 point (value_for x s.standing p.0) p.2 in
    let w = made_without-conditions x xs s t.0 (without-made x s t.0 t.1) f in
    let k = values_from-ok xs t.0 p.0 p.1 (Each-map (Lacks x xs) (Fine xs) (λ r g. g.0) t.0.standing w.0) in
    let m = k.0 in
    let d = k.1 in
    let q = v.0 in
    let met = w.1 (zeroed m x) d k.2 (zeroed-met m d x xs t.0.standing w.0 k.4) in
    let all = value-chosen m d x xs p.0 s.standing q k.2 k.3 f v.1 met in
    subst (λ (ps : List RatPair). Meeting-values ps s.standing) v.2
    (moved (zeroed m x) q.den x (q.num *ℤ d), d *ℤ q.den, times-pos d q.den k.2 q.reduced.positive, moved-has p.0 m d x q k.3, all-extended (zeroed m x) d x xs q.den (q.num *ℤ d) s.standing (zeroed-at m x) f all)

has-denominator : (point : List RatPair) (m : ℕ → ℤ) (d : ℤ) → HasAll point m d → (ks : List Coeff) → HaveDenominator (value_in point) m d ks
has-denominator point m d h [] = tt
has-denominator point m d h (k ∷ ks) = (h k.x, has-denominator point m d h ks)

-- the point that is found has whole values over one denominator, and they meet the rows
pub point-values : (rows : List Linear) (point : List RatPair) → Each IsNormal rows → NoDisequation rows → point_of rows ≡ Ok point → (m : ℕ → ℤ) × (d : ℤ) × (pos 0 <ℤ d) × ((ks : List Coeff) → HaveDenominator (value_in point) m d ks) × Each (Meets m d) rows
unfolding point_of
point-values rows point h n e =
    let xs = variables [] rows in
    let start : State = record { standing = []; steps = []; last = length rows } in
    let u = then-ok (all_looked 1 rows start) (values_from xs) point e in
    let given = given-rows xs rows h n (all-among xs rows (λ y k. (variables-lack y [] rows k).0)) in
    let look = all_looked-ok xs 1 rows start u.0 u.1 given tt in
    let k = values_from-ok xs u.0 point u.2 look.0 in
    (k.0, k.1, k.2, has-denominator point k.0 k.1 k.3, (look.1 k.0 k.1 k.2 k.4).1)

-- so the point meets them
pub point_met : (rows : List Linear) (point : List RatPair) → Each IsNormal rows → NoDisequation rows → point_of rows ≡ Ok point → MeetsAll (value_in point) rows
point_met rows point h n e =
    let k = point-values rows point h n e in
    Each-map (Meets k.0 k.1) (Holds (value_in point)) (λ r g. (Holds-Meets (value_in point) k.0 k.1 r k.2 (k.3 r.coeffs)).1 g) rows k.4

-- ---- where no point is found

values_from-unsat : (xs : List ℕ) (s : State) (steps : List Step) → values_from xs s ≡ Err (halt.Unsat steps) → eliminated xs s ≡ Err (halt.Unsat steps)
values_from-unsat [] s steps e = cc
values_from-unsat (x ∷ xs) s steps e = by (without x s) e (λ t f. values_from-unsat xs t steps f)
  where
    last : (point : List RatPair) (o : Option Number) → with_value_for x point o ≡ Err (halt.Unsat steps) → ⊥
    last point None e = cc
    last point (Some v) e = cc

    inner : (o : Result (List RatPair) Halt) → and_then o (λ point. with_value_for x point (value_for x s.standing point)) ≡ Err (halt.Unsat steps) → o ≡ Err (halt.Unsat steps)
    inner (Err h) e = cc
    inner (Ok point) e = absurd (last point (value_for x s.standing point) e)

    by : (o : Result State Halt) → and_then o (λ t. and_then (values_from xs t) (λ point. with_value_for x point (value_for x s.standing point))) ≡ Err (halt.Unsat steps) → ((t : State) → values_from xs t ≡ Err (halt.Unsat steps) → eliminated xs t ≡ Err (halt.Unsat steps)) → and_then o (eliminated xs) ≡ Err (halt.Unsat steps)
    by (Err h) e rest = cc
    by (Ok t) e rest = rest t (inner (values_from xs t) e)

pub point-unsat : (rows : List Linear) (steps : List Step) → point_of rows ≡ Err (halt.Unsat steps) → elimination rows ≡ Err (halt.Unsat steps)
unfolding point_of elimination
point-unsat rows steps e = by (all_looked 1 rows (record { standing = []; steps = []; last = length rows })) e
  where
    by : (o : Result State Halt) → and_then o (values_from (variables [] rows)) ≡ Err (halt.Unsat steps) → and_then o (eliminated (variables [] rows)) ≡ Err (halt.Unsat steps)
    by (Err h) e = cc
    by (Ok t) e = values_from-unsat (variables [] rows) t steps e
