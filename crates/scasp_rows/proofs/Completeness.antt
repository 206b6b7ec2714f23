-- Where the elimination goes through, some point meets all the rows.
use Rattle.std.proofs.Common.{◌≡◌, ◌≢◌, ℕ, ◌+◌, ◌<◌, ◌==◌, nat_lt, Bool, true, false, ℤ, pos, ◌*ℤ◌, ◌<ℤ◌, unsigned_abs, int_div, Some, None, Option, Ok, Err, List, [], ◌∷◌, length, refl, sym, ap, subst, ◌∙◌, arith}
use Rattle.std.specs.Prelude.{if◌then◌else◌, ◌||◌, filter}
use Rattle.std.proofs.lemmas.Bool.{eqb-true}
use Rattle.std.proofs.lemmas.Bool.Decides.{nat_tests}
use Rattle.std.proofs.lemmas.Int.{ints}
use Rattle.std.proofs.Math.IntN.{*ℤ_comm}
use Rattle.scasp_num.specs.declared.linear.Coeff.{Coeff}
use Rattle.scasp_num.specs.declared.linear.Op.TheVariants as op
use Rattle.scasp_num.specs.Gcd.{gcd}
use Rattle.scasp_num.specs.Number.{Number, IsFraction}
use Rattle.scasp_list.specs.Each.{Each}
use Rattle.scasp_list.proofs.EachLemmas.{Each-map, Each-both, Each-filter}
use Rattle.scasp_num.specs.Linear.{Linear, IsNormal, Compares, Meets, coefficient}
use Rattle.scasp_num.specs.Values.{Holds, HaveDenominator}
use Rattle.scasp_num.proofs.Gcds.{gcd-is, gcd-divided, gcd-pos_right}
use Rattle.scasp_num.proofs.Integers.{*ℤ_assoc}
use Rattle.scasp_num.proofs.Numbers.{times-pos, unsigned_abs-over, unsigned_abs-pos, over-pos, ne_from-pos}
use Rattle.scasp_num.proofs.Exact.{over-times}
use Rattle.scasp_num.proofs.NormalForms.{zero_is}
use Rattle.scasp_num.proofs.Valuations.{Holds-Meets}
use Rattle.scasp_rows.specs.declared.state.Halt.TheVariants as halt
use Rattle.scasp_rows.specs.declared.state.Sign.TheVariants as sign
use Rattle.scasp_rows.specs.declared.state.Standing.{Standing}
use Rattle.scasp_rows.specs.declared.state.State.{State}
use Rattle.scasp_rows.specs.Points.{RationalPoint, MeetsAll, IsMet, NoDisequation, is_constant}
use Rattle.scasp_rows.specs.Elimination.{looked, factor, solves, first_equation, others, has_sign, rows_with, by_equation, made_without, limited, without, eliminated, placed, with_terms, variables, all_looked, elimination}
use Rattle.scasp_rows.proofs.Sums.{value}
use Rattle.scasp_rows.proofs.Shares.{turned}
use Rattle.scasp_rows.proofs.Values.{moved, zeroed, zeroed-at, zeroed-value}
use Rattle.scasp_rows.proofs.Soundness.{first_equation-solves, first_equation-each, others-each, filter-passes}
use Rattle.scasp_rows.proofs.Forward.{Met, Became, Between, has, Fine, Lacks, fine-less, and_then-ok, same_state, looked-ok, solved-ok, all_paired-ok}
use Rattle.scasp_rows.proofs.Extending.{Extends, extended, solves-sized, equation-extends, became-extends, bounds-extend}

-- some values m x / d meet the rows
abbrev pub HasValues : List Standing → Type 0
HasValues rows = (m : ℕ → ℤ) × (d : ℤ) × (pos 0 <ℤ d) × Met m d rows

-- ---- one variable

pub others-back : (P : Standing → Type 0) (x : ℕ) (rs : List Standing) (p : Standing) → Some p ≡ first_equation x rs → P p → Each P (others x rs) → Each P rs
others-back P x [] p e h g = tt
others-back P x (r ∷ rs) p e h g = by (solves x r) e g (λ f k. others-back P x rs p f h k)
  where
    by : (b : Bool) → Some p ≡ (if b then Some r else first_equation x rs) → Each P (if b then rs else r ∷ others x rs) → (Some p ≡ first_equation x rs → Each P (others x rs) → Each P rs) → Each P (r ∷ rs)
    by true e g rest = let same : p ≡ r = cc in (subst P same h, g)
    by false e g rest = (g.0, rest e g.1)

pub all-extended : (m : ℕ → ℤ) (d : ℤ) (x : ℕ) (xs : List ℕ) (e z : ℤ) (rows : List Standing) → m x ≡ pos 0 → Each (Fine (x ∷ xs)) rows → Each (Extends m d x e z) rows → Met (moved m e x z) (d *ℤ e) rows
all-extended m d x xs e z rows h f g =
    Each-map (λ r. Fine (x ∷ xs) r × Extends m d x e z r) (λ (r : Standing). Meets (moved m e x z) (d *ℤ e) r.row) (λ r k. extended m d x e z r h k.0.normal k.1) rows (Each-both (Fine (x ∷ xs)) (Extends m d x e z) rows f g)

-- what is met of the rows before, by an equation p or without one
abbrev pub Conditions : (ℕ → ℤ) → ℤ → ℕ → List Standing → Option Standing → Type 0
Conditions m d x rows (Some p) = Each (Became m d x p) (others x rows)
Conditions m d x rows None = Met m d (rows_with sign.Zero x rows) × Each (λ l. Each (Between m d x l) (rows_with sign.Above x rows)) (rows_with sign.Below x rows)

-- the rows afterwards are fine and lack x, and where they are met so is what they were made of
pub made_without-conditions : (x : ℕ) (xs : List ℕ) (s t : State) → made_without x s ≡ Ok t → Each (Fine (x ∷ xs)) s.standing → Each (Lacks x xs) t.standing × ((m : ℕ → ℤ) (d : ℤ) → pos 0 <ℤ d → Met m d t.standing → Conditions m d x s.standing (first_equation x s.standing))
made_without-conditions x xs s t e f = by (first_equation x s.standing) refl e
  where
    by : (o : Option Standing) → o ≡ first_equation x s.standing → by_equation x s o ≡ Ok t → Each (Lacks x xs) t.standing × ((m : ℕ → ℤ) (d : ℤ) → pos 0 <ℤ d → Met m d t.standing → Conditions m d x s.standing o)
    by (Some p) o e =
        let fine = first_equation-each (Fine (x ∷ xs)) x s.standing p o f in
        let r = solved-ok x xs p (others x s.standing) (record { standing = []; steps = s.steps; last = s.last }) t e fine (others-each (Fine (x ∷ xs)) x s.standing f) tt in
        (r.0, λ m d above after. (r.1 m d above after).1)
    by None o e =
        let below = λ (r : Standing). has_sign sign.Below (factor x r) in
        let above = λ (r : Standing). has_sign sign.Above (factor x r) in
        let zero = λ (r : Standing). has_sign sign.Zero (factor x r) in
        let kept : State = record { standing = rows_with sign.Zero x s.standing; steps = s.steps; last = s.last } in
        let lows = Each-both (Fine (x ∷ xs)) (λ r. below r ≡ true) (filter below s.standing) (Each-filter (Fine (x ∷ xs)) below s.standing f) (filter-passes below s.standing) in
        let highs = Each-both (Fine (x ∷ xs)) (λ r. above r ≡ true) (filter above s.standing) (Each-filter (Fine (x ∷ xs)) above s.standing f) (filter-passes above s.standing) in
        let zeros = Each-both (Fine (x ∷ xs)) (λ r. zero r ≡ true) (filter zero s.standing) (Each-filter (Fine (x ∷ xs)) zero s.standing f) (filter-passes zero s.standing) in
        let lacks = Each-map (λ r. Fine (x ∷ xs) r × (zero r ≡ true)) (Lacks x xs) (λ r k. fine-less x xs r k.0 (zero_is (factor x r) k.1)) (filter zero s.standing) zeros in
        all_paired-ok x xs (filter below s.standing) (filter above s.standing) kept t e lows highs lacks

conditions-extend : (m : ℕ → ℤ) (d : ℤ) (x : ℕ) (xs : List ℕ) (rows : List Standing) → pos 0 <ℤ d → m x ≡ pos 0 → Each (Fine (x ∷ xs)) rows → (o : Option Standing) → o ≡ first_equation x rows → Conditions m d x rows o → HasValues rows
conditions-extend m d x xs rows above none f (Some p) o became =
    let is = first_equation-solves x rows p o in
    let n = pos (unsigned_abs (factor x p)) in
    let z = turned (factor x p) (value m d p.row) in
    let all = others-back (Extends m d x n z) x rows p o (equation-extends m d x p is) (Each-map (Became m d x p) (Extends m d x n z) (λ q k. became-extends m d x p q is k) (others x rows) became) in
    (moved m n x z, d *ℤ n, times-pos d n above (solves-sized x p is), all-extended m d x xs n z rows none f all)
conditions-extend m d x xs rows above none f None o met =
    let found = bounds-extend m d x xs rows f o met.0 met.1 in
    (moved m found.0 x found.1, d *ℤ found.0, times-pos d found.0 above found.2, all-extended m d x xs found.0 found.1 rows none f found.3)

-- values that meet the rows afterwards extend to x
made_without-ok : (x : ℕ) (xs : List ℕ) (s t : State) → made_without x s ≡ Ok t → Each (Fine (x ∷ xs)) s.standing → Each (Lacks x xs) t.standing × ((m : ℕ → ℤ) (d : ℤ) → pos 0 <ℤ d → m x ≡ pos 0 → Met m d t.standing → HasValues s.standing)
made_without-ok x xs s t e f =
    let r = made_without-conditions x xs s t e f in
    (r.0, λ m d above none after. conditions-extend m d x xs s.standing above none f (first_equation x s.standing) refl (r.1 m d above after))

limited-same : (s t : State) → limited s ≡ Ok t → s ≡ t
limited-same s t e = by (nat_lt 4096 (length s.standing)) e
  where
    by : (b : Bool) → (if b then Err halt.Overflow else Ok s) ≡ Ok t → s ≡ t
    by true e = cc
    by false e = same_state s t e

pub without-made : (x : ℕ) (s t : State) → without x s ≡ Ok t → made_without x s ≡ Ok t
unfolding without
without-made x s t e =
    let u = and_then-ok (made_without x s) limited t e in
    subst (λ (v : State). made_without x s ≡ Ok v) (limited-same u.0 t u.2) u.1

-- ---- all variables

pub fine-none : (m : ℕ → ℤ) (d : ℤ) (r : Standing) → Fine [] r → Meets m d r.row
fine-none m d r f = absurd (by r.row.coeffs f.varying f.normal.nonzero (λ y. f.among y refl))
  where
    by : (ks : List Coeff) → is_constant (record { coeffs = ks; constant = r.row.constant; op = r.row.op }) ≡ false → Each (λ k. k.c ≢ pos 0) ks → ((y : ℕ) → coefficient y ks ≡ pos 0) → ⊥
    by [] e n h = cc
    by (k ∷ ks) e n h =
        let same : (k.x == k.x) ≡ true = grind (arith, nat_tests) in
        n.0 (sym (ap (λ t. if t then k.c else coefficient k.x ks) same) ∙ h k.x)

pub zeroed-met : (m : ℕ → ℤ) (d : ℤ) (x : ℕ) (xs : List ℕ) (rows : List Standing) → Each (Lacks x xs) rows → Met m d rows → Met (zeroed m x) d rows
zeroed-met m d x xs rows f g =
    Each-map (λ (r : Standing). Lacks x xs r × Meets m d r.row) (λ (r : Standing). Meets (zeroed m x) d r.row) (λ r k. subst (Compares r.row.op) (sym (zeroed-value m d x r.row k.0.0.normal.ascending k.0.1)) k.1) rows
    (Each-both (Lacks x xs) (λ (r : Standing). Meets m d r.row) rows f g)

pub eliminated-ok : (xs : List ℕ) (s t : State) → eliminated xs s ≡ Ok t → Each (Fine xs) s.standing → HasValues s.standing
eliminated-ok [] s t e f = ((λ y. pos 0), pos 1, omega (arith, ints), Each-map (Fine []) (λ (r : Standing). Meets (λ y. pos 0) (pos 1) r.row) (λ r k. fine-none (λ y. pos 0) (pos 1) r k) s.standing f)
eliminated-ok (x ∷ xs) s t e f =
    let u = and_then-ok (without x s) (eliminated xs) t e in
    let w = made_without-ok x xs s u.0 (without-made x s u.0 u.1) f in
    let v = eliminated-ok xs u.0 t u.2 (Each-map (Lacks x xs) (Fine xs) (λ r k. k.0) u.0.standing w.0) in
    w.1 (zeroed v.0 x) v.1 v.2 (zeroed-at v.0 x) (zeroed-met v.0 v.1 x xs u.0.standing w.0 v.3)

-- ---- the given rows

-- the row has variables among those alone
abbrev pub Among : List ℕ → Linear → Type 0
Among xs r = (y : ℕ) → has y xs ≡ false → coefficient y r.coeffs ≡ pos 0

both-false : (a b : Bool) → (a || b) ≡ false → (a ≡ false) × (b ≡ false)
both-false true b e = cc
both-false false b e = (refl, e)

placed-lacks : (y x : ℕ) (xs : List ℕ) → has y (placed x xs) ≡ false → ((x == y) ≡ false) × (has y xs ≡ false)
placed-lacks y x [] e = both-false (x == y) false e
placed-lacks y x (z ∷ zs) e = by (nat_lt z x) (z == x) refl e (placed-lacks y x zs)
  where
    by : (b c : Bool) → (z == x) ≡ c → has y (if b then z ∷ placed x zs else (if c then z ∷ zs else x ∷ z ∷ zs)) ≡ false → (has y (placed x zs) ≡ false → ((x == y) ≡ false) × (has y zs ≡ false)) → ((x == y) ≡ false) × (has y (z ∷ zs) ≡ false)
    by true c f e rest =
        let parts = both-false (z == y) (has y (placed x zs)) e in
        let later = rest parts.1 in
        (later.0, ap (λ b. b || has y zs) parts.0 ∙ later.1)
    by false true f e rest =
        let parts = both-false (z == y) (has y zs) e in
        (subst (λ w. (w == y) ≡ false) (eqb-true z x f) parts.0, e)
    by false false f e rest = both-false (x == y) (has y (z ∷ zs)) e

terms-lack : (y : ℕ) (ks : List Coeff) (xs : List ℕ) → has y (with_terms ks xs) ≡ false → (coefficient y ks ≡ pos 0) × (has y xs ≡ false)
terms-lack y [] xs e = (refl, e)
terms-lack y (k ∷ ks) xs e =
    let r = terms-lack y ks (placed k.x xs) e in
    let p = placed-lacks y k.x xs r.1 in
    (ap (λ t. if t then k.c else coefficient y ks) p.0 ∙ r.0, p.1)

pub variables-lack : (y : ℕ) (xs : List ℕ) (rs : List Linear) → has y (variables xs rs) ≡ false → Each (λ (r : Linear). coefficient y r.coeffs ≡ pos 0) rs × (has y xs ≡ false)
variables-lack y xs [] e = (tt, e)
variables-lack y xs (r ∷ rs) e =
    let later = variables-lack y (with_terms r.coeffs xs) rs e in
    let terms = terms-lack y r.coeffs xs later.1 in
    ((terms.0, later.0), terms.1)

pub all-among : (xs : List ℕ) (rs : List Linear) → ((y : ℕ) → has y xs ≡ false → Each (λ (r : Linear). coefficient y r.coeffs ≡ pos 0) rs) → Each (Among xs) rs
all-among xs [] h = tt
all-among xs (r ∷ rs) h = ((λ y e. (h y e).0), all-among xs rs (λ y e. (h y e).1))

-- a given row in normal form whose variables are among those
abbrev pub Given : List ℕ → Linear → Type 0
Given xs r = IsNormal r × (r.op ≢ op.Ne) × Among xs r

pub all_looked-ok : (xs : List ℕ) (n : ℕ) (rs : List Linear) (s t : State) → all_looked n rs s ≡ Ok t → Each (Given xs) rs → Each (Fine xs) s.standing → Each (Fine xs) t.standing × ((m : ℕ → ℤ) (d : ℤ) → pos 0 <ℤ d → Met m d t.standing → Met m d s.standing × Each (Meets m d) rs)
all_looked-ok xs n [] s t e g h = let same = same_state s t e in (subst (λ (u : State). Each (Fine xs) u.standing) same h, λ m d above after. (subst (λ (u : State). Met m d u.standing) (sym same) after, tt))
all_looked-ok xs n (r ∷ rs) s t e g h =
    let new : Standing = record { number = n; row = r } in
    let u = and_then-ok (looked (record { number = n; row = r }) [] s) (all_looked (n + 1) rs) t e in
    let look = looked-ok (Fine xs) new [] s u.0 u.1 h (λ v. record { normal = g.0.0; comparing = g.0.1; varying = v; among = g.0.2 }) in
    let rest = all_looked-ok xs (n + 1) rs u.0 t u.2 g.1 look.0 in (
      rest.0,
      λ m d above after.
          let later = rest.1 m d above after in
          let before = look.1 m d above later.0 tt in
          (before.0, (before.1, later.1)),
    )

-- ---- rational points

pub fraction : (n d : ℤ) → pos 0 <ℤ d → (q : Number) × IsFraction q n d
fraction n d h =
    let g = gcd (unsigned_abs n) (unsigned_abs d) in
    let above : 0 < g = gcd-pos_right (unsigned_abs n) (unsigned_abs d) (unsigned_abs-pos d (ne_from-pos d h)) in
    let is = gcd-is (unsigned_abs n) (unsigned_abs d) in
    let num = int_div n (pos g) in
    let den = int_div d (pos g) in
    let dg : den *ℤ pos g ≡ d = over-times d g is.1 in
    let ng : num *ℤ pos g ≡ n = over-times n g is.0 in (
      record {
        num = num;
        den = den;
        reduced = record {
          positive = over-pos d g h is.1;
          lowest = (λ i. gcd (unsigned_abs-over n g i) (unsigned_abs-over d g i)) ∙ gcd-divided (unsigned_abs n) (unsigned_abs d) above;
        };
      },
      ap (λ z. num *ℤ z) (sym dg ∙ *ℤ_comm den (pos g)) ∙ sym (*ℤ_assoc num (pos g) den) ∙ ap (λ z. z *ℤ den) ng,
    )

-- the point of the values m x / d
abbrev pub point_by : (ℕ → ℤ) → (d : ℤ) → pos 0 <ℤ d → RationalPoint
point_by m d h x = (fraction (m x) d h).0

pub point-denominator : (m : ℕ → ℤ) (d : ℤ) (h : pos 0 <ℤ d) (ks : List Coeff) → HaveDenominator (point_by m d h) m d ks
point-denominator m d h [] = tt
point-denominator m d h (k ∷ ks) = ((fraction (m k.x) d h).1, point-denominator m d h ks)

pub point-meets : (m : ℕ → ℤ) (d : ℤ) (h : pos 0 <ℤ d) (rows : List Linear) → Each (Meets m d) rows → MeetsAll (point_by m d h) rows
point-meets m d h rows f = Each-map (Meets m d) (Holds (point_by m d h)) (λ r k. (Holds-Meets (point_by m d h) m d r h (point-denominator m d h r.coeffs)).1 k) rows f

pub given-rows : (xs : List ℕ) (rows : List Linear) → Each IsNormal rows → NoDisequation rows → Each (Among xs) rows → Each (Given xs) rows
given-rows xs [] h n a = tt
given-rows xs (r ∷ rs) h n a = ((h.0, n.0, a.0), given-rows xs rs h.1 n.1 a.1)

-- some values m x / d meet the rows
pub sat-values : (rows : List Linear) (s : State) → Each IsNormal rows → NoDisequation rows → elimination rows ≡ Ok s → (m : ℕ → ℤ) × (d : ℤ) × (pos 0 <ℤ d) × Each (Meets m d) rows
unfolding elimination
sat-values rows s h n e =
    let xs = variables [] rows in
    let start : State = record { standing = []; steps = []; last = length rows } in
    let u = and_then-ok (all_looked 1 rows start) (eliminated xs) s e in
    let given = given-rows xs rows h n (all-among xs rows (λ y k. (variables-lack y [] rows k).0)) in
    let look = all_looked-ok xs 1 rows start u.0 u.1 given tt in
    let found = eliminated-ok xs u.0 s u.2 look.0 in
    (found.0, found.1, found.2, (look.1 found.0 found.1 found.2 found.3).1)

pub sat_met : (rows : List Linear) (s : State) → Each IsNormal rows → NoDisequation rows → elimination rows ≡ Ok s → IsMet rows
sat_met rows s h n e =
    let found = sat-values rows s h n e in
    (point_by found.0 found.1 found.2, point-meets found.0 found.1 found.2 rows found.3)
