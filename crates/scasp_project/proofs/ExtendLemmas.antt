-- Values that meet the rows which are left extend to the variables that were eliminated.
use Rattle.std.proofs.Common.{◌≡◌, ◌≢◌, ℕ, ◌==◌, Bool, true, false, not, ℤ, pos, ◌*ℤ◌, ◌<ℤ◌, unsigned_abs, Some, None, Option, Ok, List, [], ◌∷◌, ◌++◌, length, refl, sym, ap, subst, ◌∙◌, arith, cond}
use Rattle.std.specs.Prelude.{if◌then◌else◌, ◌||◌, filter}
use Rattle.std.specs.List.{flat_map, list_any}
use Rattle.std.proofs.lemmas.Bool.{eqb-true, true≢false}
use Rattle.std.proofs.lemmas.Bool.Decides.{nat_tests}
use Rattle.std.proofs.lemmas.List.Folds.{list_any-append}
use Rattle.scasp_num.specs.declared.linear.Coeff.{Coeff}
use Rattle.scasp_num.specs.declared.linear.Op.TheVariants as op
use Rattle.scasp_num.specs.Number.{Number, IsFraction}
use Rattle.scasp_list.specs.Each.{Each}
use Rattle.scasp_list.proofs.EachLemmas.{Each-both, Each-map, Each-left, Each-right}
use Rattle.scasp_num.specs.Linear.{Linear, IsNormal, Meets, coefficient}
use Rattle.scasp_num.specs.Values.{Holds, HaveDenominator}
use Rattle.scasp_num.proofs.Integers.{*ℤ_assoc, *ℤ_right_comm, *ℤ-cancel}
use Rattle.scasp_num.proofs.Numbers.{times-pos}
use Rattle.scasp_num.proofs.Valuations.{Holds-Meets, denominator-exists}
use Rattle.scasp_rows.specs.declared.state.Standing.{Standing}
use Rattle.scasp_rows.specs.declared.state.State.{State}
use Rattle.scasp_rows.specs.Points.{RationalPoint, MeetsAll, NoDisequation}
use Rattle.scasp_rows.specs.Elimination.{factor, first_equation, others, without, eliminated, variables, all_looked}
use Rattle.scasp_rows.proofs.Sums.{value}
use Rattle.scasp_rows.proofs.Shares.{turned}
use Rattle.scasp_rows.proofs.Values.{moved, zeroed, zeroed-at}
use Rattle.scasp_rows.proofs.Soundness.{first_equation-solves}
use Rattle.scasp_rows.proofs.Forward.{Met, Became, has, Fine, Lacks, and_then-ok, same_state}
use Rattle.scasp_rows.proofs.Extending.{Extends, solves-sized, equation-extends, became-extends, bounds-extend}
use Rattle.scasp_rows.proofs.Completeness.{others-back, all-extended, Conditions, made_without-conditions, without-made, zeroed-met, variables-lack, all-among, given-rows, all_looked-ok, fraction}
use Rattle.scasp_project.specs.Dropped.{is_dropped, row_has}
use Rattle.scasp_project.specs.LeftRows.{elimination_dropping}
use Rattle.scasp_project.proofs.StandingLemmas.{LeftMet, left-met, rows_of}

-- ---- one variable

-- values that meet the rows afterwards, with one for x beside them, meet the rows before
conditions-values : (m : ℕ → ℤ) (d : ℤ) (x : ℕ) (xs : List ℕ) (rows : List Standing) → m x ≡ pos 0 → Each (Fine (x ∷ xs)) rows → (o : Option Standing) → o ≡ first_equation x rows → Conditions m d x rows o → (e : ℤ) × (z : ℤ) × (pos 0 <ℤ e) × Met (moved m e x z) (d *ℤ e) rows
conditions-values m d x xs rows none f (Some p) o became =
    let is = first_equation-solves x rows p o in
    let n = pos (unsigned_abs (factor x p)) in
    let z = turned (factor x p) (value m d p.row) in
    let all = others-back (Extends m d x n z) x rows p o (equation-extends m d x p is) (Each-map (Became m d x p) (Extends m d x n z) (λ q k. became-extends m d x p q is k) (others x rows) became) in
    (n, z, solves-sized x p is, all-extended m d x xs n z rows none f all)
conditions-values m d x xs rows none f None o met =
    let found = bounds-extend m d x xs rows f o met.0 met.1 in
    (found.0, found.1, found.2, all-extended m d x xs found.0 found.1 rows none f found.3)

-- ---- all variables

-- values that meet the rows, and that are those of m x / d but for the variables of the list
pub record Values (xs : List ℕ) (m : ℕ → ℤ) (d : ℤ) (rows : List Standing) : Type 0 where
  pub at : ℕ → ℤ
  pub over : ℤ
  pub above : pos 0 <ℤ over
  pub met : Met at over rows
  pub same : (y : ℕ) → has y xs ≡ false → at y *ℤ d ≡ m y *ℤ over

both-false : (a b : Bool) → (a || b) ≡ false → (a ≡ false) × (b ≡ false)
both-false true b e = cc
both-false false b e = (refl, e)

turned-false : (x y : ℕ) → (x == y) ≡ false → (y == x) ≡ false
turned-false x y e = by (y == x) refl
  where
    self : (z : ℕ) → (z == z) ≡ true
    self z = grind (arith, nat_tests)

    by : (t : Bool) → (y == x) ≡ t → t ≡ false
    by true f = absurd (true≢false (sym (self x) ∙ ap (λ z. x == z) (sym (eqb-true y x f)) ∙ e))
    by false f = refl

others-same : (m n : ℕ → ℤ) (d over e z : ℤ) (x y : ℕ) → (x == y) ≡ false → n y *ℤ d ≡ m y *ℤ over → moved (zeroed n x) e x z y *ℤ d ≡ m y *ℤ (over *ℤ e)
others-same m n d over e z x y none same =
    let f = turned-false x y none in
    let is : moved (zeroed n x) e x z y ≡ n y *ℤ e = (λ i. if f i then z else (if f i then pos 0 else n y) *ℤ e) in
    ap (λ a. a *ℤ d) is ∙ *ℤ_right_comm (n y) e d ∙ ap (λ a. a *ℤ e) same ∙ *ℤ_assoc (m y) over e

eliminated-values : (xs ys : List ℕ) (s t : State) → eliminated xs s ≡ Ok t → Each (Fine (xs ++ ys)) s.standing → Each (Fine ys) t.standing × ((m : ℕ → ℤ) (d : ℤ) → pos 0 <ℤ d → Met m d t.standing → Values xs m d s.standing)
eliminated-values [] ys s t e f =
    let same = same_state s t e in (
      subst (λ (u : State). Each (Fine ys) u.standing) same f,
      λ m d above met. record { at = m; over = d; above = above; met = subst (λ (u : State). Met m d u.standing) (sym same) met; same = λ y _. refl },
    )
eliminated-values (x ∷ xs) ys s t e f =
    let u = and_then-ok (without x s) (eliminated xs) t e in
    let c = made_without-conditions x (xs ++ ys) s u.0 (without-made x s u.0 u.1) f in
    let v = eliminated-values xs ys u.0 t u.2 (Each-map (Lacks x (xs ++ ys)) (Fine (xs ++ ys)) (λ r k. k.0) u.0.standing c.0) in (
      v.0,
      λ m d above met.
          let w = v.1 m d above met in
          let zero = zeroed w.at x in
          let after = zeroed-met w.at w.over x (xs ++ ys) u.0.standing c.0 w.met in
          let g = conditions-values zero w.over x (xs ++ ys) s.standing (zeroed-at w.at x) f (first_equation x s.standing) refl (c.1 zero w.over w.above after) in
          record {
            at = moved zero g.0 x g.1;
            over = w.over *ℤ g.0;
            above = times-pos w.over g.0 w.above g.2;
            met = g.3;
            same = λ y h. let parts = both-false (x == y) (has y xs) h in others-same m w.at d w.over g.0 g.1 x y parts.0 (w.same y parts.1);
          },
    )

-- ---- variables that a test parts

module _ (p : ℕ → Bool) where
  abbrev rest : ℕ → Bool
  rest y = not (p y)

  split-same : (y : ℕ) (vs : List ℕ) → (has y (filter p vs) || has y (filter rest vs)) ≡ has y vs
  split-same y [] = refl
  split-same y (v ∷ vs) = by (p v) (split-same y vs)
    where
      first : (t a b h : Bool) → (a || b) ≡ h → ((t || a) || b) ≡ (t || h)
      first true a b h e = refl
      first false a b h e = e

      second : (t a b h : Bool) → (a || b) ≡ h → (a || (t || b)) ≡ (t || h)
      second true true b h e = refl
      second true false b h e = refl
      second false a b h e = e

      by : (t : Bool) → (has y (filter p vs) || has y (filter rest vs)) ≡ has y vs → (has y (cond t (v ∷ filter p vs) (filter p vs)) || has y (cond (not t) (v ∷ filter rest vs) (filter rest vs))) ≡ ((v == y) || has y vs)
      by true e = first (v == y) (has y (filter p vs)) (has y (filter rest vs)) (has y vs) e
      by false e = second (v == y) (has y (filter p vs)) (has y (filter rest vs)) (has y vs) e

  pub split-lacks : (y : ℕ) (vs : List ℕ) → has y (filter p vs ++ filter rest vs) ≡ false → has y vs ≡ false
  split-lacks y vs e = sym (split-same y vs) ∙ sym (list_any-append (λ z. z == y) (filter p vs) (filter rest vs)) ∙ e

  -- what fails the test is not among those that pass it
  pub filter-lacks : (y : ℕ) → p y ≡ false → (vs : List ℕ) → has y (filter p vs) ≡ false
  filter-lacks y e [] = refl
  filter-lacks y e (v ∷ vs) = by (p v) refl (filter-lacks y e vs)
    where
      other : (t : Bool) → (v == y) ≡ t → p v ≡ true → t ≡ false
      other true f g = absurd (true≢false (sym g ∙ ap p (eqb-true v y f) ∙ e))
      other false f g = refl

      by : (t : Bool) → p v ≡ t → has y (filter p vs) ≡ false → has y (cond t (v ∷ filter p vs) (filter p vs)) ≡ false
      by true g rest = ap (λ b. b || has y (filter p vs)) (other (v == y) refl g) ∙ rest
      by false g rest = rest

-- terms whose variables that pass a test have the coefficient 0 have no such variable
terms-lack : (test : ℕ → Bool) (ks : List Coeff) → Each (λ k. k.c ≢ pos 0) ks → ((y : ℕ) → test y ≡ true → coefficient y ks ≡ pos 0) → list_any (λ k. test k.x) ks ≡ false
terms-lack test [] n h = refl
terms-lack test (k ∷ ks) n h = ap (λ b. b || list_any (λ k. test k.x) ks) here ∙ terms-lack test ks n.1 (λ y e. later y e (k.x == y) refl)
  where
    self : (k.x == k.x) ≡ true
    self = grind (arith, nat_tests)

    none : (t : Bool) → test k.x ≡ t → t ≡ false
    none true e = absurd (n.0 (sym (ap (λ b. if b then k.c else coefficient k.x ks) self) ∙ h k.x e))
    none false e = refl

    here : test k.x ≡ false
    here = none (test k.x) refl

    later : (y : ℕ) → test y ≡ true → (t : Bool) → (k.x == y) ≡ t → coefficient y ks ≡ pos 0
    later y e true f = absurd (true≢false (sym e ∙ ap test (sym (eqb-true k.x y f)) ∙ here))
    later y e false f = sym (ap (λ b. if b then k.c else coefficient y ks) f) ∙ h y e

-- ---- rational points

Each-rows : (P : Linear → Type 0) (xs : List Standing) → Each P (rows_of xs) → Each (λ (r : Standing). P r.row) xs
Each-rows P [] h = tt
Each-rows P (x ∷ xs) h = (h.0, Each-rows P xs h.1)

pub Each-standing : (P : Linear → Type 0) (xs : List Standing) → Each (λ (r : Standing). P r.row) xs → Each P (rows_of xs)
Each-standing P [] h = tt
Each-standing P (x ∷ xs) h = (h.0, Each-standing P xs h.1)

abbrev all_coeffs : List Linear → List Coeff
all_coeffs rows = flat_map (λ (r : Linear). r.coeffs) rows

each-coeffs : (P : Coeff → Type 0) (rows : List Linear) → Each P (flat_map (λ (r : Linear). r.coeffs) rows) → Each (λ (r : Linear). Each P r.coeffs) rows
each-coeffs P [] h = tt
each-coeffs P (r ∷ rs) h = (Each-left P r.coeffs (flat_map (λ (r : Linear). r.coeffs) rs) h, each-coeffs P rs (Each-right P r.coeffs (flat_map (λ (r : Linear). r.coeffs) rs) h))

-- the same number over another denominator
fraction-same : (q : Number) (m d a over : ℤ) → pos 0 <ℤ d → IsFraction q m d → a *ℤ d ≡ m *ℤ over → IsFraction q a over
fraction-same q m d a over above is same =
    *ℤ-cancel (q.num *ℤ over) (a *ℤ q.den) d above (*ℤ_right_comm q.num over d ∙ ap (λ z. z *ℤ over) is ∙ *ℤ_right_comm m q.den over ∙ ap (λ z. z *ℤ q.den) (sym same) ∙ *ℤ_right_comm a d q.den)

-- values for the dropped variables, beside those that the point gives the others
point-extends : (keep : List ℕ) (rows : List Linear) (v : RationalPoint) (m : ℕ → ℤ) (d : ℤ) → pos 0 <ℤ d → Each (λ (r : Linear). HaveDenominator v m d r.coeffs) rows → (at : ℕ → ℤ) (over : ℤ) → pos 0 <ℤ over → Each (Meets at over) rows → ((y : ℕ) → is_dropped keep y ≡ false → at y *ℤ d ≡ m y *ℤ over) → (w : RationalPoint) × MeetsAll w rows × ((y : ℕ) → is_dropped keep y ≡ false → w y ≡ v y)
point-extends keep rows v m d above have at over positive met same =
    (w, Each-map (λ (r : Linear). HaveDenominator v m d r.coeffs × Meets at over r) (Holds w) (λ r k. (Holds-Meets w at over r positive (denominators r.coeffs k.0)).1 k.1) rows (Each-both (λ (r : Linear). HaveDenominator v m d r.coeffs) (Meets at over) rows have met), (λ y e. (λ i. if e i then (fraction (at y) over positive).0 else v y)))
  where
    w : RationalPoint
    w y = if is_dropped keep y then (fraction (at y) over positive).0 else v y

    denominators : (ks : List Coeff) → HaveDenominator v m d ks → HaveDenominator w at over ks
    denominators ks = Each-map (λ k. IsFraction (v k.x) (m k.x) d) (λ k. IsFraction (w k.x) (at k.x) over) (λ k e. by k.x (is_dropped keep k.x) refl e) ks
      where
        by : (x : ℕ) (t : Bool) → is_dropped keep x ≡ t → IsFraction (v x) (m x) d → IsFraction (if t then (fraction (at x) over positive).0 else v x) (at x) over
        by x true e f = (fraction (at x) over positive).1
        by x false e f = fraction-same (v x) (m x) d (at x) over above f (same x e)

-- what is left of rows has no dropped variable; a point that meets the rows meets it, and one that meets it meets the rows with
-- other values of the dropped variables
pub record LeftOf (keep : List ℕ) (rows left : List Linear) : Type 0 where
  pub lack : Each (λ (r : Linear). row_has (is_dropped keep) r ≡ false) left
  pub normal : Each IsNormal left
  pub comparing : NoDisequation left
  pub met : (v : RationalPoint) → MeetsAll v rows → MeetsAll v left
  pub extends : (v : RationalPoint) → MeetsAll v left → (w : RationalPoint) × MeetsAll w rows × ((y : ℕ) → is_dropped keep y ≡ false → w y ≡ v y)

pub left-extends : (keep : List ℕ) (rows : List Linear) (t : State) → Each IsNormal rows → NoDisequation rows → elimination_dropping keep rows ≡ Ok t → LeftOf keep rows (rows_of t.standing)
left-extends keep rows t h n e = record {
  lack = Each-standing (λ (r : Linear). row_has (is_dropped keep) r ≡ false) t.standing (Each-map (Fine ys) (λ (r : Standing). row_has (is_dropped keep) r.row ≡ false) lacks t.standing fine.0);
  normal = Each-standing IsNormal t.standing (Each-map (Fine ys) (λ (r : Standing). IsNormal r.row) (λ r f. f.normal) t.standing fine.0);
  comparing = Each-standing (λ (r : Linear). r.op ≢ op.Ne) t.standing (Each-map (Fine ys) (λ (r : Standing). r.row.op ≢ op.Ne) (λ r f. f.comparing) t.standing fine.0);
  met = λ v m. subst (LeftMet v) e (left-met v keep rows n m);
  extends = extends;
}
  where
    vs : List ℕ
    vs = variables [] rows

    xs : List ℕ
    xs = filter (is_dropped keep) vs

    ys : List ℕ
    ys = filter (λ y. not (is_dropped keep y)) vs

    start : State
    start = record { standing = []; steps = []; last = length rows }

    u : (s : State) × (all_looked 1 rows start ≡ Ok s) × (eliminated xs s ≡ Ok t)
    u = and_then-ok (all_looked 1 rows start) (eliminated xs) t e

    look : Each (Fine (xs ++ ys)) u.0.standing × ((m : ℕ → ℤ) (d : ℤ) → pos 0 <ℤ d → Met m d u.0.standing → Met m d [] × Each (Meets m d) rows)
    look = all_looked-ok (xs ++ ys) 1 rows start u.0 u.1 (given-rows (xs ++ ys) rows h n (all-among (xs ++ ys) rows (λ y k. (variables-lack y [] rows (split-lacks (is_dropped keep) y vs k)).0))) tt

    fine : Each (Fine ys) t.standing × ((m : ℕ → ℤ) (d : ℤ) → pos 0 <ℤ d → Met m d t.standing → Values xs m d u.0.standing)
    fine = eliminated-values xs ys u.0 t u.2 look.0

    lacks : (r : Standing) → Fine ys r → row_has (is_dropped keep) r.row ≡ false
    lacks r f = terms-lack (is_dropped keep) r.row.coeffs f.normal.nonzero (λ y d. f.among y (filter-lacks (λ z. not (is_dropped keep z)) y (ap not d) vs))

    extends : (v : RationalPoint) → MeetsAll v (rows_of t.standing) → (w : RationalPoint) × MeetsAll w rows × ((y : ℕ) → is_dropped keep y ≡ false → w y ≡ v y)
    extends v met =
        let c = denominator-exists v (all_coeffs (rows_of t.standing) ++ all_coeffs rows) in
        let P = λ (k : Coeff). IsFraction (v k.x) (c.0 k.x) c.1 in
        let have_left = each-coeffs P (rows_of t.standing) (Each-left P (all_coeffs (rows_of t.standing)) (all_coeffs rows) c.3) in
        let have_rows = each-coeffs P rows (Each-right P (all_coeffs (rows_of t.standing)) (all_coeffs rows) c.3) in
        let whole = Each-map (λ (r : Linear). Each P r.coeffs × Holds v r) (Meets c.0 c.1) (λ r k. (Holds-Meets v c.0 c.1 r c.2 k.0).0 k.1) (rows_of t.standing) (Each-both (λ (r : Linear). Each P r.coeffs) (Holds v) (rows_of t.standing) have_left met) in
        let values = fine.1 c.0 c.1 c.2 (Each-rows (Meets c.0 c.1) t.standing whole) in
        point-extends keep rows v c.0 c.1 c.2 have_rows values.at values.over values.above (look.1 values.at values.over values.above values.met).1
        (λ y dropped. values.same y (filter-lacks (is_dropped keep) y dropped vs))
