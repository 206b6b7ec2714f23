-- The constraint that a clause's constraint determines holds exactly where the clause's does.
use Rattle.std.proofs.Common.{◌≡◌, ◌∙◌, ◌↔◌, ℕ, ◌+◌, ◌<◌, ◌≤◌, ◌==◌, Bool, true, false, not, ℤ, ◌+ℤ◌, ◌*ℤ◌, List, [], ◌∷◌, map, Option, Some, None, refl, ap, sym, subst, inl, inr, arith}
use Rattle.std.proofs.lemmas.Bool.{eqb-true, cases_Bool, cond-true, cond-false}
use Rattle.std.proofs.lemmas.Bool.Decides.{Decides-eqb}
use Rattle.scasp_list.specs.Each.{Each}
use Rattle.scasp_num.specs.Linear.{Linear, IsNormal, Compares}
use Rattle.scasp_num.specs.Number.{Number}
use Rattle.scasp_num.specs.Values.{Holds, row_sum, with_value}
use Rattle.scasp_num.specs.declared.linear.Coeff.{Coeff}
use Rattle.scasp_num.proofs.Exact.{bind-some}
use Rattle.scasp_num.proofs.Kept.{put_of-IsNormal, join_of-IsNormal}
use Rattle.scasp_num.proofs.Valuations.{put_of-holds, join_of-holds}
use Rattle.scasp_syntax.specs.Constraints.{holds, has_shape, is_number}
use Rattle.scasp_syntax.specs.RowTruth.{row_holds}
use Rattle.scasp_syntax.specs.Same.{same_tm}
use Rattle.scasp_syntax.specs.Tm.{Tm, var, num, app, nil, cons}
use Rattle.scasp_syntax.specs.Values.{Sub, under}
use Rattle.scasp_syntax.specs.View.{tm_of}
use Rattle.scasp_syntax.specs.declared.con.Con.{Con}
use Rattle.scasp_syntax.specs.declared.con.Con.TheVariants as con
use Rattle.scasp_syntax.specs.declared.term.Term.{Term}
use Rattle.scasp_syntax.proofs.ValueLemmas.{under-under}
use Rattle.scasp_hint.specs.AskedRows.{RowsNormal}
use Rattle.scasp_unify.specs.Parts.{Part, parts}
use Rattle.scasp_syntax.specs.RowTruth.{number_of, point}
use Rattle.scasp_unify.specs.SimpleForm.{term_with, differ, one_part, by_parts, simple}
use Rattle.scasp_unify.proofs.PointLemmas.{bridge}
use Rattle.scasp_unify.proofs.SimpleLemmas.{simple-holds, viewed}
use Rattle.scasp_lines.specs.Determined.{above_values, put_value, put_values, determined_row, row_con, not_shape, determined}
use Rattle.scasp_lines.specs.Openings.{equal}
use Rattle.scasp_lines.specs.Scopes.{excludes_no_parts}
use Rattle.scasp_checker_rules.proofs.RenamedRows.{renamed, renamed-normal}

module _ (v m : Sub) where
  -- what the clause's variables stand for has these values
  abbrev pub valued : Sub
  valued x = under v (m x)

  -- ---- rows

  -- A point at which the row is read where the other is read under v: below `by` it is v's, and from there on the clause's values.
  pub record Read (by : ℕ) (ks : List Coeff) (r row : Linear) : Type 0 where
    pub normal : IsNormal row
    pub at : ℕ → Number
    pub reads : Holds (point v) row ↔ Holds at r
    pub below : (y : ℕ) → y < by → at y ≡ point v y
    pub raised : Each (λ (k : Coeff). at (k.x + by) ≡ number_of (under v (m k.x))) ks

  put-one : (by x : ℕ) (t : Tm) (r row : Linear) → ((y : ℕ) → t ≡ var y → y < by) → IsNormal r → Some row ≡ put_value x t r
      → IsNormal row × ((q : ℕ → Number) → ((y : ℕ) → y < by → q y ≡ point v y) → Holds q row ↔ Holds (with_value q x (number_of (under v t))) r)
  put-one by x (var y) r row l n e = (
    join_of-IsNormal r row x y n e,
    λ q same. subst (λ (z : Number). Holds q row ↔ Holds (with_value q x z) r) (same y (l y refl)) (join_of-holds r row x y n.ascending e q),
  )
  put-one by x (num z) r row l n e = (put_of-IsNormal r row x z n e, λ q same. put_of-holds r row x z n.ascending e q)
  put-one by x (app f ts) r row l n e = cc

  above-one : (k : Coeff) (ks : List Coeff) (y : ℕ) → m k.x ≡ var y → y < above_values m (k ∷ ks)
  above-one k ks y e = rw e (omega arith)

  above-rest : (k : Coeff) (ks : List Coeff) → above_values m ks ≤ above_values m (k ∷ ks)
  above-rest k ks = omega arith

  with-below : (at : ℕ → Number) (x : ℕ) (q : Number) (y : ℕ) → y < x → with_value at x q y ≡ at y
  with-below at x q y l = elim (cases_Bool (y == x)) [
    | inl e ↦ (let same = eqb-true y x e in absurd (omega (arith, same, l)))
    | inr e ↦ cond-false (y == x) q (at y) e
  ]

  with-others : (by : ℕ) (at : ℕ → Number) (k : Coeff) (js : List Coeff) → Each (λ (j : Coeff). at (j.x + by) ≡ number_of (under v (m j.x))) js
      → Each (λ (j : Coeff). with_value at (k.x + by) (number_of (under v (m k.x))) (j.x + by) ≡ number_of (under v (m j.x))) js
  with-others by at k [] h = tt
  with-others by at k (j ∷ js) h = (one, with-others by at k js h.1)
    where
      one : with_value at (k.x + by) (number_of (under v (m k.x))) (j.x + by) ≡ number_of (under v (m j.x))
      one = elim (cases_Bool ((j.x + by) == (k.x + by))) [
        | inl e ↦
            (let same = eqb-true (j.x + by) (k.x + by) e in
            let x_same : k.x ≡ j.x = omega (arith, same) in
            cond-true ((j.x + by) == (k.x + by)) (number_of (under v (m k.x))) (at (j.x + by)) e ∙ ap (λ z. number_of (under v (m z))) x_same)
        | inr e ↦ cond-false ((j.x + by) == (k.x + by)) (number_of (under v (m k.x))) (at (j.x + by)) e ∙ h.0
      ]

  values-put : (by : ℕ) (ks : List Coeff) (r row : Linear) → above_values m ks ≤ by → IsNormal r → Some row ≡ put_values m by ks r → Read by ks r row
  values-put by [] r row l n e =
      let same : r ≡ row = cc in
      record {
        normal = subst IsNormal same n;
        at = point v;
        reads = subst (λ (z : Linear). Holds (point v) z ↔ Holds (point v) r) same (λ h. h, λ h. h);
        below = λ y i. refl;
        raised = tt;
      }
  values-put by (k ∷ ks) r row l n e =
      let a = bind-some (put_value (k.x + by) (m k.x) r) (put_values m by ks) row e in
      let more : above_values m ks ≤ above_values m (k ∷ ks) = above-rest k ks in
      let one = put-one by (k.x + by) (m k.x) r a.0 (λ y f. (let q = above-one k ks y f in omega (arith, q, l))) n a.1 in
      let rest : Read by ks a.0 row = values-put by ks a.0 row (omega (arith, more, l)) one.0 a.2 in
      let step = one.1 rest.at rest.below in
      let reads = rest.reads in
      let value = number_of (under v (m k.x)) in
      record {
        normal = rest.normal;
        at = with_value rest.at (k.x + by) value;
        reads = (λ h. step.0 (reads.0 h), λ h. reads.1 (step.1 h));
        below = λ y i. with-below rest.at (k.x + by) value y (omega (arith, i)) ∙ rest.below y i;
        raised = (cond-true ((k.x + by) == (k.x + by)) value (rest.at (k.x + by)) ((Decides-eqb (k.x + by) (k.x + by)).1 refl), with-others by rest.at k ks rest.raised);
      }

  sums-raised : (by : ℕ) (at : ℕ → Number) (ks : List Coeff) → Each (λ (k : Coeff). at (k.x + by) ≡ number_of (under v (m k.x))) ks
      → row_sum at (map (λ (k : Coeff). record { x = k.x + by; c = k.c }) ks) ≡ row_sum (point valued) ks
  sums-raised by at [] h = refl
  sums-raised by at (k ∷ ks) h =
      let rest = sums-raised by at ks h.1 in
      λ i. (k.c *ℤ (h.0 i).num *ℤ (rest i).1 +ℤ (rest i).0 *ℤ (h.0 i).den, (h.0 i).den *ℤ (rest i).1)

  row-read : (r row : Linear) → IsNormal r → Some row ≡ determined_row m r → IsNormal row × (Holds (point v) row ↔ Holds (point valued) r)
  row-read r row n e =
      let by = above_values m r.coeffs in
      let raise = renamed (λ x. x + by) r in
      let read = values-put by r.coeffs raise row (omega arith) (renamed-normal (λ x. x + by) (λ x y l. omega (arith, l)) r n) e in
      let reads = read.reads in
      let sums = sums-raised by read.at r.coeffs read.raised in
      let turn : (z : ℤ × ℤ) → Type 0 = λ z. Compares r.op (z.0 +ℤ r.constant *ℤ z.1) in
      (read.normal, (λ h. subst turn sums (reads.0 h), λ h. reads.1 (subst turn (sym sums) h)))

  -- ---- all constraints

  both-under : (t u : Tm) → same_tm (under v (tm_of (term_with (under m t)))) (under v (tm_of (term_with (under m u)))) ≡ same_tm (under valued t) (under valued u)
  both-under t u =
      let a = ap (under v) (viewed (under m t)) ∙ under-under v m t in
      let b = ap (under v) (viewed (under m u)) ∙ under-under v m u in cc

  same-truth : (a b : Bool) → a ≡ b → (a ≡ true) ↔ (b ≡ true)
  same-truth a b e = (λ h. sym e ∙ h, λ h. e ∙ h)

  row-truth : (r : Linear) (o : Option Linear) → o ≡ determined_row m r → IsNormal r → (c : Con) → Some c ≡ row_con o → (holds v c ≡ true) ↔ (row_holds valued r ≡ true)
  row-truth r None e n c f = cc
  row-truth r (Some row) e n c f =
      let same : con.Row row ≡ c = cc in
      let read = (row-read r row n e).1 in
      let left = bridge v row in
      let right = bridge valued r in
      subst (λ (k : Con). (holds v k ≡ true) ↔ (row_holds valued r ≡ true)) same (λ h. right.1 (read.0 (left.0 h)), λ h. left.1 (read.1 (right.0 h)))

  shape-truth : (x f n : ℕ) (t : Tm) → m x ≡ t → (c : Con) → Some c ≡ not_shape t f n → (holds v c ≡ true) ↔ (not (has_shape f n (valued x)) ≡ true)
  shape-truth x f n (var y) e c g =
      let same : con.NotShape y f n ≡ c = cc in
      subst (λ (k : Con). (holds v k ≡ true) ↔ (not (has_shape f n (valued x)) ≡ true)) same
      (same-truth (not (has_shape f n (v y))) (not (has_shape f n (valued x))) (ap (λ t. not (has_shape f n (under v t))) (sym e)))
  shape-truth x f n (num q) e c g = cc
  shape-truth x f n (app h ts) e c g = cc

  pub determined-truth : (c k : Con) → RowsNormal (c ∷ []) → Some k ≡ determined m c → (holds v k ≡ true) ↔ (holds valued c ≡ true)
  determined-truth (con.Eq t u) k n e =
      let same : equal (under m (tm_of t)) (under m (tm_of u)) ≡ k = cc in
      subst (λ (z : Con). (holds v z ≡ true) ↔ (holds valued (con.Eq t u) ≡ true)) same (same-truth _ _ (both-under (tm_of t) (tm_of u)))
  determined-truth (con.Neq t u) k n e =
      let same : simple (differ (under m (tm_of t)) (under m (tm_of u))) ≡ k = cc in
      let s = simple-holds v (differ (under m (tm_of t)) (under m (tm_of u))) in
      let b = same-truth (holds v (differ (under m (tm_of t)) (under m (tm_of u)))) (holds valued (con.Neq t u)) (ap not (both-under (tm_of t) (tm_of u))) in
      subst (λ (z : Con). (holds v z ≡ true) ↔ (holds valued (con.Neq t u) ≡ true)) same (λ h. b.0 (s.0 h), λ h. s.1 (b.1 h))
  determined-truth (con.NotShape x f a) k n e = shape-truth x f a (m x) refl k e
  determined-truth (con.Num t) k n e =
      let same : con.Num (term_with (under m (tm_of t))) ≡ k = cc in
      subst (λ (z : Con). (holds v z ≡ true) ↔ (holds valued (con.Num t) ≡ true)) same
      (same-truth _ _ (ap is_number (ap (under v) (viewed (under m (tm_of t))) ∙ under-under v m (tm_of t))))
  determined-truth (con.NotNum t) k n e =
      let same : con.NotNum (term_with (under m (tm_of t))) ≡ k = cc in
      subst (λ (z : Con). (holds v z ≡ true) ↔ (holds valued (con.NotNum t) ≡ true)) same
      (same-truth _ _ (ap (λ z. not (is_number z)) (ap (under v) (viewed (under m (tm_of t))) ∙ under-under v m (tm_of t))))
  determined-truth (con.Row r) k n e = row-truth r (determined_row m r) refl n.0 k e

-- ---- forms

-- the constraint excludes no shape
abbrev pub is_basic : Con → Bool
is_basic (con.Eq t u) = true
is_basic (con.Neq t u) = true
is_basic (con.NotShape x f n) = false
is_basic (con.Num t) = true
is_basic (con.NotNum t) = true
is_basic (con.Row r) = true

one-basic : (p : Part) (t : Tm) → excludes_no_parts (one_part p t) ≡ true
one-basic p (app f nil) = refl
one-basic p (app f (cons t ts)) = refl
one-basic p (num q) = refl
one-basic p (var y) = refl

parts-basic : (t u : Term) (o : Option (List Part)) → excludes_no_parts (by_parts (con.Neq t u) o) ≡ true
parts-basic t u None = refl
parts-basic t u (Some []) = refl
parts-basic t u (Some (p ∷ [])) = one-basic p p.term
parts-basic t u (Some (p ∷ q ∷ ps)) = refl

row-basic : (o : Option Linear) (k : Con) → Some k ≡ row_con o → excludes_no_parts k ≡ true
row-basic None k e = cc
row-basic (Some r) k e = let same : con.Row r ≡ k = cc in subst (λ (z : Con). excludes_no_parts z ≡ true) same refl

pub determined-basic : (m : Sub) (c k : Con) → is_basic c ≡ true → Some k ≡ determined m c → excludes_no_parts k ≡ true
determined-basic m (con.Eq t u) k b e =
    let same : equal (under m (tm_of t)) (under m (tm_of u)) ≡ k = cc in subst (λ (z : Con). excludes_no_parts z ≡ true) same refl
determined-basic m (con.Neq t u) k b e =
    let same : simple (differ (under m (tm_of t)) (under m (tm_of u))) ≡ k = cc in
    subst (λ (z : Con). excludes_no_parts z ≡ true) same
    (parts-basic (term_with (under m (tm_of t))) (term_with (under m (tm_of u))) (parts (tm_of (term_with (under m (tm_of t)))) (tm_of (term_with (under m (tm_of u))))))
determined-basic m (con.NotShape x f n) k b e = cc
determined-basic m (con.Num t) k b e = let same : con.Num (term_with (under m (tm_of t))) ≡ k = cc in subst (λ (z : Con). excludes_no_parts z ≡ true) same refl
determined-basic m (con.NotNum t) k b e = let same : con.NotNum (term_with (under m (tm_of t))) ≡ k = cc in subst (λ (z : Con). excludes_no_parts z ≡ true) same refl
determined-basic m (con.Row r) k b e = row-basic (determined_row m r) k e
