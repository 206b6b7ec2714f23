-- Constraints whose variables are known.
use Rattle.std.proofs.Common.{◌≡◌, ℕ, suc, ◌<◌, ◌≤◌, Bool, true, false, cond, ◌&&◌, nat_lt, List, [], ◌∷◌, ◌++◌, length, slice_get, take, ◌-◌, Option, None, Some, subst, refl, sym, ap, ◌∙◌, arith}
use Rattle.std.specs.List.{list_all}
use Rattle.std.proofs.Math.Seq.{take-append_seam}
use Rattle.std.proofs.lemmas.List.{length-append}
use Rattle.std.proofs.lemmas.Bool.{and_from, and_parts, lt-ltb, ltb-true}
use Rattle.scasp_bind.specs.Depths.{is_existential, lowest}
use Rattle.scasp_bind.specs.Kept.{updated}
use Rattle.scasp_bind.specs.declared.variable.Variable.{Variable}
use Rattle.scasp_bind.proofs.StepLemmas.{updated-length}
use Rattle.scasp_num.specs.declared.linear.Coeff.{Coeff}
use Rattle.scasp_syntax.specs.Tm.{Tm, Tms, var, num, app, nil, cons}
use Rattle.scasp_syntax.specs.View.{tm_of}
use Rattle.scasp_syntax.specs.WellFormed.{is_below, are_below}
use Rattle.scasp_syntax.specs.declared.con.Con.{Con}
use Rattle.scasp_syntax.specs.declared.con.Con.TheVariants as con
use Rattle.scasp_syntax.proofs.Walks.{list_all-pushed}
use Rattle.scasp_unify.specs.Negations.{is_con_below}
use Rattle.scasp_unify.specs.Unification.{term_vars}
use Rattle.scasp_unify.specs.declared.bindings.Binding.{Binding}
use Rattle.scasp_constraint_store.specs.Bound.{depth_at, lowered_at, lowered_by, lowered_each, lowered_one}
use Rattle.scasp_constraint_store.specs.Held.{is_named, kept_from}
use Rattle.scasp_constraint_store.specs.Inside.Undoing.{list_without}
use Rattle.scasp_constraint_store.specs.declared.change.ListChange.TheVariants as change

-- ---- more variables

mutual
  more-below : (n m : ℕ) → n ≤ m → (t : Tm) → is_below n t ≡ true → is_below m t ≡ true
  more-below n m h (var x) e = lt-ltb x m (omega (arith, ltb-true x n e, h))
  more-below n m h (num q) e = refl
  more-below n m h (app f ts) e = more-each-below n m h ts e

  more-each-below : (n m : ℕ) → n ≤ m → (ts : Tms) → are_below n ts ≡ true → are_below m ts ≡ true
  more-each-below n m h nil e = refl
  more-each-below n m h (cons t ts) e =
      let p = and_parts (is_below n t) (are_below n ts) e in
      rw (more-below n m h t p.0, more-each-below n m h ts p.1) refl

coeffs-below : (n m : ℕ) → n ≤ m → (ks : List Coeff) → list_all (λ k. nat_lt k.x n) ks ≡ true → list_all (λ k. nat_lt k.x m) ks ≡ true
coeffs-below n m h [] e = refl
coeffs-below n m h (k ∷ ks) e =
    let p = and_parts (nat_lt k.x n) (list_all (λ k. nat_lt k.x n) ks) e in
    and_from (nat_lt k.x m) (list_all (λ k. nat_lt k.x m) ks) (lt-ltb k.x m (omega (arith, ltb-true k.x n p.0, h))) (coeffs-below n m h ks p.1)

both-below : (n m : ℕ) → n ≤ m → (t u : Tm) → (is_below n t && is_below n u) ≡ true → (is_below m t && is_below m u) ≡ true
both-below n m h t u e =
    let p = and_parts (is_below n t) (is_below n u) e in
    and_from (is_below m t) (is_below m u) (more-below n m h t p.0) (more-below n m h u p.1)

con-below : (n m : ℕ) → n ≤ m → (c : Con) → is_con_below n c ≡ true → is_con_below m c ≡ true
con-below n m h (con.Eq t u) e = both-below n m h (tm_of t) (tm_of u) e
con-below n m h (con.Neq t u) e = both-below n m h (tm_of t) (tm_of u) e
con-below n m h (con.NotShape x f k) e = lt-ltb x m (omega (arith, ltb-true x n e, h))
con-below n m h (con.Num t) e = more-below n m h (tm_of t) e
con-below n m h (con.NotNum t) e = more-below n m h (tm_of t) e
con-below n m h (con.Row r) e = coeffs-below n m h r.coeffs e

pub all-below : (n m : ℕ) → n ≤ m → (cs : List Con) → list_all (is_con_below n) cs ≡ true → list_all (is_con_below m) cs ≡ true
all-below n m h [] e = refl
all-below n m h (c ∷ cs) e =
    let p = and_parts (is_con_below n c) (list_all (is_con_below n) cs) e in
    and_from (is_con_below m c) (list_all (is_con_below m) cs) (con-below n m h c p.0) (all-below n m h cs p.1)

pub same-below : (n m : ℕ) (cs : List Con) → n ≡ m → list_all (is_con_below n) cs ≡ true → list_all (is_con_below m) cs ≡ true
same-below n m cs e h = subst (λ (l : ℕ). list_all (is_con_below l) cs ≡ true) e h

pub one-longer : (vs ws : List Variable) (v : Variable) → ws ≡ vs ++ v ∷ [] → length vs ≤ length ws
one-longer vs ws v e = omega (arith, ap length e, length-append vs (v ∷ []))

-- ---- fewer constraints

pub kept-below : (n i : ℕ) (places : List ℕ) (cs : List Con) → list_all (is_con_below n) cs ≡ true → list_all (is_con_below n) (kept_from i places cs) ≡ true
kept-below n i places [] e = refl
kept-below n i places (c ∷ cs) e =
    let p = and_parts (is_con_below n c) (list_all (is_con_below n) cs) e in
    by (is_named places i) p.0 (kept-below n (suc i) places cs p.1)
  where
    by : (b : Bool) → is_con_below n c ≡ true → list_all (is_con_below n) (kept_from (suc i) places cs) ≡ true → list_all (is_con_below n) (cond b (kept_from (suc i) places cs) (c ∷ kept_from (suc i) places cs)) ≡ true
    by true f g = g
    by false f g = and_from (is_con_below n c) (list_all (is_con_below n) (kept_from (suc i) places cs)) f g

-- ---- lowered depths

lowered_at-length : (d x : ℕ) (vs : List Variable) → length (lowered_at d x vs) ≡ length vs
lowered_at-length d x vs = by (slice_get vs x)
  where
    by-sort : (b : Bool) → length (cond b (updated x (lowest d) vs) vs) ≡ length vs
    by-sort true = updated-length vs x (lowest d)
    by-sort false = refl

    by : (o : Option Variable) → length (lowered_one d x o vs) ≡ length vs
    by None = refl
    by (Some v) = by-sort (is_existential v.sort)

lowered_each-length : (d : ℕ) (xs : List ℕ) (vs : List Variable) → length (lowered_each d xs vs) ≡ length vs
lowered_each-length d [] vs = refl
lowered_each-length d (x ∷ xs) vs = lowered_each-length d xs (lowered_at d x vs) ∙ lowered_at-length d x vs

pub lowered_by-length : (bs : List Binding) (vs : List Variable) → length (lowered_by bs vs) ≡ length vs
lowered_by-length [] vs = refl
lowered_by-length (b ∷ bs) vs =
    let ys = term_vars (tm_of b.term) in
    let d = depth_at (slice_get vs b.x) in
    lowered_by-length bs (lowered_each d ys vs) ∙ lowered_each-length d ys vs

-- ---- one constraint more

pub without-last : (cs ds : List Con) (c : Con) → ds ≡ cs ++ c ∷ [] → list_without change.Put ds ≡ cs
without-last cs ds c e =
    let size : length ds - 1 ≡ length cs = omega (arith, ap length e, length-append cs (c ∷ [])) in
    ap (λ (n : ℕ). take n ds) size ∙ ap (take (length cs)) e ∙ take-append_seam cs (c ∷ [])

pub put-known : (vs ws : List Variable) (bs : List Binding) (cs ds : List Con) (c : Con) → ws ≡ lowered_by bs vs → ds ≡ cs ++ c ∷ []
    → list_all (is_con_below (length vs)) cs ≡ true → is_con_below (length vs) c ≡ true → list_all (is_con_below (length ws)) ds ≡ true
put-known vs ws bs cs ds c e f a b =
    let size : length vs ≡ length ws = sym (ap length e ∙ lowered_by-length bs vs) in
    same-below (length vs) (length ws) ds size
    (ap (list_all (is_con_below (length vs))) f ∙ list_all-pushed (is_con_below (length vs)) cs c ∙ and_from (list_all (is_con_below (length vs)) cs) (is_con_below (length vs) c) a b)
