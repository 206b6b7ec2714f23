-- The rows that are chosen for the disequations, one by one.
use Rattle.std.proofs.Common.{◌≡◌, ◌≢◌, ◌⊎◌, inl, inr, ◌↔◌, ℕ, zero, suc, ℤ, pos, negsuc, ◌+ℤ◌, ◌*ℤ◌, ◌<ℤ◌, Some, None, Option, Result, Ok, Err, List, [], ◌∷◌, ◌++◌, refl, sym, ap, subst, ◌∙◌, arith}
use Rattle.std.proofs.lemmas.Int.{ints}
use Rattle.std.proofs.Math.IntN.{*ℤ-zero}
use Rattle.scasp_num.specs.declared.linear.RatPair.{RatPair}
use Rattle.scasp_num.specs.declared.linear.Op.{Op}
use Rattle.scasp_num.specs.declared.linear.Op.TheVariants as op
use Rattle.scasp_num.specs.declared.hints.Step.{Step}
use Rattle.scasp_num.specs.Number.{Number}
use Rattle.scasp_num.specs.Arithmetic.{◌>>=◌}
use Rattle.scasp_list.specs.Each.{Each}
use Rattle.scasp_list.proofs.EachLemmas.{Each-map, Each-left, Each-right, Each-append, Each-both}
use Rattle.scasp_num.specs.Linear.{Linear, IsNormal, weighted, Compares, Meets}
use Rattle.scasp_num.specs.Sums.{normal_of}
use Rattle.scasp_num.proofs.Kept.{normal_of-op, normal_of-IsNormal}
use Rattle.scasp_num.proofs.Integers.{*ℤ_assoc, *ℤ-+ℤ}
use Rattle.scasp_num.proofs.Numbers.{some-same}
use Rattle.scasp_num.proofs.Exact.{bind-some}
use Rattle.scasp_num.proofs.Wholes.{normal_of-meets}
use Rattle.scasp_rows.specs.declared.state.Halt.{Halt}
use Rattle.scasp_rows.specs.declared.state.Halt.TheVariants as halt
use Rattle.scasp_rows.specs.declared.state.State.{State}
use Rattle.scasp_rows.specs.Points.{NoDisequation}
use Rattle.scasp_rows.specs.Steps.{whole, times}
use Rattle.scasp_rows.specs.Elimination.{elimination}
use Rattle.scasp_rows.specs.Samples.{strict, alternatives, unless_unsat, first_met, first_of, if_some, with_all}
use Rattle.scasp_rows.proofs.Sums.{value, scaled, scaled-weighted, times-are, whole-times}
use Rattle.scasp_rows.proofs.Reaching.{false_reached}
use Rattle.scasp_rows.proofs.Soundness.{unsat_reached}
use Rattle.scasp_rows.proofs.Completeness.{sat-values, point_by, point-meets}
use Rattle.scasp_rows.proofs.Pointing.{then-ok}
use Rattle.scasp_rows.proofs.Combining.{mixed, mixed-value, mixed-above, all-mixed, below-mixed, larger}
use Rattle.scasp_rows.proofs.Independence.{SomeNonzero, all-values, each-second}

-- ---- one alternative

-- what the parts of a strict row are
record IsStrict (a : ℤ) (r row : Linear) : Type 0 where
  terms : List RatPair
  constant : Number
  terms_are : Some terms ≡ times a r.coeffs
  constant_is : Some constant ≡ whole (a *ℤ r.constant)
  made : Some row ≡ normal_of terms constant op.Lt

strict-parts : (a : ℤ) (r row : Linear) → Some row ≡ strict a r → IsStrict a r row
unfolding strict
strict-parts a r row e =
    let t = bind-some (times a r.coeffs) (λ terms. whole (a *ℤ r.constant) >>= (λ constant. normal_of terms constant op.Lt)) row e in
    let c = bind-some (whole (a *ℤ r.constant)) (λ constant. normal_of t.0 constant op.Lt) row t.2 in
    record { terms = t.0; constant = c.0; terms_are = t.1; constant_is = c.1; made = c.2 }

strict-meets : (a : ℤ) (r row : Linear) → Some row ≡ strict a r → (m : ℕ → ℤ) (d : ℤ) → Meets m d row ↔ ((a *ℤ value m d r) <ℤ pos 0)
strict-meets a r row e m d =
    let p = strict-parts a r row e in
    let w = scaled-weighted m a r.coeffs in
    let f1 = *ℤ_assoc a r.constant d in
    let f2 = *ℤ-+ℤ a (weighted m r.coeffs) (r.constant *ℤ d) in
    let same : weighted m (scaled a r.coeffs) +ℤ (a *ℤ r.constant) *ℤ d ≡ a *ℤ value m d r = omega (arith, ints, w, f1, f2) in
    subst (λ z. Meets m d row ↔ (z <ℤ pos 0)) same
    (normal_of-meets p.terms p.constant op.Lt row p.made m d (pos 1) (scaled a r.coeffs) (a *ℤ r.constant) (omega (arith, ints)) (times-are a r.coeffs p.terms p.terms_are) (whole-times p.constant (a *ℤ r.constant) p.constant_is))

-- a row that says that some part is not 0
pub record Chosen (parts : List Linear) (row : Linear) : Type 0 where
  pub normal : IsNormal row
  pub strictly : row.op ≡ op.Lt
  pub nonzero : (m : ℕ → ℤ) (d : ℤ) → Meets m d row → SomeNonzero m d parts

chosen-by : (a : ℤ) (r row : Linear) (rs : List Linear) → Some row ≡ strict a r → Chosen (r ∷ rs) row
chosen-by a r row rs e =
    let p = strict-parts a r row e in record {
      normal = normal_of-IsNormal p.terms p.constant op.Lt row p.made;
      strictly = normal_of-op p.terms p.constant op.Lt row p.made;
      nonzero = λ m d h. inl (λ z. let k = (strict-meets a r row e m d).0 h in let g : a *ℤ value m d r ≡ pos 0 = ap (λ y. a *ℤ y) z ∙ *ℤ-zero a in omega (arith, ints, k, g));
    }

chosen-later : (r row : Linear) (rs : List Linear) → Chosen rs row → Chosen (r ∷ rs) row
chosen-later r row rs c = record { normal = c.normal; strictly = c.strictly; nonzero = λ m d h. inr (c.nonzero m d h) }

-- the parts of a list of alternatives
alternatives-parts : (r : Linear) (rs all : List Linear) → Some all ≡ alternatives (r ∷ rs) → (below : Linear) × (above : Linear) × (rest : List Linear) × (Some below ≡ strict (pos 1) r) × (Some above ≡ strict (negsuc 0) r) × (Some rest ≡ alternatives rs) × (all ≡ below ∷ above ∷ rest)
alternatives-parts r rs all e =
    let b = bind-some (strict (pos 1) r) (λ below. strict (negsuc 0) r >>= (λ above. alternatives rs >>= (λ rest. Some (below ∷ above ∷ rest)))) all e in
    let a = bind-some (strict (negsuc 0) r) (λ above. alternatives rs >>= (λ rest. Some (b.0 ∷ above ∷ rest))) all b.2 in
    let c = bind-some (alternatives rs) (λ rest. Some (b.0 ∷ a.0 ∷ rest)) all a.2 in
    (b.0, a.0, c.0, b.1, a.1, c.1, some-same c.2)

all-chosen : (parts all : List Linear) → Some all ≡ alternatives parts → Each (Chosen parts) all
all-chosen [] all e = let same : [] ≡ all = cc in subst (λ (xs : List Linear). Each (Chosen []) xs) same tt
all-chosen (r ∷ rs) all e =
    let p = alternatives-parts r rs all e in
    subst (λ (xs : List Linear). Each (Chosen (r ∷ rs)) xs) (sym p.6)
    (chosen-by (pos 1) r p.0 rs p.3, (chosen-by (negsuc 0) r p.1 rs p.4, Each-map (Chosen rs) (Chosen (r ∷ rs)) (λ row c. chosen-later r row rs c) p.2 (all-chosen rs p.2 p.5)))

-- where no alternative is met, no part differs from 0
none-nonzero : (m : ℕ → ℤ) (d : ℤ) (parts all : List Linear) → Some all ≡ alternatives parts → Each (λ (row : Linear). Meets m d row → ⊥) all → SomeNonzero m d parts → ⊥
none-nonzero m d [] all e h s = s
none-nonzero m d (r ∷ rs) all e h s = by s (λ rest f g k. none-nonzero m d rs rest f g k)
  where
    by : SomeNonzero m d (r ∷ rs) → ((rest : List Linear) → Some rest ≡ alternatives rs → Each (λ (row : Linear). Meets m d row → ⊥) rest → SomeNonzero m d rs → ⊥) → ⊥
    by (inl f) later =
        let p = alternatives-parts r rs all e in
        let g = subst (λ (xs : List Linear). Each (λ (row : Linear). Meets m d row → ⊥) xs) p.6 h in
        f (zero-by-both (value m d r) (λ k. g.0 ((strict-meets (pos 1) r p.0 p.3 m d).1 k)) (λ k. g.1.0 ((strict-meets (negsuc 0) r p.1 p.4 m d).1 k)))
      where
        zero-by-both : (z : ℤ) → ((pos 1 *ℤ z) <ℤ pos 0 → ⊥) → ((negsuc 0 *ℤ z) <ℤ pos 0 → ⊥) → z ≡ pos 0
        zero-by-both (pos zero) f g = refl
        zero-by-both (pos (suc n)) f g = absurd (g (omega (arith, ints)))
        zero-by-both (negsuc n) f g = absurd (f (omega (arith, ints)))
    by (inr f) later =
        let p = alternatives-parts r rs all e in
        let g = subst (λ (xs : List Linear). Each (λ (row : Linear). Meets m d row → ⊥) xs) p.6 h in
        later p.2 p.5 g.1.1 f

-- ---- the first alternative that has a solution

unless-none : (o : Result State Halt) (rows : List Linear) (rest : Result (Option (List Linear)) Halt) → unless_unsat o rows rest ≡ Ok None → (steps : List Step) × (o ≡ Err (halt.Unsat steps)) × (rest ≡ Ok None)
unless-none (Ok s) rows rest e = cc
unless-none (Err (halt.Unsat steps)) rows rest e = (steps, refl, e)
unless-none (Err halt.Overflow) rows rest e = cc
unless-none (Err halt.Memory) rows rest e = cc

unless-some : (o : Result State Halt) (rows more : List Linear) (rest : Result (Option (List Linear)) Halt) → unless_unsat o rows rest ≡ Ok (Some more) → ((s : State) × (o ≡ Ok s) × (more ≡ rows)) ⊎ (rest ≡ Ok (Some more))
unless-some (Ok s) rows more rest e = inl (s, refl, (let same : more ≡ rows = cc in same))
unless-some (Err (halt.Unsat steps)) rows more rest e = inr e
unless-some (Err halt.Overflow) rows more rest e = cc
unless-some (Err halt.Memory) rows more rest e = cc

first-none : (rows all : List Linear) → first_met rows all ≡ Ok None → Each (λ (a : Linear). (steps : List Step) × (elimination (rows ++ a ∷ []) ≡ Err (halt.Unsat steps))) all
first-none rows [] e = tt
first-none rows (a ∷ as') e =
    let k = unless-none (elimination (rows ++ a ∷ [])) (rows ++ a ∷ []) (first_met rows as') e in
    ((k.0, k.1), first-none rows as' k.2)

first-some : (P : Linear → Type 0) (rows all more : List Linear) → first_met rows all ≡ Ok (Some more) → Each P all → (a : Linear) × P a × (more ≡ rows ++ a ∷ []) × (s : State) × (elimination more ≡ Ok s)
first-some P rows [] more e h = cc
first-some P rows (a ∷ as') more e h = by (unless-some (elimination (rows ++ a ∷ [])) (rows ++ a ∷ []) more (first_met rows as') e) (λ f. first-some P rows as' more f h.1)
  where
    by : ((s : State) × (elimination (rows ++ a ∷ []) ≡ Ok s) × (more ≡ rows ++ a ∷ [])) ⊎ (first_met rows as' ≡ Ok (Some more)) → (first_met rows as' ≡ Ok (Some more) → (a : Linear) × P a × (more ≡ rows ++ a ∷ []) × (s : State) × (elimination more ≡ Ok s)) → (a : Linear) × P a × (more ≡ rows ++ a ∷ []) × (s : State) × (elimination more ≡ Ok s)
    by (inl f) rest = (a, h.0, f.2, f.0, ap elimination f.2 ∙ f.1)
    by (inr f) rest = rest f

-- rows whose elimination ends as unsatisfiable are met by no values
pub unsat-values : (rows : List Linear) (steps : List Step) → NoDisequation rows → elimination rows ≡ Err (halt.Unsat steps) → (m : ℕ → ℤ) (d : ℤ) → pos 0 <ℤ d → Each (Meets m d) rows → ⊥
unsat-values rows steps plain e m d h f = false_reached rows steps (point_by m d h) (unsat_reached rows steps plain e) (point-meets m d h rows f)

-- ---- all disequations

pub record Good (rows : List Linear) : Type 0 where
  pub normal : Each IsNormal rows
  pub plain : NoDisequation rows

pub good-more : (parts rows : List Linear) (a : Linear) → Good rows → Chosen parts a → Good (rows ++ a ∷ [])
good-more parts rows a g c = record {
  normal = Each-append IsNormal rows (a ∷ []) g.normal (c.normal, tt);
  plain = Each-append (λ (r : Linear). r.op ≢ op.Ne) rows (a ∷ []) g.plain ((λ e. let wrong : op.Lt ≡ op.Ne = sym c.strictly ∙ e in cc), tt);
}

first-of-parts : (rows : List Linear) (o : Option (List Linear)) (r : Option (List Linear)) → first_of rows o ≡ Ok r → (all : List Linear) × (Some all ≡ o) × (first_met rows all ≡ Ok r)
first-of-parts rows None r e = cc
first-of-parts rows (Some all) r e = (all, refl, e)

-- what a disequation chose
pub step-some : (rows parts more : List Linear) → first_of rows (alternatives parts) ≡ Ok (Some more) → Good rows → (a : Linear) × Chosen parts a × (more ≡ rows ++ a ∷ []) × (s : State) × (elimination more ≡ Ok s)
step-some rows parts more e g =
    let p = first-of-parts rows (alternatives parts) (Some more) e in
    first-some (Chosen parts) rows p.0 more p.2 (all-chosen parts p.0 p.1)

step-none : (rows parts : List Linear) → first_of rows (alternatives parts) ≡ Ok None → Good rows → (m : ℕ → ℤ) (d : ℤ) → pos 0 <ℤ d → Each (Meets m d) rows → SomeNonzero m d parts → ⊥
step-none rows parts e g m d h f =
    let p = first-of-parts rows (alternatives parts) None e in
    let Unmet = λ (a : Linear). (steps : List Step) × (elimination (rows ++ a ∷ []) ≡ Err (halt.Unsat steps)) in
    let both = Each-both Unmet (Chosen parts) p.0 (first-none rows p.0 p.2) (all-chosen parts p.0 p.1) in
    none-nonzero m d parts p.0 p.1
    (Each-map (λ (a : Linear). Unmet a × Chosen parts a) (λ (a : Linear). Meets m d a → ⊥) (λ a k met. unsat-values (rows ++ a ∷ []) k.0.0 (good-more parts rows a g k.1).plain k.0.1 m d h (Each-append (Meets m d) rows (a ∷ []) f (met, tt))) p.0 both)

pub with_all-some : (differ : List (List Linear)) (rows more : List Linear) → with_all rows differ ≡ Ok (Some more) → Good rows → Good more × ((m : ℕ → ℤ) (d : ℤ) → Each (Meets m d) more → Each (Meets m d) rows × Each (SomeNonzero m d) differ)
with_all-some [] rows more e g = let same : rows ≡ more = cc in subst (λ (xs : List Linear). Good xs × ((m : ℕ → ℤ) (d : ℤ) → Each (Meets m d) xs → Each (Meets m d) rows × Each (SomeNonzero m d) [])) same (g, λ m d h. (h, tt))
with_all-some (p ∷ ps) rows more e g =
    let k = then-ok (first_of rows (alternatives p)) (λ o. if_some o (λ more. with_all more ps)) (Some more) e in
    by k.0 k.1 k.2 (λ next f h. with_all-some ps next more f h)
  where
    by : (o : Option (List Linear)) → first_of rows (alternatives p) ≡ Ok o → if_some o (λ more. with_all more ps) ≡ Ok (Some more) → ((next : List Linear) → with_all next ps ≡ Ok (Some more) → Good next → Good more × ((m : ℕ → ℤ) (d : ℤ) → Each (Meets m d) more → Each (Meets m d) next × Each (SomeNonzero m d) ps)) → Good more × ((m : ℕ → ℤ) (d : ℤ) → Each (Meets m d) more → Each (Meets m d) rows × Each (SomeNonzero m d) (p ∷ ps))
    by None f e rest = cc
    by (Some next) f e rest =
        let s = step-some rows p next f g in
        let good = subst Good (sym s.2) (good-more p rows s.0 g s.1) in
        let r = rest next e good in (
          r.0,
          λ m d h.
              let w = r.1 m d h in
              let parts = subst (λ (xs : List Linear). Each (Meets m d) xs) s.2 w.0 in
              (Each-left (Meets m d) rows (s.0 ∷ []) parts, (s.1.nonzero m d (Each-right (Meets m d) rows (s.0 ∷ []) parts).0, w.1)),
        )

pub with_all-none : (differ : List (List Linear)) (rows : List Linear) → with_all rows differ ≡ Ok None → Good rows → (m : ℕ → ℤ) (d : ℤ) → pos 0 <ℤ d → Each (Meets m d) rows → Each (SomeNonzero m d) differ → ⊥
with_all-none [] rows e g m d h f s = cc
with_all-none (p ∷ ps) rows e g m d h f s =
    let k = then-ok (first_of rows (alternatives p)) (λ o. if_some o (λ more. with_all more ps)) None e in
    by k.0 k.1 k.2 (λ next e good m d h f s. with_all-none ps next e good m d h f s)
  where
    by : (o : Option (List Linear)) → first_of rows (alternatives p) ≡ Ok o → if_some o (λ more. with_all more ps) ≡ Ok None → ((next : List Linear) → with_all next ps ≡ Ok None → Good next → (m : ℕ → ℤ) (d : ℤ) → pos 0 <ℤ d → Each (Meets m d) next → Each (SomeNonzero m d) ps → ⊥) → ⊥
    by None e1 e rest = step-none rows p e1 g m d h f s.0
    by (Some next) e1 e rest =
        let c = step-some rows p next e1 g in
        let a = c.0 in
        let good = subst Good (sym c.2) (good-more p rows a g c.1) in
        let q = sat-values next c.3 good.normal good.plain c.4 in
        let qm = subst (λ (xs : List Linear). Each (Meets q.0 q.1) xs) c.2 q.3 in
        let below : value q.0 q.1 a <ℤ pos 0 = subst (λ (o : Op). Compares o (value q.0 q.1 a)) c.1.strictly (Each-right (Meets q.0 q.1) rows (a ∷ []) qm).0 in
        let n = larger (value m d a ∷ all-values m d ps) in
        let x = mixed n.0 q.0 m in
        let y = pos n.0 *ℤ q.1 +ℤ d in
        let mixed-a : Meets x y a = subst (λ (o : Op). Compares o (value x y a)) (sym c.1.strictly) (subst (λ z. z <ℤ pos 0) (sym (mixed-value n.0 q.0 m q.1 d a)) (below-mixed n.0 (value q.0 q.1 a) (value m d a) n.2.0 below)) in
        let all = all-mixed n.0 q.0 m q.1 d rows n.1 g.plain (Each-left (Meets q.0 q.1) rows (a ∷ []) qm) f in
        rest next e good x y (mixed-above n.0 q.1 d q.2 h) (subst (λ (xs : List Linear). Each (Meets x y) xs) (sym c.2) (Each-append (Meets x y) rows (a ∷ []) all (mixed-a, tt))) (each-second n.0 q.0 m q.1 d ps n.2.1 s.1)
