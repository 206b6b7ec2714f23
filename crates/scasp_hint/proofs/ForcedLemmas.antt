-- The sides of a disequation: their rows, which of them can be false, and what it is that they are all unsatisfiable.
use Rattle.std.proofs.Common.{◌≡◌, ◌≢◌, ◌⊎◌, inl, inr, ℕ, Bool, true, false, ◌||◌, ◌&&◌, not, List, [], ◌∷◌, ◌++◌, length, Option, Some, None, Result, Ok, Err, refl, sym, ap, subst, ◌∙◌, arith}
use Rattle.std.specs.Prelude.{⊤, if◌then◌else◌, pos, ◌+ℤ◌, ◌*ℤ◌}
use Rattle.std.specs.List.{list_any, list_all}
use Rattle.std.proofs.lemmas.Bool.{or_cases, and_parts, true≢false}
use Rattle.std.proofs.lemmas.Int.{ints}
use Rattle.scasp_num.specs.declared.linear.Coeff.{Coeff}
use Rattle.scasp_num.specs.declared.linear.Op.{Op}
use Rattle.scasp_num.specs.declared.linear.Op.TheVariants as op
use Rattle.scasp_num.specs.declared.hints.Step.{Step}
use Rattle.scasp_num.specs.Arithmetic.{negation_of}
use Rattle.scasp_num.specs.Linear.{Linear, IsNormal, Compares, compares}
use Rattle.scasp_list.specs.Each.{Each}
use Rattle.scasp_num.specs.Values.{Holds}
use Rattle.scasp_num.proofs.Comparing.{compares-is}
use Rattle.scasp_num.proofs.NormalForms.{negation-IsNormal}
use Rattle.scasp_rows.specs.declared.state.Halt.{Halt}
use Rattle.scasp_rows.specs.declared.state.Halt.TheVariants as halt
use Rattle.scasp_rows.specs.declared.state.State.{State}
use Rattle.scasp_rows.specs.Points.{RationalPoint, MeetsAll, NoDisequation, is_constant, is_false}
use Rattle.scasp_rows.specs.Samples.{MeetsSome}
use Rattle.scasp_rows.specs.Elimination.{elimination}
use Rattle.scasp_list.proofs.EachLemmas.{Each-left, Each-right, Each-append}
use Rattle.scasp_num.proofs.Kept.{normal_of-IsNormal, normal_of-op}
use Rattle.scasp_rows.proofs.Reaching.{false-holds, false_reached}
use Rattle.scasp_rows.proofs.Soundness.{unsat_reached}
use Rattle.scasp_rows.proofs.Completeness.{sat_met}
use Rattle.scasp_syntax.specs.Tm.{Tm, var, num, app}
use Rattle.scasp_syntax.specs.Values.{under}
use Rattle.scasp_syntax.specs.View.{tm_of}
use Rattle.scasp_unify.specs.Parts.{Part, parts, occurs}
use Rattle.scasp_unify.specs.Unification.{term_vars, Absorbs}
use Rattle.scasp_unify.specs.Resolver.{resolver}
use Rattle.scasp_unify.specs.Numbers.{number_var, is_number_term, is_among_numbers}
use Rattle.scasp_num.specs.Number.{zero_number}
use Rattle.scasp_unify.specs.ResolvedRows.{resolved_row}
use Rattle.scasp_syntax.specs.declared.con.Con.{Con}
use Rattle.scasp_syntax.specs.declared.con.Con.TheVariants as con
use Rattle.scasp_unify.proofs.ResolvedRowLemmas.{resolved}
use Rattle.scasp_unify.proofs.UnificationLemmas.{Fair, IfParts, equation-fair}
use Rattle.scasp_hint.specs.Sides.{below, above, one, minus_one, less, more, two_sides, parts_sides, sides_or_large, parted, compared, row_sides, con_sides, differs_in}
use Rattle.scasp_hint.specs.AskedRows.{given_rows}
use Rattle.scasp_hint.specs.Showing.{first_fault, run, run_sides}
use Rattle.scasp_hint.specs.Finding.{Forced, possible, unknown, forced, with_list, side_asked, sides_asked, is_large, is_unsat, side_large, side_unsat}
use Rattle.scasp_hint.proofs.SatisfyingLemmas.{on-a-side}
use Rattle.scasp_hint.proofs.AskedLemmas.{Standing, resolved-op}
use Rattle.scasp_hint.proofs.SidesLemmas.{less-holds, more-holds, two-made}
use Rattle.scasp_hint.proofs.RunLemmas.{run-reaches, any-front}
use Rattle.scasp_hint.proofs.StrictPoints.{IsNumeric, some-below, some-above}
use Rattle.scasp_hint.specs.declared.sides.Sides.{Sides}
use Rattle.scasp_hint.specs.declared.sides.Sides.TheVariants.{Mixed, Large, Listed}
use Rattle.scasp_hint.specs.declared.fault.HintFault.{HintFault}

-- ---- the rows of sides

-- a row in normal form, below 0
abbrev pub Strict : Linear → Type 0
Strict a = IsNormal a × (a.op ≡ op.Lt)

pub less-strict : (x : ℕ) (t : Tm) (row : Linear) → Some row ≡ less x t → Strict row
less-strict x (var y) row e = (normal_of-IsNormal (record { x = x; value = one } ∷ record { x = y; value = minus_one } ∷ []) zero_number op.Lt row e, normal_of-op (record { x = x; value = one } ∷ record { x = y; value = minus_one } ∷ []) zero_number op.Lt row e)
less-strict x (num q) row e = (normal_of-IsNormal (record { x = x; value = one } ∷ []) (negation_of q) op.Lt row e, normal_of-op (record { x = x; value = one } ∷ []) (negation_of q) op.Lt row e)
less-strict x (app f ts) row e = cc

pub more-strict : (x : ℕ) (t : Tm) (row : Linear) → Some row ≡ more x t → Strict row
more-strict x (var y) row e = (normal_of-IsNormal (record { x = x; value = minus_one } ∷ record { x = y; value = one } ∷ []) zero_number op.Lt row e, normal_of-op (record { x = x; value = minus_one } ∷ record { x = y; value = one } ∷ []) zero_number op.Lt row e)
more-strict x (num q) row e = (normal_of-IsNormal (record { x = x; value = minus_one } ∷ []) q op.Lt row e, normal_of-op (record { x = x; value = minus_one } ∷ []) q op.Lt row e)
more-strict x (app f ts) row e = cc

below-strict : (q : Linear) → IsNormal q → Strict (below q)
below-strict q n = (record { ascending = n.ascending; nonzero = n.nonzero; constant_range = n.constant_range; range = n.range; primitive = n.primitive; sign = refl }, refl)

above-strict : (q : Linear) → IsNormal q → Strict (above q)
above-strict q n = (negation-IsNormal (record { coeffs = q.coeffs; constant = q.constant; op = op.Le }) (record { ascending = n.ascending; nonzero = n.nonzero; constant_range = n.constant_range; range = n.range; primitive = n.primitive; sign = refl }), refl)

-- ---- a side that is false as it stands

-- where some side is false, each point meets another one
abbrev pub Spare : List Linear → Type 0
Spare ss = list_any is_false ss ≡ true → (v : RationalPoint) → MeetsSome v ss

not-false-row : (row : Linear) (v : RationalPoint) → Holds v row → is_false row ≡ false
not-false-row row v h = by (is_false row) refl
  where
    by : (b : Bool) → is_false row ≡ b → b ≡ false
    by true e = absurd (false-holds v row e h)
    by false e = refl

less-not-false : (x : ℕ) (t : Tm) (row : Linear) → occurs x t ≡ false → IsNumeric t → Some row ≡ less x t → is_false row ≡ false
less-not-false x t row o n e = let w = some-below x t o n in not-false-row row w.0 ((less-holds x t row e w.0).1 w.1)

more-not-false : (x : ℕ) (t : Tm) (row : Linear) → occurs x t ≡ false → IsNumeric t → Some row ≡ more x t → is_false row ≡ false
more-not-false x t row o n e = let w = some-above x t o n in not-false-row row w.0 ((more-holds x t row e w.0).1 w.1)

constant-holds : (q : Linear) → q.op ≡ op.Ne → is_constant q ≡ true → is_false q ≡ false → (v : RationalPoint) → Holds v q
constant-holds q e c f v = by q.coeffs c f
  where
    test : (b : Bool) → compares q.op q.constant ≡ b → (true && not b) ≡ false → compares q.op q.constant ≡ true
    test true e f = e
    test false e f = cc

    by : (ks : List Coeff) → is_constant (record { coeffs = ks; constant = q.constant; op = q.op }) ≡ true → is_false (record { coeffs = ks; constant = q.constant; op = q.op }) ≡ false → Holds v (record { coeffs = ks; constant = q.constant; op = q.op })
    by [] c f =
        let h = compares-is q.op q.constant (test (compares q.op q.constant) refl f) in
        let same : q.constant ≡ pos 0 +ℤ q.constant *ℤ pos 1 = omega (arith, ints) in
        subst (Compares q.op) same h
    by (k ∷ ks) c f = cc

constant-above : (q : Linear) → is_constant (above q) ≡ true → is_constant q ≡ true
constant-above q e = by q.coeffs e
  where
    by : (ks : List Coeff) → is_constant (above (record { coeffs = ks; constant = q.constant; op = q.op })) ≡ true → is_constant (record { coeffs = ks; constant = q.constant; op = q.op }) ≡ true
    by [] e = refl
    by (k ∷ ks) e = cc

compared-spare : (q : Linear) → q.op ≡ op.Ne → is_false q ≡ false → Spare (below q ∷ above q ∷ [])
compared-spare q e f g v = place (on-a-side v q e (constant-holds q e (by (or_cases (is_false (below q)) (list_any is_false (above q ∷ [])) g)) f v))
  where
    last : (is_false (above q) ≡ true) ⊎ (false ≡ true) → is_constant q ≡ true
    last (inl h) = constant-above q (and_parts (is_constant (above q)) (not (compares (above q).op (above q).constant)) h).0
    last (inr h) = cc

    by : (is_false (below q) ≡ true) ⊎ (list_any is_false (above q ∷ []) ≡ true) → is_constant q ≡ true
    by (inl h) = (and_parts (is_constant (below q)) (not (compares (below q).op (below q).constant)) h).0
    by (inr h) = last (or_cases (is_false (above q)) false h)

    place : Holds v (below q) ⊎ Holds v (above q) → MeetsSome v (below q ∷ above q ∷ [])
    place (inl h) = inl h
    place (inr h) = inr (inl h)

-- ---- the sides of a list

pub record Fine (ss : List Linear) : Type 0 where
  pub strict : Each Strict ss
  pub spare : Spare ss

abbrev pub SidesFine : Sides → Type 0
SidesFine Mixed = ⊤
SidesFine Large = ⊤
SidesFine (Listed ss) = Fine ss

none-false : (a b : Linear) (rest : List Linear) → is_false a ≡ false → is_false b ≡ false → list_any is_false rest ≡ false → list_any is_false (a ∷ b ∷ rest) ≡ false
none-false a b rest e f g = rw (e, f) g

numeric : (cs : List Con) (t : Tm) → is_number_term cs t ≡ true → IsNumeric t
numeric cs (var y) e = tt
numeric cs (num q) e = tt
numeric cs (app f ts) e = true≢false (sym e)

parts-fine : (cs : List Con) (vs : List ℕ) (ps : List Part) (all : List Linear) → Some all ≡ parts_sides ps → is_among_numbers cs ps ≡ true → Each (Fair vs) ps → Each Strict all × (list_any is_false all ≡ false)
parts-fine cs vs [] all e m f = let same : [] ≡ all = cc in subst (λ (rs : List Linear). Each Strict rs × (list_any is_false rs ≡ false)) same (tt, refl)
parts-fine cs vs (p ∷ ps) all e m f =
    let a = and_parts (number_var cs p.at && is_number_term cs p.term) (is_among_numbers cs ps) m in
    let n = numeric cs p.term (and_parts (number_var cs p.at) (is_number_term cs p.term) a.0).1 in
    by n p.turned e (λ rest g. parts-fine cs vs ps rest g a.1 f.1)
  where
    by : IsNumeric p.term → (t : Bool) → Some all ≡ (if t then two_sides (more p.at p.term) (less p.at p.term) (parts_sides ps) else two_sides (less p.at p.term) (more p.at p.term) (parts_sides ps)) → ((rest : List Linear) → Some rest ≡ parts_sides ps → Each Strict rest × (list_any is_false rest ≡ false)) → Each Strict all × (list_any is_false all ≡ false)
    by n true e rest =
        let w = two-made (more p.at p.term) (less p.at p.term) (parts_sides ps) all e in
        let k = rest w.more w.more_is in
        subst (λ (rs : List Linear). Each Strict rs × (list_any is_false rs ≡ false)) (sym w.all_is) (
          (more-strict p.at p.term w.first w.first_is, (less-strict p.at p.term w.second w.second_is, k.0)),
          none-false w.first w.second w.more (more-not-false p.at p.term w.first f.0.absent n w.first_is) (less-not-false p.at p.term w.second f.0.absent n w.second_is) k.1,
        )
    by n false e rest =
        let w = two-made (less p.at p.term) (more p.at p.term) (parts_sides ps) all e in
        let k = rest w.more w.more_is in
        subst (λ (rs : List Linear). Each Strict rs × (list_any is_false rs ≡ false)) (sym w.all_is) (
          (less-strict p.at p.term w.first w.first_is, (more-strict p.at p.term w.second w.second_is, k.0)),
          none-false w.first w.second w.more (less-not-false p.at p.term w.first f.0.absent n w.first_is) (more-not-false p.at p.term w.second f.0.absent n w.second_is) k.1,
        )

con-fine : (cs : List Con) (c : Con) → Absorbs (resolver cs) (resolver cs) → Each IsNormal (given_rows (c ∷ [])) → Each (Standing (resolver cs)) (given_rows (c ∷ [])) → Each SidesFine (con_sides cs c)
con-fine cs (con.Row r) a n s = by r.op refl
  where
    compare : r.op ≡ op.Ne → (o : Option Linear) → o ≡ resolved_row (resolver cs) r → SidesFine (compared o)
    compare e None f = tt
    compare e (Some q) f =
        let k = s.0 in
        let g : Some k.0 ≡ Some q = k.1 ∙ sym f in
        let same : k.0 ≡ q = cc in
        let normal = (resolved (resolver cs) r q a n.0 f).0 in
        record {
          strict = (below-strict q normal, (above-strict q normal, tt));
          spare = compared-spare q (resolved-op (resolver cs) r q f ∙ e) (subst (λ (q : Linear). is_false q ≡ false) same k.2);
        }

    by : (o : Op) → r.op ≡ o → Each SidesFine (row_sides o (resolved_row (resolver cs) r))
    by op.Eq e = tt
    by op.Lt e = tt
    by op.Le e = tt
    by op.Ne e = (compare e (resolved_row (resolver cs) r) refl, tt)
con-fine cs (con.Neq t u) a n s = by (parts (under (resolver cs) (tm_of t)) (under (resolver cs) (tm_of u))) (equation-fair (under (resolver cs) (tm_of t)) (under (resolver cs) (tm_of u)))
  where
    vs : List ℕ
    vs = term_vars (under (resolver cs) (tm_of t)) ++ term_vars (under (resolver cs) (tm_of u))

    made : (ps : List Part) → Each (Fair vs) ps → is_among_numbers cs ps ≡ true → (o : Option (List Linear)) → o ≡ parts_sides ps → SidesFine (sides_or_large o)
    made ps f e None g = tt
    made ps f e (Some all) g =
        let k = parts-fine cs vs ps all g e f in
        record { strict = k.0; spare = λ h v. absurd (true≢false (sym h ∙ k.1)) }

    test : (ps : List Part) → Each (Fair vs) ps → (b : Bool) → is_among_numbers cs ps ≡ b → SidesFine (if b then sides_or_large (parts_sides ps) else Mixed)
    test ps f true e = made ps f e (parts_sides ps) refl
    test ps f false e = tt

    by : (o : Option (List Part)) → IfParts o (Fair vs) → Each SidesFine (parted cs o)
    by None f = tt
    by (Some ps) f = (test ps f (is_among_numbers cs ps) refl, tt)
con-fine cs (con.Eq t u) a n s = tt
con-fine cs (con.NotShape x f k) a n s = tt
con-fine cs (con.Num t) a n s = tt
con-fine cs (con.NotNum t) a n s = tt

standing-parts : (P : Linear → Type 0) (c : Con) (ds : List Con) → Each P (given_rows (c ∷ ds)) → Each P (given_rows (c ∷ [])) × Each P (given_rows ds)
standing-parts P (con.Row r) ds n = ((n.0, tt), n.1)
standing-parts P (con.Eq t u) ds n = (tt, n)
standing-parts P (con.Neq t u) ds n = (tt, n)
standing-parts P (con.NotShape x f k) ds n = (tt, n)
standing-parts P (con.Num t) ds n = (tt, n)
standing-parts P (con.NotNum t) ds n = (tt, n)

pub all-fine : (cs ds : List Con) → Absorbs (resolver cs) (resolver cs) → Each IsNormal (given_rows ds) → Each (Standing (resolver cs)) (given_rows ds) → Each SidesFine (differs_in cs ds)
all-fine cs [] a n s = tt
all-fine cs (c ∷ ds) a n s =
    let k = standing-parts IsNormal c ds n in
    let j = standing-parts (Standing (resolver cs)) c ds s in
    Each-append SidesFine (con_sides cs c) (differs_in cs ds) (con-fine cs c a k.0 j.0) (all-fine cs ds a k.1 j.1)

-- ---- what is asked of the sides

-- the rows that are asked
pub record Plain (all : List Linear) : Type 0 where
  pub normal : Each IsNormal all
  pub plain : NoDisequation all
  pub true_rows : list_any is_false all ≡ false

side-plain : (all : List Linear) (a : Linear) → Plain all → Strict a → NoDisequation (all ++ a ∷ [])
side-plain all a p s = Each-append (λ (r : Linear). r.op ≢ op.Ne) all (a ∷ []) p.plain ((λ e. let wrong : op.Lt ≡ op.Ne = sym s.1 ∙ e in cc), tt)

abbrev pub SomeMet : List Linear → List Linear → Type 0
SomeMet all ss = (v : RationalPoint) × MeetsAll v all × MeetsSome v ss

abbrev pub AllUnsat : List Linear → List Linear → Type 0
AllUnsat all ss = Each (λ (a : Linear). (steps : List Step) × (elimination (all ++ a ∷ []) ≡ Err (halt.Unsat steps))) ss

abbrev pub AskedSays : List Linear → List Linear → Forced → Type 0
AskedSays all ss possible = SomeMet all ss × (list_all (side_unsat all) ss ≡ false)
AskedSays all ss unknown = list_any (side_large all) ss ≡ true
AskedSays all ss (forced lists) = AllUnsat all ss × (list_any is_false ss ≡ false → (run_sides all ss lists ≡ None) × (length lists ≡ length ss))

pub sides-asked : (all ss : List Linear) → Plain all → Each Strict ss → AskedSays all ss (sides_asked all ss)
sides-asked all [] p s = (tt, λ e. (refl, refl))
sides-asked all (a ∷ bs) p s = by (elimination (all ++ a ∷ [])) refl (sides_asked all bs) (sides-asked all bs p s.1)
  where
    plain : NoDisequation (all ++ a ∷ [])
    plain = side-plain all a p s.0

    is-large : (h : Result State Halt) → elimination (all ++ a ∷ []) ≡ h → is_large h ≡ true → list_any (side_large all) (a ∷ bs) ≡ true
    is-large h e f = ap (λ b. b || list_any (side_large all) bs) (ap is_large e ∙ f)

    listed : (steps : List Step) → elimination (all ++ a ∷ []) ≡ Err (halt.Unsat steps) → (f : Forced) → AskedSays all bs f → AskedSays all (a ∷ bs) (with_list steps f)
    listed steps e possible h = (
      (h.0.0, h.0.1, inr h.0.2),
      ap (λ b. b && list_all (side_unsat all) bs) (ap is_unsat e) ∙ h.1,
    )
    listed steps e unknown h = ap (λ b. b || list_any (side_large all) bs) (ap is_large e) ∙ h
    listed steps e (forced lists) h = (((steps, e), h.0), λ f. both f)
      where
        both : list_any is_false (a ∷ bs) ≡ false → (first_fault (run (all ++ a ∷ []) steps false) (run_sides all bs lists) ≡ None) × (length (steps ∷ lists) ≡ length (a ∷ bs))
        both f =
            let one = apart (is_false a) (list_any is_false bs) f in
            let r = unsat_reached (all ++ a ∷ []) steps plain e in
            let first = run-reaches (all ++ a ∷ []) steps r.0 r.1 r.2 (any-front all a p.true_rows one.0) in
            let rest = h.1 one.1 in
            (ap (λ (o : Option HintFault). first_fault o (run_sides all bs lists)) first ∙ rest.0, rw (rest.1) refl)
          where
            apart : (b c : Bool) → (b || c) ≡ false → (b ≡ false) × (c ≡ false)
            apart true c e = cc
            apart false c e = (refl, e)

    by : (h : Result State Halt) → elimination (all ++ a ∷ []) ≡ h → (f : Forced) → AskedSays all bs f → AskedSays all (a ∷ bs) (side_asked h f)
    by (Ok t) e f h =
        let m = sat_met (all ++ a ∷ []) t (Each-append IsNormal all (a ∷ []) p.normal (s.0.0, tt)) plain e in (
          (m.0, Each-left (Holds m.0) all (a ∷ []) m.1, inl (Each-right (Holds m.0) all (a ∷ []) m.1).0),
          ap (λ b. b && list_all (side_unsat all) bs) (ap is_unsat e),
        )
    by (Err (halt.Unsat steps)) e f h = listed steps e f h
    by (Err halt.Overflow) e f h = is-large (Err halt.Overflow) e refl
    by (Err halt.Memory) e f h = is-large (Err halt.Memory) e refl

-- where all sides are unsatisfiable with rows that are met, none of them is false as it stands
pub none-spare : (all ss : List Linear) → Plain all → Each Strict ss → Spare ss → (v : RationalPoint) → MeetsAll v all → AllUnsat all ss → list_any is_false ss ≡ false
none-spare all ss p s spare v m u = by (list_any is_false ss) refl
  where
    unmet : (bs : List Linear) → Each Strict bs → AllUnsat all bs → MeetsSome v bs → ⊥
    unmet [] s u h = h
    unmet (a ∷ bs) s u (inl h) = false_reached (all ++ a ∷ []) u.0.0 v (unsat_reached (all ++ a ∷ []) u.0.0 (side-plain all a p s.0) u.0.1) (Each-append (Holds v) all (a ∷ []) m (h, tt))
    unmet (a ∷ bs) s u (inr h) = unmet bs s.1 u.1 h

    by : (b : Bool) → list_any is_false ss ≡ b → b ≡ false
    by true e = absurd (unmet ss s u (spare e v))
    by false e = refl
