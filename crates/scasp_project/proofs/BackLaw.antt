-- A valuation that meets one of the lists to which a sorted list projects can be extended to meet that list.
use Rattle.std.proofs.Common.{◌≡◌, ◌↔◌, ◌⊎◌, inl, inr, ℕ, Bool, true, false, not, ◌&&◌, Some, None, Option, List, [], ◌∷◌, ◌++◌, append_assoc, append-nil, refl, sym, ap, subst, ◌∙◌}
use Rattle.std.specs.Prelude.{if◌then◌else◌, ◌||◌, nat_eq}
use Rattle.std.specs.List.{list_all, list_any, Contains}
use Rattle.std.proofs.lemmas.Bool.{and_parts, eqb-true, or_cases, or_parts, true≢false}
use Rattle.std.proofs.lemmas.Bool.Decides.{Decides-eqb}
use Rattle.std.proofs.lemmas.List.Folds.{list_all-append}
use Rattle.scasp_num.specs.declared.linear.Coeff.{Coeff}
use Rattle.scasp_num.specs.Linear.{Linear}
use Rattle.scasp_num.specs.Values.{Holds}
use Rattle.scasp_list.specs.Each.{Each}
use Rattle.scasp_list.proofs.EachLemmas.{Each-append, Each-map, Each-right}
use Rattle.scasp_rows.specs.Points.{MeetsAll, RationalPoint}
use Rattle.scasp_syntax.specs.Constraints.{has_shape, holds, is_number}
use Rattle.scasp_syntax.specs.RowTruth.{number_of, point}
use Rattle.scasp_syntax.specs.Tm.{Tm, Tms, var, num, app, nil, cons}
use Rattle.scasp_syntax.specs.Values.{Sub, Valuation, are_ground, is_ground, under, all_under}
use Rattle.scasp_syntax.specs.View.{tm_of}
use Rattle.scasp_syntax.specs.declared.con.Con.{Con}
use Rattle.scasp_syntax.specs.declared.con.Con.TheVariants as con
use Rattle.scasp_syntax.specs.declared.term.Term.{Term}
use Rattle.scasp_syntax.specs.declared.term.Term.TheVariants.{Var}
use Rattle.scasp_syntax.proofs.SameLemmas.{tm_decided}
use Rattle.scasp_syntax.proofs.ValueLemmas.{differ_decided, under-under}
use Rattle.scasp_unify.specs.Numbers.{is_among_numbers, is_num_of, is_number_term, number_var}
use Rattle.scasp_unify.specs.Parts.{Part, parts}
use Rattle.scasp_unify.specs.PointMeets.{PartsDiffer, PointMeets}
use Rattle.scasp_unify.specs.Points.{read_as, through}
use Rattle.scasp_unify.specs.Resolver.{Equal, resolver, unifies}
use Rattle.scasp_unify.specs.SimpleForm.{differ, term_with}
use Rattle.scasp_unify.specs.Sorted.{Sorted}
use Rattle.scasp_unify.specs.TermFailures.{fails_by_terms, is_compound, is_identity, is_refuted}
use Rattle.scasp_unify.specs.Unification.{Absorbs, term_vars}
use Rattle.scasp_unify.proofs.PointLemmas.{bridge, holds-same}
use Rattle.scasp_unify.proofs.ResolverLemmas.{complete-list, resolver-equal}
use Rattle.scasp_unify.proofs.SimpleLemmas.{viewed}
use Rattle.scasp_unify.proofs.SortedLemmas.{one-more}
use Rattle.scasp_unify.proofs.UnificationLemmas.{Fits, IfParts, Says, parts-say}
use Rattle.scasp_unify.proofs.ValuationLemmas.{sorted-met}
use Rattle.scasp_hint.specs.AskedRows.{RowsNormal, given_rows, inequalities}
use Rattle.scasp_project.specs.Choices.{are_too_many, has_mixed, is_mixed, mixed_by, options, speak_of_dropped}
use Rattle.scasp_project.specs.Dropped.{con_has, is_dropped, part_has, parts_have, parts_in, reading_of}
use Rattle.scasp_project.specs.Meaning.{Extends, IfAlternatives, IsNoEquation, MeetsOne}
use Rattle.scasp_project.specs.Projection.{projection, remaining, stays}
use Rattle.scasp_project.specs.declared.projecting.Projected.{Projected}
use Rattle.scasp_project.specs.declared.projecting.Projected.TheVariants as projected
use Rattle.scasp_project.proofs.ForwardLemmas.{is_met_by}
use Rattle.scasp_project.proofs.KeptLemmas.{con-same}
use Rattle.scasp_project.proofs.MetLaw.{absorbs-any, met, no-equations, number-con, projects, resolved-var}
use Rattle.scasp_project.proofs.OpenParts.{Absent, no-var, options-open, parts-absent, parts-open, under-var, valued, valued-kept, valued-number}
use Rattle.scasp_project.proofs.SourceLemmas.{Source, asked-holds, in-asked, left-holds, only-asked, options-are, passing, row-meets, row-met, source-of, sources}
use Rattle.std.proofs.lemmas.List.Elements.{Contains-append_cases}
use Rattle.scasp_list.proofs.MemberLemmas.{Contains-none, Contains-cases, list_any-from, list_any-none_from, list_any-none_member, list_any-member}
use Rattle.scasp_unify.proofs.Members.{Each-from}

-- ---- equations that fix the kept variables

abbrev fixing : Sub → List ℕ → List Con
fixing v [] = []
fixing v (x ∷ xs) = con.Eq (Var x) (term_with (v x)) ∷ fixing v xs

mutual
  under-ground : (r : Sub) (t : Tm) → is_ground t ≡ true → under r t ≡ t
  under-ground r (var x) e = absurd (true≢false (sym e))
  under-ground r (num q) e = refl
  under-ground r (app f ts) e = ap (app f) (all-ground r ts e)

  all-ground : (r : Sub) (ts : Tms) → are_ground ts ≡ true → all_under r ts ≡ ts
  all-ground r nil e = refl
  all-ground r (cons t ts) e =
      let parts = and_parts (is_ground t) (are_ground ts) e in
      let p = under-ground r t parts.0 in
      let q = all-ground r ts parts.1 in
      cc

sorted-fixed : (v : Sub) (xs : List ℕ) (cs : List Con) → Sorted cs → Sorted (cs ++ fixing v xs)
sorted-fixed v [] cs h = subst (λ (ds : List Con). Sorted ds) (sym (append-nil cs)) h
sorted-fixed v (x ∷ xs) cs h =
    let c = con.Eq (Var x) (term_with (v x)) in
    subst (λ (ds : List Con). Sorted ds) (append_assoc cs (c ∷ []) (fixing v xs)) (sorted-fixed v xs (cs ++ c ∷ []) (one-more cs c h refl))

fixed-value : (v : Valuation) (r : Sub) (x : ℕ) → under r (tm_of (term_with (v.of x))) ≡ v.of x
fixed-value v r x = ap (under r) (viewed (v.of x)) ∙ under-ground r (v.of x) (v.ground x)

fixing-equal : (v : Valuation) (r : Sub) (xs : List ℕ) → Each (λ x. r x ≡ v.of x) xs → Each (Equal r) (fixing v.of xs)
fixing-equal v r [] h = tt
fixing-equal v r (x ∷ xs) h = (h.0 ∙ sym (fixed-value v r x), fixing-equal v r xs h.1)

fixing-at : (v : Valuation) (r : Sub) (xs : List ℕ) (x : ℕ) → Each (Equal r) (fixing v.of xs) → list_any (nat_eq x) xs ≡ true → r x ≡ v.of x
fixing-at v r [] x h e = absurd (true≢false (sym e))
fixing-at v r (y ∷ xs) x h e = by (λ k. fixing-at v r xs x h.1 k) (or_cases (nat_eq x y) (list_any (nat_eq x) xs) e)
  where
    by : (list_any (nat_eq x) xs ≡ true → r x ≡ v.of x) → (nat_eq x y ≡ true) ⊎ (list_any (nat_eq x) xs ≡ true) → r x ≡ v.of x
    by later (inl k) = subst (λ z. r z ≡ v.of z) (sym (eqb-true x y k)) (h.0 ∙ fixed-value v r y)
    by later (inr k) = later k

fixing-num : (v : Sub) (xs : List ℕ) (s : Sub) (t : Tm) (c : Con) → Contains (fixing v xs) c → is_num_of s t c ≡ true → ⊥
fixing-num v [] s t c i e = Contains-none c i
fixing-num v (x ∷ xs) s t c i e =
    elim (Contains-cases (con.Eq (Var x) (term_with (v x))) (fixing v xs) c i) [
      | inl k ↦ true≢false (sym e ∙ ap (is_num_of s t) (sym k))
      | inr j ↦ fixing-num v xs s t c j e
    ]

members : (xs : List ℕ) → Each (λ x. list_any (nat_eq x) xs ≡ true) xs
members [] = tt
members (x ∷ xs) = (ap (λ b. b || list_any (nat_eq x) xs) ((Decides-eqb x x).1 refl), Each-map (λ y. list_any (nat_eq y) xs ≡ true) (λ y. list_any (nat_eq y) (x ∷ xs) ≡ true) (λ y e. ap (λ b. nat_eq y x || b) e ∙ or-all (nat_eq y x)) xs (members xs))
  where
    or-all : (b : Bool) → (b || true) ≡ true
    or-all true = refl
    or-all false = refl

not-false-is : (b : Bool) → not b ≡ false → b ≡ true
not-false-is true e = refl
not-false-is false e = absurd (true≢false e)

-- ---- the extension

module _ (cs : List Con) (keep : List ℕ) (v : Valuation) (plain : Each IsNoEquation cs) (few : are_too_many (reading_of cs keep) cs ≡ false) (list : List Con) (x : Source (reading_of cs keep) cs list) (listed : is_met_by v.of list ≡ true) (q : RationalPoint) (met : MeetsAll q (inequalities (given_rows x.choice))) (same : (y : ℕ) → is_dropped keep y ≡ false → q y ≡ point v.of y) where
  alone-asked : (c : Con) → Contains cs c → options (reading_of cs keep) c ≡ Some (c ∷ []) → stays keep c ≡ true → Contains (remaining keep x.choice x.rows) c
  alone-asked = only-asked (reading_of cs keep) cs list x

  passes : (c : Con) → Contains (remaining keep x.choice x.rows) c → is_refuted (remaining keep x.choice x.rows) c ≡ false
  passes = passing (reading_of cs keep) cs list x

  kept-holds : (c : Con) → Contains cs c → options (reading_of cs keep) c ≡ Some (c ∷ []) → stays keep c ≡ true → con_has (reading_of cs keep) (is_dropped keep) c ≡ false → holds v.of c ≡ true
  kept-holds c i e k h = asked-holds (reading_of cs keep) cs list x v.of listed c (alone-asked c i e k) h

  -- ---- numbers

  num-value : (t : Tm) → is_number t ≡ true → t ≡ num (number_of t)
  num-value (var y) e = absurd (true≢false (sym e))
  num-value (num r) e = refl
  num-value (app f ts) e = absurd (true≢false (sym e))

  counts : (y : ℕ) → number_var cs y ≡ true → valued (reading_of cs keep) v.of q y ≡ num (q y)
  counts y e = by (is_dropped keep y) refl
    where
      by : (b : Bool) → is_dropped keep y ≡ b → valued (reading_of cs keep) v.of q y ≡ num (q y)
      by true d = valued-number (reading_of cs keep) v q y d e
      by false d =
          let c = number-con cs plain y e in
          let lacks : list_any (is_dropped keep) (term_vars (tm_of c.0)) ≡ false = ap (λ (t : Tm). list_any (is_dropped keep) (term_vars t)) c.2 ∙ ap (λ b. b || false) d in
          let h = kept-holds (con.Num c.0) c.1 refl refl lacks in
          let is : is_number (v.of y) ≡ true = sym (ap (λ (t : Tm). is_number (under v.of t)) c.2) ∙ h in
          valued-kept (reading_of cs keep) v q y d ∙ num-value (v.of y) is ∙ ap num (sym (same y d))

  -- ---- disequations

  differ-holds : (t u : Tm) → Contains x.choice (differ t u) → parts_have (is_dropped keep) (parts t u) ≡ false → holds v.of (differ t u) ≡ true
  differ-holds t u i e = asked-holds (reading_of cs keep) cs list x v.of listed (differ t u) (in-asked (reading_of cs keep) cs list x (differ t u) i refl) (ap (parts_have (is_dropped keep)) is ∙ e)
    where
      side : (z : Tm) → under (resolver cs) (tm_of (term_with z)) ≡ z
      side z = ap (λ (r : Sub). under r (tm_of (term_with z))) (resolved-var cs plain) ∙ under-var (tm_of (term_with z)) ∙ viewed z

      is : parts_in (reading_of cs keep) (term_with t) (term_with u) ≡ parts t u
      is i = parts (side t i) (side u i)

  side-is : (r : Sub) (t : Term) → under r (under (resolver cs) (tm_of t)) ≡ under r (tm_of t)
  side-is r t = ap (under r) (ap (λ (k : Sub). under k (tm_of t)) (resolved-var cs plain) ∙ under-var (tm_of t))

  differs : (t u : Term) → Contains cs (con.Neq t u) → under (valued (reading_of cs keep) v.of q) (tm_of t) ≡ under (valued (reading_of cs keep) v.of q) (tm_of u) → ⊥
  differs t u i e =
      by (parts_in (reading_of cs keep) t u) refl (parts-absent (under (resolver cs) (tm_of t)) (under (resolver cs) (tm_of u))) (parts-say w (under (resolver cs) (tm_of t)) (under (resolver cs) (tm_of u)))
    where
      w : Sub
      w = valued (reading_of cs keep) v.of q

      equal : under w (under (resolver cs) (tm_of t)) ≡ under w (under (resolver cs) (tm_of u))
      equal = side-is w t ∙ e ∙ sym (side-is w u)

      mixed : has_mixed (reading_of cs keep) (con.Neq t u) ≡ false
      mixed = list_any-none_member (has_mixed (reading_of cs keep)) cs (con.Neq t u) (or_parts (list_any (has_mixed (reading_of cs keep)) cs) _ few).0 i

      by : (o : Option (List Part)) → parts_in (reading_of cs keep) t u ≡ o → IfParts o Absent → Says w o (under w (under (resolver cs) (tm_of t)) ≡ under w (under (resolver cs) (tm_of u))) → ⊥
      by None k a says = says equal
      by (Some ps) k a says = test (speak_of_dropped (reading_of cs keep) ps) refl
        where
          fits : Each (Fits w) ps
          fits = says.0 equal

          unmixed : list_any (is_mixed (reading_of cs keep)) ps ≡ false
          unmixed = sym (ap (mixed_by (reading_of cs keep)) k) ∙ mixed

          test : (b : Bool) → speak_of_dropped (reading_of cs keep) ps ≡ b → ⊥
          test true d =
              let c = x.chooses.0 (con.Neq t u) i in
              options-open (reading_of cs keep) v q x.choice counts (resolved-var cs plain) (row-met q x.choice met) differ-holds ps c.2.0 fits a unmixed (sym (options-are (reading_of cs keep) t u ps true k d) ∙ c.2.1) c.0 c.2.2 c.1
          test false d = part (list_any (part_has (is_dropped keep)) ps) refl
            where
              part : (b : Bool) → list_any (part_has (is_dropped keep)) ps ≡ b → ⊥
              part true h = parts-open (reading_of cs keep) v q ps a h d fits
              part false h =
                  let lacks : con_has (reading_of cs keep) (is_dropped keep) (con.Neq t u) ≡ false = ap (parts_have (is_dropped keep)) k ∙ h in
                  let held = con-same keep w v.of (λ y d. sym (valued-kept (reading_of cs keep) v q y d)) (reading_of cs keep) (absorbs-any cs plain v.of) (absorbs-any cs plain w) (con.Neq t u) lacks (kept-holds (con.Neq t u) i (options-are (reading_of cs keep) t u ps false k d) refl lacks) in
                  (differ_decided (under w (tm_of t)) (under w (tm_of u))).0 held e

  -- ---- the list with the equations

  abbrev fixed : Sub
  fixed y = if is_dropped keep y then var y else v.of y

  fixed-kept : (y : ℕ) → is_dropped keep y ≡ false → fixed y ≡ v.of y
  fixed-kept y d i = if d i then var y else v.of y

  fixed-dropped : (y : ℕ) → is_dropped keep y ≡ true → fixed y ≡ var y
  fixed-dropped y d i = if d i then var y else v.of y

  unified : (unifies (cs ++ fixing v.of keep) ≡ true) × Absorbs fixed (resolver (cs ++ fixing v.of keep))
  unified =
      complete-list fixed (cs ++ fixing v.of keep)
      (Each-append (Equal fixed) cs (fixing v.of keep) (no-equations cs fixed plain) (fixing-equal v fixed keep (Each-map (λ y. list_any (nat_eq y) keep ≡ true) (λ y. fixed y ≡ v.of y) (λ y e. fixed-kept y (ap not e)) keep (members keep))))

  var-of : (z y : ℕ) → ◌≡◌ {A = Tm} (var z) (var y) → z ≡ y
  var-of z y e = cc

  -- what is fixed as a variable is that variable, and dropped
  fixed-var : (t : Tm) (y : ℕ) → under fixed t ≡ var y → (t ≡ var y) × (is_dropped keep y ≡ true)
  fixed-var (var z) y e = by (is_dropped keep z) refl
    where
      by : (b : Bool) → is_dropped keep z ≡ b → (var z ≡ var y) × (is_dropped keep y ≡ true)
      by true d = let is = sym (fixed-dropped z d) ∙ e in (is, subst (λ n. is_dropped keep n ≡ true) (var-of z y is) d)
      by false d = absurd (no-var (v.of z) y (v.ground z) (sym (fixed-kept z d) ∙ e))
  fixed-var (num r) y e = cc
  fixed-var (app f ts) y e = cc

  resolver-is : (y : ℕ) → resolver (cs ++ fixing v.of keep) y ≡ fixed y
  resolver-is y = by (is_dropped keep y) refl
    where
      by : (b : Bool) → is_dropped keep y ≡ b → resolver (cs ++ fixing v.of keep) y ≡ fixed y
      by true d = (fixed-var (resolver (cs ++ fixing v.of keep) y) y (unified.1 y ∙ fixed-dropped y d)).0 ∙ sym (fixed-dropped y d)
      by false d = fixing-at v (resolver (cs ++ fixing v.of keep)) keep y (Each-right (Equal (resolver (cs ++ fixing v.of keep))) cs (fixing v.of keep) (resolver-equal (cs ++ fixing v.of keep) unified.0)) (not-false-is (list_any (nat_eq y) keep) d) ∙ sym (fixed-kept y d)

  resolver-fixed : resolver (cs ++ fixing v.of keep) ≡ fixed
  resolver-fixed i y = resolver-is y i

  all-number : (y : ℕ) → number_var (cs ++ fixing v.of keep) y ≡ true → (number_var cs y ≡ true) × (is_dropped keep y ≡ true)
  all-number y e = let c = list_any-member (is_num_of (resolver (cs ++ fixing v.of keep)) (var y)) (cs ++ fixing v.of keep) e in place c.0 (Contains-append_cases cs (fixing v.of keep) c.0 c.1) c.2
    where
      by : (c : Con) → Contains cs c → is_num_of (resolver (cs ++ fixing v.of keep)) (var y) c ≡ true → (number_var cs y ≡ true) × (is_dropped keep y ≡ true)
      by (con.Num t) i e =
          let is = fixed-var (tm_of t) y (ap (λ (r : Sub). under r (tm_of t)) (sym resolver-fixed) ∙ (tm_decided (under (resolver (cs ++ fixing v.of keep)) (tm_of t)) (var y)).0 e) in
          (list_any-from (is_num_of (resolver cs) (var y)) cs (con.Num t) i ((tm_decided (under (resolver cs) (tm_of t)) (var y)).1 (ap (λ (r : Sub). under r (tm_of t)) (resolved-var cs plain) ∙ under-var (tm_of t) ∙ is.0)), is.1)
      by (con.Eq t u) i e = absurd (true≢false (sym e))
      by (con.Neq t u) i e = absurd (true≢false (sym e))
      by (con.NotShape z f n) i e = absurd (true≢false (sym e))
      by (con.NotNum t) i e = absurd (true≢false (sym e))
      by (con.Row r) i e = absurd (true≢false (sym e))

      place : (c : Con) → Contains cs c ⊎ Contains (fixing v.of keep) c → is_num_of (resolver (cs ++ fixing v.of keep)) (var y) c ≡ true → (number_var cs y ≡ true) × (is_dropped keep y ≡ true)
      place c (inl i) e = by c i e
      place c (inr i) e = absurd (fixing-num v.of keep (resolver (cs ++ fixing v.of keep)) (var y) c i e)

  -- ---- the point meets it

  w-fixed : (y : ℕ) → under (valued (reading_of cs keep) v.of q) (fixed y) ≡ valued (reading_of cs keep) v.of q y
  w-fixed y = by (is_dropped keep y) refl
    where
      by : (b : Bool) → is_dropped keep y ≡ b → under (valued (reading_of cs keep) v.of q) (fixed y) ≡ valued (reading_of cs keep) v.of q y
      by true d = ap (under (valued (reading_of cs keep) v.of q)) (fixed-dropped y d)
      by false d = ap (under (valued (reading_of cs keep) v.of q)) (fixed-kept y d) ∙ under-ground (valued (reading_of cs keep) v.of q) (v.of y) (v.ground y) ∙ sym (valued-kept (reading_of cs keep) v q y d)

  under-all : (t : Tm) → under (valued (reading_of cs keep) v.of q) (under (resolver (cs ++ fixing v.of keep)) t) ≡ under (valued (reading_of cs keep) v.of q) t
  under-all t =
      ap (λ (r : Sub). under (valued (reading_of cs keep) v.of q) (under r t)) resolver-fixed
      ∙ under-under (valued (reading_of cs keep) v.of q) fixed t
      ∙ (λ i. under (λ y. w-fixed y i) t)

  fitting : (ps : List Part) → is_among_numbers (cs ++ fixing v.of keep) ps ≡ true → Each (λ (p : Part). q p.at ≡ read_as q p.at p.term) ps → Each (Fits (valued (reading_of cs keep) v.of q)) ps
  fitting [] e h = tt
  fitting (p ∷ ps) e h =
      let parts = and_parts (number_var (cs ++ fixing v.of keep) p.at && is_number_term (cs ++ fixing v.of keep) p.term) (is_among_numbers (cs ++ fixing v.of keep) ps) e in
      let both = and_parts (number_var (cs ++ fixing v.of keep) p.at) (is_number_term (cs ++ fixing v.of keep) p.term) parts.0 in
      (counts p.at (all-number p.at both.0).0 ∙ by p.term both.1 h.0, fitting ps parts.1 h.1)
    where
      by : (t : Tm) → is_number_term (cs ++ fixing v.of keep) t ≡ true → q p.at ≡ read_as q p.at t → num (q p.at) ≡ under (valued (reading_of cs keep) v.of q) t
      by (var z) b k = ap num k ∙ sym (counts z (all-number z b).0)
      by (num r) b k = ap num k
      by (app f ts) b k = absurd (true≢false (sym b))

  parts-differ : (t u : Term) → Contains cs (con.Neq t u) → PartsDiffer (cs ++ fixing v.of keep) q (parts (under (resolver (cs ++ fixing v.of keep)) (tm_of t)) (under (resolver (cs ++ fixing v.of keep)) (tm_of u)))
  parts-differ t u i = by (parts (under (resolver (cs ++ fixing v.of keep)) (tm_of t)) (under (resolver (cs ++ fixing v.of keep)) (tm_of u))) (parts-say (valued (reading_of cs keep) v.of q) (under (resolver (cs ++ fixing v.of keep)) (tm_of t)) (under (resolver (cs ++ fixing v.of keep)) (tm_of u)))
    where
      by : (o : Option (List Part)) → Says (valued (reading_of cs keep) v.of q) o (under (valued (reading_of cs keep) v.of q) (under (resolver (cs ++ fixing v.of keep)) (tm_of t)) ≡ under (valued (reading_of cs keep) v.of q) (under (resolver (cs ++ fixing v.of keep)) (tm_of u))) → PartsDiffer (cs ++ fixing v.of keep) q o
      by None says = tt
      by (Some ps) says = λ among equal. differs t u i (sym (under-all (tm_of t)) ∙ says.1 (fitting ps among equal) ∙ under-all (tm_of u))

  same-at : (ks : List Coeff) → list_any (λ k. is_dropped keep k.x) ks ≡ false → Each (λ k. point v.of k.x ≡ q k.x) ks
  same-at [] e = tt
  same-at (k ∷ ks) e = let parts = or_parts (is_dropped keep k.x) (list_any (λ k. is_dropped keep k.x) ks) e in (sym (same k.x parts.0), same-at ks parts.1)

  row-holds : (r : Linear) → Contains cs (con.Row r) → Holds q r
  row-holds = row-meets (reading_of cs keep) cs list x q met (λ r i d. holds-same (point v.of) q r (same-at r.coeffs d) ((bridge v.of r).0 (asked-holds (reading_of cs keep) cs list x v.of listed (con.Row r) i d)))

  through-same : (y : ℕ) → q y ≡ through (resolver (cs ++ fixing v.of keep)) q y
  through-same y = by (is_dropped keep y) refl ∙ ap (read_as q y) (sym (resolver-is y))
    where
      value : (t : Tm) → v.of y ≡ t → is_dropped keep y ≡ false → q y ≡ read_as q y t
      value (var z) e d = absurd (no-var (v.of y) z (v.ground y) e)
      value (num r) e d = same y d ∙ ap number_of e
      value (app f ts) e d = refl

      by : (b : Bool) → is_dropped keep y ≡ b → q y ≡ read_as q y (fixed y)
      by true d = ap (read_as q y) (sym (fixed-dropped y d))
      by false d = value (v.of y) refl d ∙ ap (read_as q y) (sym (fixed-kept y d))

  all-same : (ks : List Coeff) → Each (λ k. q k.x ≡ through (resolver (cs ++ fixing v.of keep)) q k.x) ks
  all-same [] = tt
  all-same (k ∷ ks) = (through-same k.x, all-same ks)

  point-meets : (c : Con) → Contains cs c → PointMeets (cs ++ fixing v.of keep) q c
  point-meets (con.Row r) i = holds-same q (through (resolver (cs ++ fixing v.of keep)) q) r (all-same r.coeffs) (row-holds r i)
  point-meets (con.Neq t u) i = parts-differ t u i
  point-meets (con.Eq t u) i = tt
  point-meets (con.NotShape y f n) i = tt
  point-meets (con.Num t) i = tt
  point-meets (con.NotNum t) i = tt

  -- ---- it does not fail by terms

  num-passes : (t : Term) → Contains cs (con.Num t) → (z : Tm) → tm_of t ≡ z → is_compound (under (resolver (cs ++ fixing v.of keep)) z) ≡ false
  num-passes t i (num r) e = refl
  num-passes t i (app f ts) e = absurd (true≢false (sym (ap (λ (z : Tm). is_compound (under (resolver (remaining keep x.choice x.rows)) z)) e) ∙ passes (con.Num t) (alone-asked (con.Num t) i refl refl)))
  num-passes t i (var y) e = ap is_compound (resolver-is y) ∙ by (is_dropped keep y) refl
    where
      plain-number : (z : Tm) → is_number z ≡ true → is_compound z ≡ false
      plain-number (var n) h = refl
      plain-number (num r) h = refl
      plain-number (app f ts) h = absurd (true≢false (sym h))

      by : (b : Bool) → is_dropped keep y ≡ b → is_compound (fixed y) ≡ false
      by true d = ap is_compound (fixed-dropped y d)
      by false d =
          let lacks : list_any (is_dropped keep) (term_vars (tm_of t)) ≡ false = ap (λ (z : Tm). list_any (is_dropped keep) (term_vars z)) e ∙ ap (λ b. b || false) d in
          let h = kept-holds (con.Num t) i refl refl lacks in
          ap is_compound (fixed-kept y d) ∙ plain-number (v.of y) (sym (ap (λ (z : Tm). is_number (under v.of z)) e) ∙ h)

  both-asked : (y : ℕ) (t u : Term) → Contains cs (con.Num t) → Contains cs (con.NotNum u) → tm_of t ≡ var y → tm_of u ≡ var y → ⊥
  both-asked y t u i j e f = by (resolver ds y) refl
    where
      ds : List Con
      ds = remaining keep x.choice x.rows

      first : is_compound (resolver ds y) ≡ false
      first = sym (ap (λ (z : Tm). is_compound (under (resolver ds) z)) e) ∙ passes (con.Num t) (alone-asked (con.Num t) i refl refl)

      second : is_number_term ds (resolver ds y) ≡ false
      second = sym (ap (λ (z : Tm). is_number_term ds (under (resolver ds) z)) f) ∙ passes (con.NotNum u) (alone-asked (con.NotNum u) j refl refl)

      by : (z : Tm) → resolver ds y ≡ z → ⊥
      by (var n) k =
          let is : under (resolver ds) (tm_of t) ≡ var n = ap (under (resolver ds)) e ∙ k in
          true≢false (sym (list_any-from (is_num_of (resolver ds) (var n)) ds (con.Num t) (alone-asked (con.Num t) i refl refl) ((tm_decided (under (resolver ds) (tm_of t)) (var n)).1 is)) ∙ ap (is_number_term ds) (sym k) ∙ second)
      by (num r) k = true≢false (ap (is_number_term ds) (sym k) ∙ second)
      by (app f ts) k = true≢false (ap is_compound (sym k) ∙ first)

  other-passes : (t : Term) → Contains cs (con.NotNum t) → (z : Tm) → tm_of t ≡ z → is_number_term (cs ++ fixing v.of keep) (under (resolver (cs ++ fixing v.of keep)) z) ≡ false
  other-passes t i (num r) e = absurd (true≢false (sym (ap (λ (z : Tm). is_number_term (remaining keep x.choice x.rows) (under (resolver (remaining keep x.choice x.rows)) z)) e) ∙ passes (con.NotNum t) (alone-asked (con.NotNum t) i refl refl)))
  other-passes t i (app f ts) e = refl
  other-passes t i (var y) e = ap (is_number_term (cs ++ fixing v.of keep)) (resolver-is y) ∙ by (is_dropped keep y) refl
    where
      value : (z : Tm) → v.of y ≡ z → not (is_number z) ≡ true → is_number_term (cs ++ fixing v.of keep) z ≡ false
      value (var n) k h = absurd (no-var (v.of y) n (v.ground y) k)
      value (num r) k h = absurd (true≢false (sym h))
      value (app f ts) k h = refl

      lacking : (b : Bool) → number_var (cs ++ fixing v.of keep) y ≡ b → b ≡ false
      lacking true k = let c = number-con cs plain y (all-number y k).0 in absurd (both-asked y c.0 t c.1 i c.2 e)
      lacking false k = refl

      by : (b : Bool) → is_dropped keep y ≡ b → is_number_term (cs ++ fixing v.of keep) (fixed y) ≡ false
      by true d = ap (is_number_term (cs ++ fixing v.of keep)) (fixed-dropped y d) ∙ lacking (number_var (cs ++ fixing v.of keep) y) refl
      by false d =
          let lacks : list_any (is_dropped keep) (term_vars (tm_of t)) ≡ false = ap (λ (z : Tm). list_any (is_dropped keep) (term_vars z)) e ∙ ap (λ b. b || false) d in
          let h = kept-holds (con.NotNum t) i refl refl lacks in
          ap (is_number_term (cs ++ fixing v.of keep)) (fixed-kept y d) ∙ value (v.of y) refl (sym (ap (λ (z : Tm). not (is_number (under v.of z))) e) ∙ h)

  unrefuted : (c : Con) → Contains cs c → is_refuted (cs ++ fixing v.of keep) c ≡ false
  unrefuted (con.Eq t u) i = refl
  unrefuted (con.Row r) i = refl
  unrefuted (con.Num t) i = num-passes t i (tm_of t) refl
  unrefuted (con.NotNum t) i = other-passes t i (tm_of t) refl
  unrefuted (con.NotShape y f n) i = ap (has_shape f n) (resolver-is y) ∙ by (is_dropped keep y) refl
    where
      not-true : (b : Bool) → not b ≡ true → b ≡ false
      not-true true e = absurd (true≢false (sym e))
      not-true false e = refl

      by : (b : Bool) → is_dropped keep y ≡ b → has_shape f n (fixed y) ≡ false
      by true d = ap (has_shape f n) (fixed-dropped y d)
      by false d = ap (has_shape f n) (fixed-kept y d) ∙ not-true (has_shape f n (v.of y)) (kept-holds (con.NotShape y f n) i refl refl d)
  unrefuted (con.Neq t u) i = by (parts (under (resolver (cs ++ fixing v.of keep)) (tm_of t)) (under (resolver (cs ++ fixing v.of keep)) (tm_of u))) (parts-differ t u i)
    where
      by : (o : Option (List Part)) → PartsDiffer (cs ++ fixing v.of keep) q o → is_identity o ≡ false
      by None h = refl
      by (Some []) h = absurd (h refl tt)
      by (Some (p ∷ ps)) h = refl

  fixing-passes : (ds : List Con) (xs : List ℕ) (c : Con) → Contains (fixing v.of xs) c → (is_refuted ds c ≡ false) × PointMeets ds q c
  fixing-passes ds [] c i = absurd (Contains-none c i)
  fixing-passes ds (y ∷ xs) c i =
      elim (Contains-cases (con.Eq (Var y) (term_with (v.of y))) (fixing v.of xs) c i) [
        | inl k ↦ subst (λ (d : Con). (is_refuted ds d ≡ false) × PointMeets ds q d) k (refl, tt)
        | inr j ↦ fixing-passes ds xs c j
      ]

  meets-each : (c : Con) → Contains (cs ++ fixing v.of keep) c → (is_refuted (cs ++ fixing v.of keep) c ≡ false) × PointMeets (cs ++ fixing v.of keep) q c
  meets-each c i = by (Contains-append_cases cs (fixing v.of keep) c i)
    where
      by : Contains cs c ⊎ Contains (fixing v.of keep) c → (is_refuted (cs ++ fixing v.of keep) c ≡ false) × PointMeets (cs ++ fixing v.of keep) q c
      by (inl j) = (unrefuted c j, point-meets c j)
      by (inr j) = fixing-passes (cs ++ fixing v.of keep) keep c j

  fixing-held : (r : Sub) (xs : List ℕ) (y : ℕ) → list_all (holds r) (fixing v.of xs) ≡ true → list_any (nat_eq y) xs ≡ true → r y ≡ v.of y
  fixing-held r [] y h e = absurd (true≢false (sym e))
  fixing-held r (z ∷ xs) y h e = by (λ m k. fixing-held r xs y m k) (or_cases (nat_eq y z) (list_any (nat_eq y) xs) e)
    where
      held : (holds r (con.Eq (Var z) (term_with (v.of z))) ≡ true) × (list_all (holds r) (fixing v.of xs) ≡ true)
      held = and_parts (holds r (con.Eq (Var z) (term_with (v.of z)))) (list_all (holds r) (fixing v.of xs)) h

      by : (list_all (holds r) (fixing v.of xs) ≡ true → list_any (nat_eq y) xs ≡ true → r y ≡ v.of y) → (nat_eq y z ≡ true) ⊎ (list_any (nat_eq y) xs ≡ true) → r y ≡ v.of y
      by later (inl k) = subst (λ n. r n ≡ v.of n) (sym (eqb-true y z k)) ((tm_decided (r z) (under r (tm_of (term_with (v.of z))))).0 held.0 ∙ fixed-value v r z)
      by later (inr k) = later held.1 k

  pub extended : Sorted cs → Extends keep v cs
  extended sorted =
      let none : fails_by_terms (cs ++ fixing v.of keep) ≡ false = ap (λ b. not b || list_any (is_refuted (cs ++ fixing v.of keep)) (cs ++ fixing v.of keep)) unified.0 ∙ list_any-none_from (is_refuted (cs ++ fixing v.of keep)) (cs ++ fixing v.of keep) (λ c i. (meets-each c i).0) in
      let found = sorted-met (cs ++ fixing v.of keep) q (sorted-fixed v.of keep cs sorted) none (Each-from (PointMeets (cs ++ fixing v.of keep) q) (cs ++ fixing v.of keep) (λ c i. (meets-each c i).1)) in
      let both = and_parts (list_all (holds found.by.of) cs) (list_all (holds found.by.of) (fixing v.of keep)) (sym (list_all-append (holds found.by.of) cs (fixing v.of keep)) ∙ found.meets) in
      (found.by, (λ y d. fixing-held found.by.of keep y both.1 (not-false-is (list_any (nat_eq y) keep) d)), both.0)

pub back : (cs : List Con) (keep : List ℕ) (lists : List (List Con)) → RowsNormal cs → Each IsNoEquation cs → Sorted cs → projection cs keep ≡ Some (projected.Alternatives lists) → (v : Valuation) → MeetsOne v.of lists → Extends keep v cs
back cs keep lists n plain sorted e v m =
    let s = reading_of cs keep in
    let k = source-of s cs (is_met_by v.of) lists (sources cs keep lists n e) m in
    let left = Each-map (λ (r : Linear). holds v.of (con.Row r) ≡ true) (Holds (point v.of)) (λ r h. (bridge v.of r).0 h) k.1.rows (left-holds s cs k.0 k.1 v.of k.2) in
    let q = k.1.left.extends (point v.of) left in
    extended cs keep v plain (projects cs keep lists e).few k.0 k.1 k.2 q.0 q.1 q.2 sorted

pub means : (cs : List Con) (keep : List ℕ) (lists : List (List Con)) → RowsNormal cs → Each IsNoEquation cs → Sorted cs → projection cs keep ≡ Some (projected.Alternatives lists) → (v : Valuation) → Extends keep v cs ↔ MeetsOne v.of lists
means cs keep lists n plain sorted e v = (met cs keep lists n plain e v, back cs keep lists n plain sorted e v)

-- what the alternatives of an answer mean
pub answer-means : (cs : List Con) (keep : List ℕ) (answer : Projected) → RowsNormal cs → Some answer ≡ projection cs keep → IfAlternatives answer (λ lists. Each IsNoEquation cs → Sorted cs → (v : Valuation) → Extends keep v cs ↔ MeetsOne v.of lists)
answer-means cs keep (projected.Alternatives lists) n e = λ plain sorted v. means cs keep lists n plain sorted (sym e) v
answer-means cs keep projected.TooMany n e = tt
