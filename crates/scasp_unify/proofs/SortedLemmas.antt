-- Lists that stay sorted.
use Rattle.std.proofs.Common.{◌≡◌, ◌⊎◌, inl, inr, ℕ, Bool, true, false, ◌||◌, List, [], ◌∷◌, ◌++◌, refl, sym, ap, subst, ◌∙◌}
use Rattle.std.specs.List.{list_all, list_any, Contains}
use Rattle.std.proofs.lemmas.Bool.{and_from, and_parts, true≢false}
use Rattle.scasp_num.specs.declared.linear.Coeff.{Coeff}
use Rattle.scasp_num.specs.Linear.{Linear, negated, negation}
use Rattle.scasp_list.specs.Each.{Each}
use Rattle.scasp_num.specs.Number.{Number}
use Rattle.scasp_syntax.specs.Tm.{Tm, var, num, app}
use Rattle.scasp_syntax.specs.Values.{Sub, under}
use Rattle.scasp_syntax.specs.View.{tm_of}
use Rattle.scasp_syntax.specs.Constraints.{holds, is_number, Sat, Entails}
use Rattle.scasp_unify.specs.Resolver.{unifies, extended, resolver_after, resolver, Equal}
use Rattle.scasp_unify.specs.Unification.{unifier}
use Rattle.scasp_unify.specs.Numbers.{counts, is_num_of, number_var}
use Rattle.scasp_unify.specs.TermFailures.{is_refuted, fails_by_terms}
use Rattle.scasp_unify.specs.Sorted.{Sorted, apart, typed, partly, is_typed, is_typed_con}
use Rattle.scasp_syntax.specs.RowTruth.{point}
use Rattle.scasp_unify.specs.PointMeets.{PointMeets}
use Rattle.scasp_syntax.specs.declared.con.Con.{Con}
use Rattle.scasp_syntax.specs.declared.con.Con.TheVariants as con
use Rattle.scasp_syntax.specs.declared.term.Term.TheVariants.{Var}
use Rattle.scasp_unify.proofs.ResolverLemmas.{complete-list, resolver-equal}
use Rattle.scasp_unify.proofs.FailureLemmas.{counting}
use Rattle.scasp_unify.proofs.ValuationLemmas.{valuation, chosen, chosen-name, list_bound, some-meets, meets-point}
use Rattle.scasp_list.proofs.EachLemmas.{Each-append, Each-map}
use Rattle.scasp_unify.proofs.Members.{or-left, or-right, not-false, Each-member, Each-self}
use Rattle.std.proofs.lemmas.List.Elements.{Contains-append_left, Contains-push, Contains-push_cases}
use Rattle.scasp_list.proofs.MemberLemmas.{Contains-here, Contains-there, list_all-from, list_all-member}

fronts : (cs ds some : List Con) → Each (Contains cs) some → Each (Contains (cs ++ ds)) some
fronts cs ds some h = Each-map (Contains cs) (Contains (cs ++ ds)) (λ c i. Contains-append_left cs ds c i) some h

-- what unifies with more in it unifies
pub superset : (some cs : List Con) → Each (Contains cs) some → unifies cs ≡ true → unifies some ≡ true
superset some cs within e = (complete-list (resolver cs) some (Each-map (Contains cs) (Equal (resolver cs)) (λ c i. Each-member (Equal (resolver cs)) cs c (resolver-equal cs e) i) some within)).0

all-count : (some cs : List Con) (ks : List Coeff) → ((x : ℕ) → counts some x ≡ true → counts cs x ≡ true) → list_all (λ k. counts some k.x) ks ≡ true → list_all (λ k. counts cs k.x) ks ≡ true
all-count some cs [] h e = refl
all-count some cs (k ∷ ks) h e =
    let a = and_parts (counts some k.x) (list_all (λ j. counts some j.x) ks) e in
    and_from (counts cs k.x) (list_all (λ j. counts cs j.x) ks) (h k.x a.0) (all-count some cs ks h a.1)

still-typed : (some cs : List Con) (c : Con) → Each (Contains cs) some → unifies cs ≡ true → is_typed_con some c ≡ true → is_typed_con cs c ≡ true
still-typed some cs (con.Row r) within e f = all-count some cs r.coeffs (λ x. counting some cs x within e) f
still-typed some cs (con.Eq t u) within e f = refl
still-typed some cs (con.Neq t u) within e f = refl
still-typed some cs (con.NotShape x g n) within e f = refl
still-typed some cs (con.Num t) within e f = refl
still-typed some cs (con.NotNum t) within e f = refl

-- a constraint that is typed with the list before it leaves it sorted
pub one-more : (cs : List Con) (c : Con) → Sorted cs → is_typed_con cs c ≡ true → Sorted (cs ++ c ∷ [])
one-more cs c s t = by (unifies (cs ++ c ∷ [])) refl s
  where
    within : Each (Contains (cs ++ c ∷ [])) cs
    within = fronts cs (c ∷ []) cs (Each-self cs)

    all : unifies (cs ++ c ∷ []) ≡ true → is_typed cs ≡ true → is_typed (cs ++ c ∷ []) ≡ true
    all e f = list_all-from (is_typed_con (cs ++ c ∷ [])) (cs ++ c ∷ []) (λ d i. one d (Contains-push_cases cs c d i))
      where
        one : (d : Con) → Contains cs d ⊎ (c ≡ d) → is_typed_con (cs ++ c ∷ []) d ≡ true
        one d (inl i) = still-typed cs (cs ++ c ∷ []) d within e (list_all-member (is_typed_con cs) cs d f i)
        one d (inr same) = still-typed cs (cs ++ c ∷ []) d within e (ap (is_typed_con cs) (sym same) ∙ t)

    by : (b : Bool) → unifies (cs ++ c ∷ []) ≡ b → Sorted cs → Sorted (cs ++ c ∷ [])
    by false e s = apart e
    by true e (apart f) = absurd (true≢false (sym (superset cs (cs ++ c ∷ []) within e) ∙ f))
    by true e (typed f) = typed (all e f)
    by true e (partly some i f none) = partly some (fronts cs (c ∷ []) some i) f none

-- a list without a valuation stays sorted, whatever follows
pub without-valuation : (cs ds : List Con) → Sorted cs → (Sat cs → ⊥) → Sorted (cs ++ ds)
without-valuation cs ds (apart e) none = by (unifies (cs ++ ds)) refl
  where
    by : (b : Bool) → unifies (cs ++ ds) ≡ b → Sorted (cs ++ ds)
    by true f = absurd (true≢false (sym (superset cs (cs ++ ds) (fronts cs ds cs (Each-self cs)) f) ∙ e))
    by false f = apart f
without-valuation cs ds (typed f) none = partly cs (fronts cs ds cs (Each-self cs)) f none
without-valuation cs ds (partly some i f unmet) none = partly some (fronts cs ds some i) f unmet

-- some constraints of a list with a valuation have one
pub sat-some : (some cs : List Con) → Each (Contains cs) some → Sat cs → Sat some
sat-some some cs within s = record { by = s.by; meets = list_all-from (holds s.by.of) some (λ c i. list_all-member (holds s.by.of) cs c s.meets (Each-member (Contains cs) some c within i)) }

-- what a sorted list with a valuation entails to be a number counts as one in it
pub entailed-counts : (cs : List Con) (x : ℕ) → Sorted cs → Sat cs → Entails cs (con.Num (Var x)) → counts cs x ≡ true
entailed-counts cs x (apart e) s h = absurd (true≢false (sym (not-false (unifies cs) (list_any (is_refuted cs) cs) (meets-point cs s.by.of s.meets).0).0 ∙ e))
entailed-counts cs x (partly some i f none) s h = absurd (none (sat-some some cs i s))
entailed-counts cs x (typed f) s h = by (resolver cs x) refl (h (valuation cs p k) (some-meets cs cs p (Each-self cs) f m.0 m.1))
  where
    p : ℕ → Number
    p = point s.by.of

    m : (fails_by_terms cs ≡ false) × Each (PointMeets cs (point s.by.of)) cs
    m = meets-point cs s.by.of s.meets

    k : ℕ
    k = list_bound (resolver cs) cs

    by : (z : Tm) → resolver cs x ≡ z → is_number (under (chosen cs p k) (resolver cs x)) ≡ true → counts cs x ≡ true
    by (var y) same g = numbered (number_var cs y) refl
      where
        numbered : (b : Bool) → number_var cs y ≡ b → counts cs x ≡ true
        numbered true e = or-right (is_number (resolver cs x)) (list_any (is_num_of (resolver cs) (resolver cs x)) cs) (subst (λ (z : Tm). list_any (is_num_of (resolver cs) z) cs ≡ true) (sym same) e)
        numbered false e = absurd (true≢false (sym g ∙ ap (λ z. is_number (under (chosen cs p k) z)) same ∙ ap is_number (chosen-name cs p k y e)))
    by (num q) same g = or-left (is_number (resolver cs x)) (list_any (is_num_of (resolver cs) (resolver cs x)) cs) (ap is_number same)
    by (app f us) same g = absurd (true≢false (sym g ∙ ap (λ z. is_number (under (chosen cs p k) z)) same))

pub resolver-row : (s : Sub) (cs : List Con) (r : Linear) → resolver_after s (cs ++ con.Row r ∷ []) ≡ resolver_after s cs
resolver-row s [] r = refl
resolver-row s (con.Eq t u ∷ cs) r = resolver-row (extended s (unifier (under s (tm_of t)) (under s (tm_of u)))) cs r
resolver-row s (con.Neq t u ∷ cs) r = resolver-row s cs r
resolver-row s (con.NotShape x f n ∷ cs) r = resolver-row s cs r
resolver-row s (con.Num t ∷ cs) r = resolver-row s cs r
resolver-row s (con.NotNum t ∷ cs) r = resolver-row s cs r
resolver-row s (con.Row q ∷ cs) r = resolver-row s cs r

pub numbers-row : (s : Sub) (u : Tm) (cs : List Con) (r : Linear) → list_any (is_num_of s u) (cs ++ con.Row r ∷ []) ≡ list_any (is_num_of s u) cs
numbers-row s u [] r = refl
numbers-row s u (c ∷ cs) r = ap (λ b. is_num_of s u c || b) (numbers-row s u cs r)

abbrev counts_by : Sub → List Con → ℕ → Bool
counts_by s cs x = is_number (s x) || list_any (is_num_of s (s x)) cs

pub counts-row : (cs : List Con) (r : Linear) (x : ℕ) → counts (cs ++ con.Row r ∷ []) x ≡ true → counts cs x ≡ true
counts-row cs r x e =
    let s = resolver cs in
    let moved : counts_by (resolver (cs ++ con.Row r ∷ [])) (cs ++ con.Row r ∷ []) x ≡ counts_by s (cs ++ con.Row r ∷ []) x = ap (λ (s : Sub). counts_by s (cs ++ con.Row r ∷ []) x) (resolver-row _ cs r) in
    let fewer : counts_by s (cs ++ con.Row r ∷ []) x ≡ counts_by s cs x = ap (λ b. is_number (s x) || b) (numbers-row s (s x) cs r) in
    sym fewer ∙ sym moved ∙ e

-- the negation has the same variables
pub negated-counts : (cs : List Con) (n : Bool) (ks : List Coeff) → list_all (λ k. counts cs k.x) ks ≡ true → list_all (λ k. counts cs k.x) (negated n ks) ≡ true
negated-counts cs n [] e = refl
negated-counts cs n (k ∷ ks) e =
    let a = and_parts (counts cs k.x) (list_all (λ j. counts cs j.x) ks) e in
    and_from (counts cs k.x) (list_all (λ j. counts cs j.x) (negated n ks)) a.0 (negated-counts cs n ks a.1)

pub negation-added : (cs : List Con) (r : Linear) → Sorted cs → list_all (λ k. counts cs k.x) r.coeffs ≡ true → Sorted (cs ++ con.Row (negation r) ∷ [])
negation-added cs r s e = one-more cs (con.Row (negation r)) s (negated-counts cs _ r.coeffs e)

pub found-or-not : (d : Con) (cs some : List Con) → Each (Contains (cs ++ d ∷ [])) some → Contains some d ⊎ Each (Contains cs) some
found-or-not d cs [] h = inr tt
found-or-not d cs (c ∷ some) h = by (Contains-push_cases cs d c h.0) (found-or-not d cs some h.1)
  where
    by : Contains cs c ⊎ (d ≡ c) → Contains some d ⊎ Each (Contains cs) some → Contains (c ∷ some) d ⊎ Each (Contains cs) (c ∷ some)
    by (inr e) rest = inl (subst (Contains (c ∷ some)) (sym e) (Contains-here c some))
    by (inl i) (inl j) = inl (Contains-there c some d j)
    by (inl i) (inr j) = inr (i, j)

pub unifies-row : (cs : List Con) (r : Linear) → unifies cs ≡ true → unifies (cs ++ con.Row r ∷ []) ≡ true
unifies-row cs r u = (complete-list (resolver cs) (cs ++ con.Row r ∷ []) (Each-append (Equal (resolver cs)) cs (con.Row r ∷ []) (resolver-equal cs u) (tt, tt))).0

pub negation-sorted : (cs : List Con) (r : Linear) → Sorted cs → Sorted (cs ++ con.Row r ∷ []) → Sorted (cs ++ con.Row (negation r) ∷ [])
negation-sorted cs r s t = by (unifies cs) refl t
  where
    by : (b : Bool) → unifies cs ≡ b → Sorted (cs ++ con.Row r ∷ []) → Sorted (cs ++ con.Row (negation r) ∷ [])
    by false u t = without-valuation cs (con.Row (negation r) ∷ []) s (λ k. true≢false (sym (not-false (unifies cs) (list_any (is_refuted cs) cs) (meets-point cs k.by.of k.meets).0).0 ∙ u))
    by true u (apart e) = absurd (true≢false (sym (unifies-row cs r u) ∙ e))
    by true u (typed e) = negation-added cs r s (all-count (cs ++ con.Row r ∷ []) cs r.coeffs (counts-row cs r) (list_all-member (is_typed_con (cs ++ con.Row r ∷ [])) (cs ++ con.Row r ∷ []) (con.Row r) e (Contains-push cs (con.Row r))))
    by true u (partly some within e none) = part (found-or-not (con.Row r) cs some within)
      where
        part : Contains some (con.Row r) ⊎ Each (Contains cs) some → Sorted (cs ++ con.Row (negation r) ∷ [])
        part (inl i) = negation-added cs r s (all-count some cs r.coeffs (λ x c. counts-row cs r x (counting some (cs ++ con.Row r ∷ []) x within (unifies-row cs r u) c)) (list_all-member (is_typed_con some) some (con.Row r) e i))
        part (inr j) = without-valuation cs (con.Row (negation r) ∷ []) s (λ k. none (sat-some some cs j k))
