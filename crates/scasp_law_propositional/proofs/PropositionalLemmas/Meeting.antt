-- The worked answer meets the premises of the laws.
use Rattle.std.specs.Prelude.{◌≡◌, ◌⊎◌, ℕ, zero, suc, Bool, true, false, not, if◌then◌else◌, [], ◌∷◌, length}
use Rattle.std.proofs.Common.{◌∙◌, refl, ap, sym, subst, inl, inr}
use Rattle.scasp_graph.specs.Analyses.{IsAnalysis}
use Rattle.scasp_graph.specs.RightMap.{level_of, plus_of, Together, IsFirst}
use Rattle.scasp_graph.specs.Walks.{Dependency, Walk, stays, goes, Reaches, Depends}
use Rattle.scasp_graph.proofs.PredLemmas.{pred_is}
use Rattle.scasp_graph.proofs.WalkLemmas.{edge-walk}
use Rattle.scasp_list.proofs.MemberLemmas.{Contains-cases, Contains-here, Contains-single, Contains-there}
use Rattle.scasp_law_propositional.specs.Propositional.Examples.{p, q, x, entry, two_models, analysis, names, met, PremisesAreMet}
use Rattle.scasp_syntax.specs.Programs.{pred_of}
use Rattle.scasp_syntax.specs.Same.{same_bool, same_pred}
use Rattle.scasp_syntax.specs.Tm.{Tms, items}
use Rattle.scasp_syntax.specs.Values.{are_ground}
use Rattle.scasp_syntax.specs.declared.atom.Pred.{Pred}

-- ---- the two edges: p on q and q on p, both negated

abbrev edge : Pred → Pred → Dependency
edge a b = record { from = a; to = b; negated = true }

there : Depends two_models (pred_of p) true (pred_of q)
there = Contains-here (edge (pred_of p) (pred_of q)) (edge (pred_of q) (pred_of p) ∷ [])

back : Depends two_models (pred_of q) true (pred_of p)
back = Contains-there (edge (pred_of p) (pred_of q)) (edge (pred_of q) (pred_of p) ∷ []) (edge (pred_of q) (pred_of p)) (Contains-here (edge (pred_of q) (pred_of p)) [])

record IsEdge (a c : Pred) (negated : Bool) (b d : Pred) : Type 0 where
  from : a ≡ b
  to : c ≡ d
  sign : negated ≡ true

edge-is : (a c : Pred) (b : Bool) → Depends two_models a b c → IsEdge a c b (pred_of p) (pred_of q) ⊎ IsEdge a c b (pred_of q) (pred_of p)
edge-is a c b h = elim (Contains-cases (edge (pred_of p) (pred_of q)) (edge (pred_of q) (pred_of p) ∷ []) (record { from = a; to = c; negated = b }) h) [
  | inl e ↦ inl (record {
    from = ap (λ (z : Dependency). z.from) (sym e);
    to = ap (λ (z : Dependency). z.to) (sym e);
    sign = ap (λ (z : Dependency). z.negated) (sym e);
  })
  | inr k ↦ (
      let e = Contains-single (edge (pred_of q) (pred_of p)) (record { from = a; to = c; negated = b }) k in
      inr (record {
        from = ap (λ (z : Dependency). z.from) (sym e);
        to = ap (λ (z : Dependency). z.to) (sym e);
        sign = ap (λ (z : Dependency). z.negated) (sym e);
      })
      )
]

-- ---- levels and signs

level-zero : (a : Pred) → level_of analysis.map a ≡ 0
level-zero a = by (same_pred a (pred_of p)) (same_pred a (pred_of q)) (same_pred a (pred_of x))
  where
    by : (b c d : Bool)
        → (if b then entry p true else (if c then entry q false else (if d then entry x true else record { pred = a; level = 0; plus = true }))).level ≡ 0
    by true c d = refl
    by false true d = refl
    by false false true = refl
    by false false false = refl

-- p comes first in its component
first-plus : (a : Pred) → IsFirst two_models a → plus_of analysis.map a ≡ true
first-plus a h = by (same_pred a (pred_of p)) (same_pred a (pred_of q)) (same_pred a (pred_of x)) refl
  where
    both : Together two_models (pred_of p) (pred_of q)
    both = ((true, edge-walk (pred_of p) (pred_of q) true there), (true, edge-walk (pred_of q) (pred_of p) true back))

    by : (b c d : Bool) → same_pred a (pred_of q) ≡ c
        → (if b then entry p true else (if c then entry q false else (if d then entry x true else record { pred = a; level = 0; plus = true }))).plus ≡ true
    by true c d e = refl
    by false true d e = absurd (subst (IsFirst two_models) (pred_is a (pred_of q) e) h (pred_of p) refl both)
    by false false true e = refl
    by false false false e = refl

edge-turns : (a c : Pred) (b : Bool) → Depends two_models a b c → plus_of analysis.map c ≡ not (same_bool b (plus_of analysis.map a))
edge-turns a c b h = elim (edge-is a c b h) [
  | inl e ↦ ap (plus_of analysis.map) e.to ∙ sym (λ i. not (same_bool (e.sign i) (plus_of analysis.map (e.from i))))
  | inr e ↦ ap (plus_of analysis.map) e.to ∙ sym (λ i. not (same_bool (e.sign i) (plus_of analysis.map (e.from i))))
]

edge-sign : (a c : Pred) (b : Bool) → Depends two_models a b c → b ≡ true
edge-sign a c b h = elim (edge-is a c b h) [ inl e ↦ e.sign | inr e ↦ e.sign ]

turned : (s t u b c : Bool) → t ≡ not (same_bool b s) → b ≡ true → same_bool t u ≡ not c → same_bool s u ≡ not (not (same_bool b c))
turned s t u false c e f g = absurd (cc f)
turned true true u true c e f g = absurd (cc e)
turned true false true true c e f g = ap not g
turned true false false true c e f g = ap not g
turned false true true true c e f g = ap not g
turned false true false true c e f g = ap not g
turned false false u true c e f g = absurd (cc e)

-- a walk with an odd number of negated edges changes the sign
walk-turns : {a c : Pred} {b : Bool} → Walk (Depends two_models) a c b → same_bool (plus_of analysis.map a) (plus_of analysis.map c) ≡ not b
walk-turns (stays a) = same (plus_of analysis.map a)
  where
    same : (s : Bool) → same_bool s s ≡ true
    same true = refl
    same false = refl
walk-turns (goes a c d b k e w) =
    turned (plus_of analysis.map a) (plus_of analysis.map c) (plus_of analysis.map d) b k (edge-turns a c b e) (edge-sign a c b e) (walk-turns w)

no-odd : (a : Pred) → Walk (Depends two_models) a a true → ⊥
no-odd a w = by (plus_of analysis.map a) (walk-turns w)
  where
    by : (s : Bool) → same_bool s s ≡ false → ⊥
    by true e = cc e
    by false e = cc e

-- each edge has one back
returns : (a c : Pred) (b : Bool) → Depends two_models a b c → Reaches (Depends two_models) c a
returns a c b h = elim (edge-is a c b h) [
  | inl e ↦ (
      let W : Pred → Pred → Type 0 = λ y z. Reaches (Depends two_models) y z in
      subst (λ y. W y a) (sym e.to) (subst (W (pred_of q)) (sym e.from) (true, edge-walk (pred_of q) (pred_of p) true back))
      )
  | inr e ↦ (
      let W : Pred → Pred → Type 0 = λ y z. Reaches (Depends two_models) y z in
      subst (λ y. W y a) (sym e.to) (subst (W (pred_of p)) (sym e.from) (true, edge-walk (pred_of p) (pred_of q) true there))
      )
]

analysed : IsAnalysis two_models analysis
analysed = record {
  odd = record {
    ascending = refl;
    exactly = λ k. (λ e. absurd (cc e), λ o. absurd (no-odd (pred_of o.head) o.odd));
  };
  right = record {
    listed = refl;
    falls = λ a c b e. inl (returns a c b e, level-zero c ∙ sym (level-zero a));
    least = λ a. inl (level-zero a);
    first = first-plus;
    signs = λ a c b e w n. edge-turns a c b e;
    odd = λ a w. absurd (no-odd a w);
  };
}

long-names : (n : ℕ) → length (items (names n)) ≡ n
long-names zero = refl
long-names (suc n) = ap suc (long-names n)

ground-names : (n : ℕ) → are_ground (names n) ≡ true
ground-names zero = refl
ground-names (suc n) = ground-names n

pub premises-met : PremisesAreMet
premises-met = record {
  tests = record {
    sat_is = refl;
    samples = λ cs n ts e. (
        let same : names n ≡ ts = cc e in
        (ap (λ (z : Tms). length (items z)) (sym same) ∙ long-names n, ap are_ground (sym same) ∙ ground-names n)
        );
  };
  analysed = record { analysis = analysed; checks = refl; map = refl };
  propositional = refl;
  named = refl;
  answer = met;
}
