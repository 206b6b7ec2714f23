-- A row each of whose variables was assumed to be a number in a part of the list leaves the list sorted.
use Rattle.std.proofs.Common.{◌≡◌, ◌⊎◌, inl, inr, Bool, true, false, List, [], ◌∷◌, ◌++◌, refl, sym, ◌∙◌}
use Rattle.std.specs.List.{list_any, list_all, Contains}
use Rattle.std.proofs.lemmas.Bool.{true≢false, and_from}
use Rattle.scasp_num.specs.declared.linear.Coeff.{Coeff}
use Rattle.scasp_num.specs.Linear.{Linear, negation}
use Rattle.scasp_list.specs.Each.{Each}
use Rattle.scasp_syntax.specs.Constraints.{Sat, Entails}
use Rattle.scasp_unify.specs.Resolver.{unifies}
use Rattle.scasp_unify.specs.Numbers.{counts}
use Rattle.scasp_unify.specs.Sorted.{Sorted}
use Rattle.scasp_unify.specs.TermFailures.{is_refuted}
use Rattle.scasp_syntax.specs.declared.con.Con.{Con}
use Rattle.scasp_syntax.specs.declared.con.Con.TheVariants as con
use Rattle.scasp_syntax.specs.declared.term.Term.TheVariants.{Var}
use Rattle.scasp_unify.proofs.Members.{not-false}
use Rattle.scasp_unify.proofs.FailureLemmas.{counting}
use Rattle.scasp_unify.proofs.ValuationLemmas.{meets-point}
use Rattle.scasp_unify.proofs.SortedLemmas.{one-more, without-valuation, entailed-counts, sat-some, negation-added}
use Rattle.scasp_hint.specs.Satisfying.{sat}
use Rattle.scasp_hint.proofs.SatisfyingLemmas.{sat-sorted}

-- the part says of each variable of the terms that it is a number
abbrev Assumed : List Con → List Coeff → Type 0
Assumed some ks = Each (λ (k : Coeff). (counts some k.x ≡ true) ⊎ Entails some (con.Num (Var k.x))) ks

abbrev BothSorted : List Con → Linear → Type 0
BothSorted cs r = Sorted (cs ++ con.Row r ∷ []) × Sorted (cs ++ con.Row (negation r) ∷ [])

all-counted : (some cs : List Con) (ks : List Coeff) → Each (Contains cs) some → unifies cs ≡ true → Sorted some → Sat some → Assumed some ks → list_all (λ k. counts cs k.x) ks ≡ true
all-counted some cs [] within u s m a = refl
all-counted some cs (k ∷ ks) within u s m a = and_from _ _ (counting some cs k.x within u (by a.0)) (all-counted some cs ks within u s m a.1)
  where
    by : (counts some k.x ≡ true) ⊎ Entails some (con.Num (Var k.x)) → counts some k.x ≡ true
    by (inl e) = e
    by (inr h) = entailed-counts some k.x s m h

unmet-sorted : (cs : List Con) (r : Linear) → Sorted cs → (Sat cs → ⊥) → BothSorted cs r
unmet-sorted cs r s none = (without-valuation cs (con.Row r ∷ []) s none, without-valuation cs (con.Row (negation r) ∷ []) s none)

pub item-sorted : (some cs : List Con) (r : Linear) → Each (Contains cs) some → Sorted some → Sorted cs → Assumed some r.coeffs → BothSorted cs r
item-sorted some cs r within s t a = by (sat some) refl
  where
    met : Sat some → (b : Bool) → unifies cs ≡ b → BothSorted cs r
    met m true u =
        let e = all-counted some cs r.coeffs within u s m a in
        (one-more cs (con.Row r) t e, negation-added cs r t e)
    met m false u = unmet-sorted cs r t (λ k. true≢false (sym (not-false (unifies cs) (list_any (is_refuted cs) cs) (meets-point cs k.by.of k.meets).0).0 ∙ u))

    by : (b : Bool) → sat some ≡ b → BothSorted cs r
    by true e = met ((sat-sorted some s).0 e) (unifies cs) refl
    by false e = unmet-sorted cs r t (λ k. true≢false (sym ((sat-sorted some s).1 (sat-some some cs within k)) ∙ e))
