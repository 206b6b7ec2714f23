-- The rules of predicates, with one clause more, and the rules that covers name.
use Rattle.std.proofs.Common.{◌≡◌, ◌∙◌, ℕ, nat_eq, Bool, true, false, cond, List, [], ◌∷◌, length, Option, Some, None, refl, ap, sym, arith}
use Rattle.std.proofs.lemmas.Bool.{cond-true, cond-false}
use Rattle.std.proofs.lemmas.Bool.Decides.{nat_tests}
use Rattle.scasp_checker_rules.specs.LineFaults.{same_numbers}
use Rattle.scasp_cert.specs.Trees.{Branch, covering}
use Rattle.scasp_graph.proofs.PlaceLemmas.{eq-is}
use Rattle.scasp_graph.proofs.PredLemmas.{pred_is, same_pred-sym}
use Rattle.scasp_lines.proofs.CountLemmas.{numbers-covering}
use Rattle.scasp_lines.specs.Below.{rule_numbers}
use Rattle.scasp_lines_places.specs.Places.Chains.{chained}
use Rattle.scasp_lines_places.specs.declared.places.chain.Chain.{Chain}
use Rattle.scasp_syntax.specs.Same.{same_pred}
use Rattle.scasp_syntax.specs.contracts.atom.PredPartialEq.TheImpl.{eq-value}
use Rattle.scasp_syntax.specs.declared.atom.Pred.{Pred}
use Rattle.scasp_checker.specs.Walk.Rules.{named, numbers_in}

-- the number that is put in front, where it stood behind those of its predicate
pub put-first : (f g : Pred → Option (Chain ℕ)) (key pred : Pred) (n : ℕ) (longer : Chain ℕ) → key ≡ pred
    → ((p : Pred) → g p ≡ cond (eq-value.it key p) (Some longer) (f p))
    → chained longer ≡ n ∷ numbers_in (f pred)
    → (p : Pred) → numbers_in (g p) ≡ cond (same_pred p pred) (n ∷ numbers_in (f p)) (numbers_in (f p))
put-first f g key pred n longer is puts made p = by (same_pred p pred) refl
  where
    alike : eq-value.it key p ≡ same_pred p pred
    alike = eq-is key p ∙ same_pred-sym key p ∙ ap (same_pred p) is

    by : (b : Bool) → same_pred p pred ≡ b → numbers_in (g p) ≡ cond (same_pred p pred) (n ∷ numbers_in (f p)) (numbers_in (f p))
    by true e =
        let same : p ≡ pred = pred_is p pred e in
        ap numbers_in (puts p ∙ cond-true (eq-value.it key p) (Some longer) (f p) (alike ∙ e))
        ∙ made ∙ ap (λ (q : Pred). n ∷ numbers_in (f q)) (sym same)
        ∙ sym (cond-true (same_pred p pred) (n ∷ numbers_in (f p)) (numbers_in (f p)) e)
    by false e =
        ap numbers_in (puts p ∙ cond-false (eq-value.it key p) (Some longer) (f p) (alike ∙ e))
        ∙ sym (cond-false (same_pred p pred) (n ∷ numbers_in (f p)) (numbers_in (f p)) e)

-- the covers are for the rules that were found, and there are none of either
pub names-some : (cs : List (ℕ × Branch)) (c : Chain ℕ) (o : Option (Chain ℕ)) → Some c ≡ o
    → same_numbers (named cs) (chained c) ≡ same_numbers (rule_numbers (covering cs)) (numbers_in o)
names-some cs c o e =
    ap (λ ks. same_numbers ks (chained c)) (sym (numbers-covering cs)) ∙ ap (λ (p : Option (Chain ℕ)). same_numbers (rule_numbers (covering cs)) (numbers_in p)) e

pub names-none : (cs : List (ℕ × Branch)) (n : ℕ) (o : Option (Chain ℕ)) → None ≡ o → n ≡ length cs
    → nat_eq n 0 ≡ same_numbers (rule_numbers (covering cs)) (numbers_in o)
names-none [] n o e is = ap (λ m. nat_eq m 0) is ∙ ap (λ (p : Option (Chain ℕ)). same_numbers [] (numbers_in p)) e
names-none (c ∷ cs) n o e is =
    let no : nat_eq n 0 ≡ false = grind (arith, nat_tests) in
    no ∙ ap (λ (p : Option (Chain ℕ)). same_numbers (c.0 ∷ rule_numbers (covering cs)) (numbers_in p)) e
