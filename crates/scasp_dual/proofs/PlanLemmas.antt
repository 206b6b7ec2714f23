-- Plans have the rules of their predicates.
use Rattle.std.proofs.Common.{◌≡◌, ◌∙◌, ◌∷◌, ℕ, ◌+◌, Bool, true, false, List, [], map, refl, ap, sym}
use Rattle.std.proofs.lemmas.Bool.{cond-true, cond-false}
use Rattle.scasp_syntax.specs.Programs.{is_rule_of, rules_from, rules_of, predicates}
use Rattle.scasp_syntax.specs.declared.atom.Pred.{Pred}
use Rattle.scasp_syntax.specs.declared.clause.Clause.{Clause}
use Rattle.scasp_syntax.specs.declared.program.Program.{Program}
use Rattle.scasp_dual.specs.Plans.{rule_plans_from, rule_plan, plan_of, plans, pred_in, rule_in}

rules-same : (n : ℕ) (cs : List Clause) (p : Pred) → map rule_in (rule_plans_from n cs p) ≡ rules_from n cs p
rules-same n [] p = refl
rules-same n (c ∷ cs) p = by (is_rule_of p c) refl (rules-same (n + 1) cs p)
  where
    by : (b : Bool) → is_rule_of p c ≡ b → map rule_in (rule_plans_from (n + 1) cs p) ≡ rules_from (n + 1) cs p → map rule_in (rule_plans_from n (c ∷ cs) p) ≡ rules_from n (c ∷ cs) p
    by true e h =
        ap (map rule_in) (cond-true (is_rule_of p c) (rule_plan n c ∷ rule_plans_from (n + 1) cs p) (rule_plans_from (n + 1) cs p) e)
        ∙ ap (λ z. n ∷ z) h ∙ sym (cond-true (is_rule_of p c) (n ∷ rules_from (n + 1) cs p) (rules_from (n + 1) cs p) e)
    by false e h =
        ap (map rule_in) (cond-false (is_rule_of p c) (rule_plan n c ∷ rule_plans_from (n + 1) cs p) (rule_plans_from (n + 1) cs p) e)
        ∙ h ∙ sym (cond-false (is_rule_of p c) (n ∷ rules_from (n + 1) cs p) (rules_from (n + 1) cs p) e)

pub plan_of-rules : (program : Program) (p : Pred) → map rule_in (plan_of program p).rules ≡ rules_of program p
plan_of-rules program p = rules-same 1 program.clauses p

preds-same : (program : Program) (ps : List Pred) → map pred_in (map (plan_of program) ps) ≡ ps
preds-same program [] = refl
preds-same program (p ∷ ps) = ap (λ z. p ∷ z) (preds-same program ps)

pub plans-predicates : (program : Program) → map pred_in (plans program) ≡ predicates program
plans-predicates program = preds-same program (predicates program)
