-- The rules of each predicate with their flat bodies.
use Rattle.std.specs.Prelude.{ℕ, ◌+◌, List, [], ◌∷◌, map, if◌then◌else◌}
use Rattle.scasp_syntax.specs.Flat.{flat_body}
use Rattle.scasp_syntax.specs.Programs.{is_rule_of, predicates}
use Rattle.scasp_syntax.specs.declared.atom.Pred.{Pred}
use Rattle.scasp_syntax.specs.declared.clause.Clause.{Clause}
use Rattle.scasp_syntax.specs.declared.program.Program.{Program}
use Rattle.scasp_dual.specs.declared.plans.Plan.{Plan}
use Rattle.scasp_dual.specs.declared.plans.RulePlan.{RulePlan}

-- the rule of this number with its flat body
abbrev pub rule_plan : ℕ → Clause → RulePlan
rule_plan n c = record { rule = n; body = flat_body c.body }

-- the rules of the predicate, where the clauses are numbered from n
abbrev pub rule_plans_from : ℕ → List Clause → Pred → List RulePlan
rule_plans_from n [] p = []
rule_plans_from n (c ∷ cs) p =
    if is_rule_of p c then rule_plan n c ∷ rule_plans_from (n + 1) cs p else rule_plans_from (n + 1) cs p

abbrev pub plan_of : Program → Pred → Plan
plan_of program p = record { pred = p; rules = rule_plans_from 1 program.clauses p }

-- one for each predicate of the program, in order of first occurrence
abbrev pub plans : Program → List Plan
plans program = map (plan_of program) (predicates program)

abbrev pub pred_in : Plan → Pred
pred_in p = p.pred

abbrev pub rule_in : RulePlan → ℕ
rule_in r = r.rule
