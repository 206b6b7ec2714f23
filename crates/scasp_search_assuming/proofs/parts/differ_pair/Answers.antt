use Rattle.scasp_hint.specs.Satisfying.{sat}
use Rattle.scasp_search_rules.specs.Successors.Differences.{differ_pair}
use Rattle.scasp_search_assuming.proofs.PartLemmas.{forks_of_terms}
use Rattle.scasp_search_assuming.proofs.parts.differ_pair.Goals as goal

pub returns-in-Var-Var : goal.returns-in-Var-Var
returns-in-Var-Var g c =
    forks_of_terms (λ t u. differ_pair sat (g.M.Situation.now c.args.at.now) t u c.args.rest c.args.aim) _ _ _ _ _ _ _ _ c.in-Var-Var.is-0 c.in-Var-Var.is-1 c.differ_variables.ensures

pub returns-in-Var-Num : goal.returns-in-Var-Num
returns-in-Var-Num g c =
    forks_of_terms (λ t u. differ_pair sat (g.M.Situation.now c.args.at.now) t u c.args.rest c.args.aim) _ _ _ _ _ _ _ _ c.in-Var-Num.is-0 c.in-Var-Num.is-1 c.differ_number.ensures

pub returns-in-Var-App : goal.returns-in-Var-App
returns-in-Var-App g c =
    forks_of_terms (λ t u. differ_pair sat (g.M.Situation.now c.args.at.now) t u c.args.rest c.args.aim) _ _ _ _ _ _ _ _ c.in-Var-App.is-0 c.in-Var-App.is-1 c.differ_shape.ensures

pub returns-in-Num-Var : goal.returns-in-Num-Var
returns-in-Num-Var g c =
    forks_of_terms (λ t u. differ_pair sat (g.M.Situation.now c.args.at.now) t u c.args.rest c.args.aim) _ _ _ _ _ _ _ _ c.in-Num-Var.is-0 c.in-Num-Var.is-1 c.differ_number-in-Num-Var.ensures

pub returns-in-App-Var : goal.returns-in-App-Var
returns-in-App-Var g c =
    forks_of_terms (λ t u. differ_pair sat (g.M.Situation.now c.args.at.now) t u c.args.rest c.args.aim) _ _ _ _ _ _ _ _ c.in-App-Var.is-0 c.in-App-Var.is-1 c.differ_shape-in-App-Var.ensures
