use Rattle.scasp_search_steps.proofs.CaseLemmas.{checked_inside}
use Rattle.scasp_search_steps.proofs.cases.check_clause.Goals as goal

pub returns : goal.returns
returns g c =
    checked_inside c.args.program.now (g.M.Situation.now c.args.at.now) (g.M.Situation.now c.begin_check.new.at) (g.M.Situation.now c.begin_cases.new.at)
    c.args.clause c.next_variable-first.result c.args.checks_head (g.M.Situation.points c.begin_cases.new.at) (g.M.Situation.points c.begin_check.new.at)
    (g.M.Situation.points c.args.at.now) c.begin_cases.result c.next_variable-first.ensures c.in_ok-begin_check.ensures.now
    c.in_ok-begin_check.ensures.points c.begin_cases.ensures
