use Rattle.scasp_search_steps.proofs.CaseLemmas.{begun_inside}
use Rattle.scasp_search_steps.proofs.cases.begin_cases.Goals as goal

pub returns : goal.returns
returns g c =
    begun_inside c.args.program.now (g.M.Situation.now c.args.at.now) (g.M.Situation.now c.open_cover.new.self) (g.M.Situation.now c.cases_inside.new.at)
    c.args.begun (g.M.Situation.points c.cases_inside.new.at) (g.M.Situation.points c.open_cover.new.self) (g.M.Situation.points c.args.at.now)
    c.cases_inside.result c.in_ok-open_cover.ensures.now c.in_ok-open_cover.ensures.points c.cases_inside.ensures
