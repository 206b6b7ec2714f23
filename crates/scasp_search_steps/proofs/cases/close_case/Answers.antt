use Rattle.std.proofs.Common.{sym, ◌∙◌}
use Rattle.scasp_search_steps.proofs.CaseLemmas.{closed_inside}
use Rattle.scasp_search_steps.proofs.cases.close_case.Goals as goal

pub returns-then-waits : goal.returns-then-waits
returns-then-waits g c =
    closed_inside c.args.program.now (g.M.Situation.now c.args.at.now) (g.M.Situation.now c.close_case.new.self) (g.M.Situation.now c.cases_inside.new.at)
    (g.M.Situation.points c.cases_inside.new.at) (g.M.Situation.points c.close_case.new.self) (g.M.Situation.points c.args.at.now)
    c.cases_inside.result (sym c.waits-waits.ensures ∙ c.if-waits.true) c.in_ok-close_case.ensures.now c.in_ok-close_case.ensures.points
    c.cases_inside.ensures
