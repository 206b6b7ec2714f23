use Rattle.std.proofs.Common.{rules, ◌≡◌, false, Some}
use Rattle.scasp_search_rules.specs.Successors.Calls.{ancestors, looped, nearest}
use Rattle.scasp_search_state.specs.Going.{Leaves}
use Rattle.scasp_search_steps.proofs.CallLemmas.{loop_forked}
use Rattle.scasp_search_steps.proofs.calls.call.Goals as goal

pub returns-else-branch : goal.returns-else-branch
returns-else-branch g c =
    let p = c.args.program.now in
    let s = g.M.Situation.now c.args.at.now in
    let l = c.args.lit.now in
    let now = g.M.Situation.now c.looped.new.at in
    let found : Some c.in-Some.repeated ≡ nearest s l false (ancestors s) = search rules in
    let none : Leaves false (looped s l c.in-Some.repeated) now = search rules in
    let points : g.M.Situation.points c.looped.new.at ≡ g.M.Situation.points c.args.at.now = search rules in
    loop_forked g.M.Foresees.foresees p s l c.in-Some.repeated now (g.M.Situation.points c.looped.new.at) (g.M.Situation.points c.args.at.now) false found none points
