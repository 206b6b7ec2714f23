use Rattle.std.proofs.Common.{rules, ◌≡◌, false, []}
use Rattle.scasp_hint.specs.Satisfying.{sat}
use Rattle.scasp_search_rules.specs.Successors.Assumptions.{assume_all}
use Rattle.scasp_search_rules.specs.Successors.Calls.{unrepeated}
use Rattle.scasp_search_steps.proofs.CallLemmas.{new_none}
use Rattle.scasp_search_steps.proofs.ForkLemmas.{leaves_forked}
use Rattle.scasp_search_steps.proofs.calls.new_call.Goals as goal

pub returns-in-Ok-false : goal.returns-in-Ok-false
returns-in-Ok-false g c =
    let p = c.args.program.now in
    let s = g.M.Situation.now c.args.at.now in
    let l = c.args.lit.now in
    let cs = c.in_ok-apart.apart in
    let none : (assume_all sat cs s).states ≡ [] = search rules in
    let points : g.M.Situation.points c.assume_all.new.at ≡ g.M.Situation.points c.args.at.now = search rules in
    leaves_forked g.M.Foresees.foresees p (unrepeated p sat s l []) (g.M.Situation.now c.assume_all.new.at) (g.M.Situation.points c.assume_all.new.at) (g.M.Situation.points c.args.at.now) false
    (new_none p s l cs c.in_ok-apart.ensures none) points
