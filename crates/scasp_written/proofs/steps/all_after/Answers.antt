use Rattle.scasp_hint.specs.Satisfying.{sat}
use Rattle.scasp_search_rules.specs.Successors.Search.{step}
use Rattle.scasp_written.proofs.StepsLemmas.{all_stepped, all_there, none_waits, not_stepped}
use Rattle.scasp_written.proofs.steps.all_after.Goals as goal

pub all_states-requires : goal.all_states-requires
all_states-requires g c =
    let p = c.args.program.now in
    let now = g.M.Situation.now c.step.new.at in
    let new = g.M.Situation.points c.step.new.at in
    let old = g.M.Situation.points c.args.at.now in
    let ss = (step p sat (g.M.Situation.now c.args.at.now)).states in
    none_waits p ss now new old c.in-Ok.went c.requires.none (all_there g.M.Foresees.foresees p ss now new old c.in-Ok.went c.requires.open c.requires.none c.in-Ok.ensures)

pub returns-in_ok-all_states-in-Ok : goal.returns-in_ok-all_states-in-Ok
returns-in_ok-all_states-in-Ok g c =
    let p = c.args.program.now in
    let s = g.M.Situation.now c.args.at.now in
    let now = g.M.Situation.now c.step.new.at in
    let new = g.M.Situation.points c.step.new.at in
    let old = g.M.Situation.points c.args.at.now in
    all_stepped p s now new old c.in-Ok.went c.in_ok-all_states-in-Ok.field-0 c.requires.none
    (all_there g.M.Foresees.foresees p (step p sat s).states now new old c.in-Ok.went c.requires.open c.requires.none c.in-Ok.ensures) c.in_ok-all_states-in-Ok.ensures

pub returns-in-Err : goal.returns-in-Err
returns-in-Err g c =
    not_stepped g.M.Foresees.foresees c.args.program.now (g.M.Situation.now c.args.at.now) (g.M.Situation.now c.step.new.at) (g.M.Situation.points c.step.new.at)
    (g.M.Situation.points c.args.at.now) c.in-Err.error c.in-Err.ensures
