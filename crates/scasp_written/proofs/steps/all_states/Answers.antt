use Rattle.scasp_search_state.specs.Choices.{states}
use Rattle.scasp_written.proofs.StepsLemmas.{first_copied, none_left, one_fewer}
use Rattle.scasp_written.proofs.steps.all_states.Goals as goal

pub loop-is_left-preserved : goal.loop-is_left-preserved
loop-is_left-preserved g c =
    let p = c.args.program.now in
    let old = c.loop-is_left in
    let left = states p c.in_ok-is_left.is_left (g.M.Situation.now c.resume.new.at) (g.M.Situation.points c.resume.new.at) in
    record {
      states = first_copied p old.all c.push.new.self left _ (g.M.Situation.now old.at) c.in_ok-state.field-0 (g.M.Situation.points old.at) old.is_left c.loop-is_left-test.true
          old.invariant.states c.in_ok-state.ensures c.in_ok-push.ensures.ok c.in_ok-is_left.ensures.same;
      ended = c.in_ok-is_left.ensures.ended;
    }

pub loop-is_left-smaller : goal.loop-is_left-smaller
loop-is_left-smaller g c =
    let p = c.args.program.now in
    let old = c.loop-is_left in
    let left = states p c.in_ok-is_left.is_left (g.M.Situation.now c.resume.new.at) (g.M.Situation.points c.resume.new.at) in
    one_fewer p left (g.M.Situation.now old.at) (g.M.Situation.points old.at) old.is_left c.loop-is_left-test.true c.in_ok-is_left.ensures.same

pub returns : goal.returns
returns g c =
    let old = c.loop-is_left in
    none_left c.args.program.now old.all _ (g.M.Situation.now old.at) (g.M.Situation.points old.at) old.is_left c.loop-is_left-test.false
    (old.invariant.ended c.loop-is_left-test.false) old.invariant.states
