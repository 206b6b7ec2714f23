use Rattle.std.specs.Prelude.{refl}
use Rattle.scasp_search_state.specs.Choices.{waiting}
use Rattle.scasp_search_steps.proofs.SkipLemmas.{same_skipped}
use Rattle.scasp_search_steps.proofs.choices.resume_ahead.Goals as goal

pub loop-choice-init : goal.loop-choice-init
loop-choice-init g c =
    let all = waiting c.args.program.now (g.M.Situation.points c.args.at.now) in
    same_skipped g.M.Foresees.foresees c.args.program.now all all refl
