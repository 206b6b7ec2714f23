use Rattle.scasp_answers_lines.specs.Forms.View.{line_of}
use Rattle.scasp_answers.specs.States.View.{state_of}
use Rattle.scasp_answers.proofs.StatesLemmas.StateLemmas.{next_closed}
use Rattle.scasp_answers.proofs.states.state.State.stand.Goals as goal

pub returns-in-Ok-Stands : goal.returns-in-Ok-Stands
returns-in-Ok-Stands c =
    let closed = rw c.in-Ok-Stands.field-0-is at c.in-Ok-Stands.ensures in
    let e = next_closed (state_of c.args.self.now) c.args.depth (line_of c.args.line) _ _ closed in
    rw e c.stand_below.ensures
