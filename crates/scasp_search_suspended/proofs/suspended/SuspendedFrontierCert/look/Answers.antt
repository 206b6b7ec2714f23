use Rattle.std.proofs.Common.{subst}
use Rattle.scasp_cert.specs.Certificate.{certificate_of}
use Rattle.scasp_search_state.specs.Choices.{states}
use Rattle.scasp_search_suspended.proofs.suspended.SuspendedFrontierCert.look.Goals as goal
use Rattle.scasp_search_walk.specs.Slices.{Sees}
use Rattle.scasp_written.proofs.WrittenLemmas.WalkLemmas.{of}

pub returns-in-Ok-true-clause-sees : goal.returns-in-Ok-true-clause-sees
returns-in-Ok-true-clause-sees g c =
    let about = c.args.self.now.goal in
    let now = g.M.Situation.now c.settle.new.at in
    let points = g.M.Situation.points c.settle.new.at in
    subst (λ old. Sees certificate_of (of about) old (states about.program c.look_at.new.is_ahead now points) c.look_at.result)
    (rw c.in-Ok-true.field-0-test at c.in-Ok-true.ensures.same) (c.look_at.ensures points)
