use Rattle.std.specs.Prelude.{◌∷◌}
use Rattle.std.proofs.Common.{◌∙◌, subst, sym}
use Rattle.scasp_cert.specs.Certificate.{certificate_of}
use Rattle.scasp_search_state.specs.Choices.{states, waiting}
use Rattle.scasp_search_suspended.proofs.LookLemmas.{no_work}
use Rattle.scasp_search_suspended.proofs.looks.look_at.Goals as goal
use Rattle.scasp_search_walk.specs.Slices.{Sees}
use Rattle.scasp_written.proofs.WrittenLemmas.WalkLemmas.{of}

pub returns-then-not-is_ahead : goal.returns-then-not-is_ahead
returns-then-not-is_ahead g c = λ points.
    let p = c.args.goal.now.program in
    let now = g.M.Situation.now c.args.at.now in
    subst (λ b. Sees certificate_of (of c.args.goal.now) (now ∷ waiting p points) (states p b now points) c.ended.result) (sym c.if-not-is_ahead.true)
    (c.ended.ensures (no_work now.work (sym c.has_work.ensures ∙ c.if-not-is_ahead.true)) (waiting p points))
