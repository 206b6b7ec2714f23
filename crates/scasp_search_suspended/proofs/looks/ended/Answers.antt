use Rattle.std.specs.Prelude.{◌≡◌, List, [], ◌∷◌}
use Rattle.std.proofs.Common.{subst}
use Rattle.scasp_cert.specs.Certificate.{certificate_of}
use Rattle.scasp_search_rules.specs.declared.states.state.State.{State}
use Rattle.scasp_search_suspended.proofs.looks.ended.Goals as goal
use Rattle.scasp_search_walk.specs.Slices.{Sees}
use Rattle.scasp_written.proofs.WrittenLemmas.WalkLemmas.{of}

pub returns-in-Ok : goal.returns-in-Ok
returns-in-Ok g c =
    subst (λ (s : State). s.work ≡ [] → (rest : List State) → Sees certificate_of (of c.args.goal.now) (s ∷ rest) rest c.finished.result) c.in-Ok.ensures c.finished.ensures
