use Rattle.std.proofs.Common.{subst}
use Rattle.scasp_hint.specs.Satisfying.{sat}
use Rattle.scasp_search_constraints.specs.Assuming.Taken.{Gives}
use Rattle.scasp_search_rules.specs.Successors.Assumptions.{asked_for, status}
use Rattle.scasp_search_trail.specs.States.{state_of}
use Rattle.scasp_search_trail.specs.declared.parts.Parts.{Parts}
use Rattle.scasp_search_trail.proofs.questions.judged.Goals as goal

pub returns-clause-status : goal.returns-clause-status
returns-clause-status c =
    subst (λ (p : Parts). Gives c.judged_along.result (status sat (state_of p) c.args.constraint.now) (asked_for sat (state_of p) c.args.constraint.now)) c.passes_against.ensures.same c.judged_along.ensures.status
