-- Events behind pauses.
use Rattle.std.specs.Prelude.{◌≡◌, ℕ, ◌+◌, None, Some, Option, refl}
use Rattle.std.proofs.Common.{◌∙◌}
use Rattle.scasp_cert.specs.Certificate.{certificate_of}
use Rattle.scasp_cert.specs.declared.certificate.Cert.{Cert}
use Rattle.scasp_search.specs.Rests.{Advances}
use Rattle.scasp_search_constraints.specs.declared.assuming.step.SearchErr.{SearchErr}
use Rattle.scasp_search_constraints.specs.declared.assuming.step.SearchErr.TheVariants as errors
use Rattle.scasp_search_rules.specs.Successors.Machine.{answered, ended, spent}
use Rattle.scasp_search_walk.proofs.LaterLemmas.{allows-later, tells-later}
use Rattle.scasp_search_walk.proofs.ReachedLemmas.{reached-both}
use Rattle.scasp_search_walk.specs.Walks.{Reached}
use Rattle.scasp_search_walk.specs.declared.events.Advance.{Advance}
use Rattle.scasp_search_walk.specs.declared.events.Advance.TheVariants as advance
use Rattle.scasp_written.specs.Written.Rests.{Gives, IsSameRun, Rest, machine}
use Rattle.scasp_written.specs.declared.written.written.Event.{Event}
use Rattle.scasp_written.specs.declared.written.written.Event.TheVariants as event

-- of the same search within the same budget, the second rest is what is left of the first behind a part of the walk
abbrev pub GoesOn : Rest → Rest → Type 0
GoesOn old new = Reached (machine old.problem old.queried) old.budget old.states old.calls new.states new.calls

pub same-run : (old between new : Rest) → IsSameRun old between → IsSameRun between new → IsSameRun old new
same-run old between new s t = record {
  problem = t.problem ∙ s.problem;
  queried = t.queried ∙ s.queried;
  budget = t.budget ∙ s.budget;
}

-- a pause more
pub paused-more : (old between new : Rest) (n : ℕ) (r : Advance Cert) → IsSameRun old between → GoesOn old between → r ≡ advance.Paused → Advances between n r new → GoesOn old new
paused-more old between new n r s h e a =
    let more : Advances between n advance.Paused new = rw e at a in
    let on = rw (s.problem, s.queried, s.budget) at more.gives in
    reached-both (machine old.problem old.queried) old.budget old.calls between.calls new.calls old.states between.states new.states h on

-- the calls of a pause
pub paused-calls : (between new : Rest) (n : ℕ) (r : Advance Cert) → r ≡ advance.Paused → Advances between n r new → new.calls ≡ between.calls + n
paused-calls between new n r e a = let more : Advances between n advance.Paused new = rw e at a in more.keeps.0

-- the event behind pauses
pub gives-later : (old between new : Rest) (e : Event) → IsSameRun old between → GoesOn old between → Gives between e new → Gives old e new
gives-later old between new (event.Answer c) s r g =
    tells-later (machine old.problem old.queried) old.budget old.calls between.calls new.calls old.states between.states new.states (answered (certificate_of c)) r (rw (s.problem, s.queried, s.budget) at g)
gives-later old between new event.Ended s r g =
    tells-later (machine old.problem old.queried) old.budget old.calls between.calls new.calls old.states between.states new.states ended r (rw (s.problem, s.queried, s.budget) at g)
gives-later old between new event.Spent s r g =
    tells-later (machine old.problem old.queried) old.budget old.calls between.calls new.calls old.states between.states new.states spent r (rw (s.problem, s.queried, s.budget) at g)
gives-later old between new event.Overflow s r g =
    allows-later (machine old.problem old.queried) old.budget old.calls between.calls old.states between.states r (rw (s.problem, s.queried, s.budget) at g)

-- a search that pauses has not stopped
pub paused-goes : (o : Option SearchErr) (r : Advance Cert) → r ≡ advance.Paused → (o ≡ Some errors.Overflow → r ≡ advance.Overflow) → (o ≡ Some errors.Memory → r ≡ advance.Memory) → o ≡ None
paused-goes None r e f g = refl
paused-goes (Some errors.Overflow) r e f g = let wrong = f refl in absurd (cc (e, wrong))
paused-goes (Some errors.Memory) r e f g = let wrong = g refl in absurd (cc (e, wrong))
