-- What a search has still to give, and what it gives in slices of calls.
use Rattle.std.specs.Prelude.{ℕ, List, Option}
use Rattle.scasp_cert.specs.Certificate.{certificate_of}
use Rattle.scasp_cert.specs.declared.certificate.Cert.{Cert}
use Rattle.scasp_search.specs.declared.search.Search.{Search}
use Rattle.scasp_search_constraints.specs.declared.assuming.step.SearchErr.{SearchErr}
use Rattle.scasp_search_state.specs.Choices.{states}
use Rattle.scasp_search_trail.specs.States.{now_of, points_of}
use Rattle.scasp_search_walk.specs.Slices.{Comes, Gives, Keeps}
use Rattle.scasp_search_walk.specs.declared.events.Advance.{Advance}
use Rattle.scasp_written.specs.Written.Rests.{Rest, machine, problem_in}

abbrev pub rest_of : Search → Rest
rest_of s = record {
  problem = problem_in s.walk.front.goal;
  queried = s.walk.front.goal.queried;
  budget = s.walk.budget;
  calls = s.walk.calls;
  states = states s.walk.front.goal.program s.walk.front.is_ahead (now_of s.walk.front.at) (points_of s.walk.front.at);
}

-- why the search has stopped, if it has
abbrev pub stopped : Search → Option SearchErr
stopped s = s.walk.stopped

-- From the rest of a run this comes within a slice of n calls, and then this is the rest. An answer, the end and the end of the budget are the
-- first event of the rest, and come within the slice. A pause leaves what is to come as it was, after exactly n calls, and comes exactly where the
-- first event needs more. An overflow comes where the first event is one, or tells of a list that overflows.
pub record Advances (old : Rest) (n : ℕ) (e : Advance Cert) (new : Rest) : Type 0 where
  pub gives : Gives certificate_of (machine old.problem old.queried) old.budget old.states old.calls e new.states new.calls
  pub keeps : Keeps (machine old.problem old.queried) old.budget old.states old.calls n e new.calls

-- The answers of these slices, in order. Those that are no pauses are the events of the run, each in the first slice that has the calls that
-- it needs.
abbrev pub AdvancesAll : Rest → List ℕ → List (Advance Cert) → Rest → Type 0
AdvancesAll old slices answers new =
    Comes certificate_of (machine old.problem old.queried) old.budget old.states old.calls 0 slices answers new.states new.calls
