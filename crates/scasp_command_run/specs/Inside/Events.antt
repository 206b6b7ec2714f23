-- What a search comes to.
use Rattle.std.specs.Prelude.{◌≡◌, ◌≢◌, ⊤, ℕ, Option, None, Some, []}
use Rattle.scasp_search_constraints.specs.declared.assuming.step.SearchErr.{SearchErr}
use Rattle.scasp_cert.specs.Certificate.{Certificate, certificate_of}
use Rattle.scasp_sample.specs.Sampling.{sample}
use Rattle.scasp_fill.specs.Finishing.Right.{Completes, HasNoAccepted}
use Rattle.scasp_graph.specs.Map.{MapHolds}
use Rattle.scasp_hint.specs.Finding.{overflows_in}
use Rattle.scasp_hint.specs.Satisfying.{sat}
use Rattle.scasp_law_outcomes.specs.Giving.{GivesAnswer}
use Rattle.scasp_command_run.specs.Queries.{Meets, MayOverflow}
use Rattle.scasp_command_run.specs.declared.ends.QueryEnd.{QueryEnd}
use Rattle.scasp_command_run.specs.declared.ends.QueryEnd.TheVariants.{Ended, Stopped, Spent, Overflow}
use Rattle.scasp_command_run.specs.declared.events.Next.{Next}
use Rattle.scasp_command_run.specs.declared.events.Next.TheVariants.{Answer, Passed, End}
use Rattle.scasp_written.specs.Written.Rests.{Rest, machine}
use Rattle.scasp_sound.specs.MapLevels.{covered}
use Rattle.scasp_search_rules.specs.Successors.Machine.{answered, ended, spent}
use Rattle.scasp_syntax.specs.declared.program.Program.{Program}

-- the search is about the program, with the tests of the whole language, and the program keeps the map of each answer that it meets
pub record IsAbout (p : Program) (rest : Rest) : Type 0 where
  pub fresh : ℕ
  pub program : rest.problem.program ≡ p
  pub sat_is : rest.problem.sat ≡ sat
  pub sample_is : rest.problem.sample ≡ sample fresh
  pub overflows : rest.problem.overflows ≡ overflows_in
  pub maps : (c : Certificate) → GivesAnswer (machine rest.problem rest.queried) rest.budget c rest.states rest.calls → MapHolds p (covered c) c.map

-- the search goes on
pub record IsGoing (p : Program) (rest : Rest) (stop : Option SearchErr) : Type 0 where
  pub about : IsAbout p rest
  pub goes : stop ≡ None

-- the next tree of the search is completed so
pub record MeetsRight (p : Program) (old : Rest) (c : Certificate) (new : Rest) : Type 0 where
  pub tree : Certificate
  pub meets : Meets old (answered tree) new
  pub completes : Completes p tree c

-- no hints and clash lines make the next tree of the search accepted
pub record MeetsNoAccepted (p : Program) (old new : Rest) : Type 0 where
  pub tree : Certificate
  pub meets : Meets old (answered tree) new
  pub none : HasNoAccepted p tree

-- how the run of a query ends at the next event
abbrev pub EndsSo : Rest → Rest → QueryEnd → Type 0
EndsSo old new Ended = Meets old ended new
EndsSo old new Stopped = ⊥
EndsSo old new Spent = Meets old spent new
EndsSo old new Overflow = MayOverflow old

-- from the old rest of the search the new one is come to so
abbrev pub Comes : Program → Rest → Rest → Next → Type 0
Comes p old new (Answer cert) = MeetsRight p old (certificate_of cert) new
Comes p old new Passed = MeetsNoAccepted p old new
Comes p old new (End end) = EndsSo old new end

-- where the run goes on the search does
abbrev pub GoesOn : Program → Rest → Option SearchErr → Next → Type 0
GoesOn p rest stop (Answer cert) = IsGoing p rest stop
GoesOn p rest stop Passed = IsGoing p rest stop
GoesOn p rest stop (End end) = ⊤
