-- The run of all queries of a program.
use Rattle.std.specs.Prelude.{◌≡◌, ⊤, ℕ, suc, Bool, true, false, ◌||◌, if◌then◌else◌, List, [], ◌∷◌, Option, None, Some}
use Rattle.scasp_command_run.specs.Jobs.{Job}
use Rattle.scasp_command_run.specs.Queries.{Printed, RunsQuery, Shown}
use Rattle.scasp_command_run.specs.Texts.{run_text}
use Rattle.scasp_command_run.specs.declared.ends.QueryEnd.{QueryEnd}
use Rattle.scasp_command_run.specs.declared.ends.QueryEnd.TheVariants.{Ended, Stopped, Spent, Overflow}
use Rattle.scasp_command_run.specs.declared.ends.RunEnd.{RunEnd}
use Rattle.scasp_command_run.specs.declared.ends.RunEnd.TheVariants as run
use Rattle.scasp_syntax.specs.declared.clause.Query.{Query}

-- where a query ended or was stopped the next one follows, if there is one; nothing follows where the run is cut off, the budget is spent, or
-- there was an overflow
abbrev pub Follows : Option QueryEnd → List Shown → Type 0 → Type 0
Follows None more next = more ≡ []
Follows (Some Ended) more next = next
Follows (Some Stopped) more next = next
Follows (Some Spent) more next = more ≡ []
Follows (Some Overflow) more next = more ≡ []

-- this is printed for the queries, in order, of which the first has this number; the run may be cut off before each of them
abbrev pub RunsFrom : Job → ℕ → List Query → List Shown → Type 0
RunsFrom job number qs [] = ⊤
RunsFrom job number [] (one ∷ more) = ⊥
RunsFrom job number (q ∷ qs) (one ∷ more) = RunsQuery job number q one × Follows one.end more (RunsFrom job (suc number) qs more)

abbrev pub has_any : List Printed → Bool
has_any [] = false
has_any (one ∷ more) = true

-- the end of a run with this end of a query, where what follows ends so
abbrev pub end_with : Option QueryEnd → Option RunEnd → Option RunEnd
end_with None later = None
end_with (Some Ended) later = later
end_with (Some Stopped) later = later
end_with (Some Spent) later = Some run.Spent
end_with (Some Overflow) later = Some run.Overflow

-- how the run of these queries ends, if it is not cut off, where an answer was printed before or was not
abbrev pub end_from : Bool → List Query → List Shown → Option RunEnd
end_from answered [] all = Some (if answered then run.Done else run.NoAnswer)
end_from answered (q ∷ qs) [] = None
end_from answered (q ∷ qs) (one ∷ more) = end_with one.end (end_from (answered || has_any one.answers) qs more)

-- This is the text of a run, and so the run ends. Without an end the run is cut off.
pub record IsRun (job : Job) (text : List ℕ) (end : Option RunEnd) : Type 0 where
  pub all : List Shown
  pub runs : RunsFrom job 1 job.program.queries all
  pub text_is : text ≡ run_text job.format job.program all
  pub end_is : end ≡ end_from false job.program.queries all
