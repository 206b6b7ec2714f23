-- Parts of the run of all queries.
use Rattle.std.specs.Prelude.{◌≡◌, ℕ, Bool, List, ◌++◌, Option, None, Some}
use Rattle.scasp_io.specs.Bytes.{behind}
use Rattle.scasp_command_run.specs.Jobs.{Job}
use Rattle.scasp_command_run.specs.Queries.{Shown}
use Rattle.scasp_command_run.specs.Runs.{IsRun, RunsFrom, end_from}
use Rattle.scasp_command_run.specs.Texts.{queries_text}
use Rattle.scasp_command_run.specs.declared.ends.QueryEnd.{QueryEnd}
use Rattle.scasp_command_run.specs.declared.ends.QueryEnd.TheVariants.{Ended, Stopped, Spent, Overflow}
use Rattle.scasp_command_run.specs.declared.ends.RunEnd.{RunEnd}
use Rattle.scasp_command_run.specs.declared.ends.RunEnd.TheVariants as run
use Rattle.scasp_syntax.specs.declared.clause.Query.{Query}

-- the text that is printed for the queries, of which the first has this number, where an answer was printed before or was not, and how the run ends
pub record Rests (job : Job) (number : ℕ) (qs : List Query) (answered : Bool) (text : List ℕ) (end : Option RunEnd) : Type 0 where
  pub all : List Shown
  pub runs : RunsFrom job number qs all
  pub text_is : text ≡ queries_text job.format job.program number all
  pub end_is : end ≡ end_from answered qs all

-- A text was taken; with what is printed for the queries that are left it is the text of a run.
pub record IsBefore (job : Job) (number : ℕ) (qs : List Query) (answered : Bool) (old new : Option (List ℕ)) : Type 0 where
  pub text : List ℕ
  pub taken : new ≡ behind old text
  pub whole : (more : List ℕ) (end : Option RunEnd) → Rests job number qs answered more end → IsRun job (text ++ more) end

-- how the run ends where a query ends so; none where the next query follows
abbrev pub last_end : QueryEnd → Option RunEnd
last_end Ended = None
last_end Stopped = None
last_end Spent = Some run.Spent
last_end Overflow = Some run.Overflow
