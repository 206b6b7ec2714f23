-- What is asked of a run.
use Rattle.std.specs.Prelude.{ℕ, List, Option}
use Rattle.scasp_command_run.specs.declared.requests.Request.{Request}
use Rattle.scasp_command_words.specs.declared.format.Format.{Format}
use Rattle.scasp_syntax.specs.declared.program.Program.{Program}

-- A program with its table of names; how many calls the search for answers to each query may make, how many answers to each query are
-- asked for, all where no number is given, and how the answers are written.
pub record Job : Type 0 where
  pub program : Program
  pub names : List (List ℕ)
  pub budget : ℕ
  pub answers : Option ℕ
  pub format : Format

abbrev pub job : Program → List (List ℕ) → Request → Job
job program names request = record { program = program; names = names; budget = request.budget; answers = request.answers; format = request.format }
