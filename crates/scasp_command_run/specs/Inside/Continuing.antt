-- Parts of runs: what is written so far, and what may follow.
use Rattle.std.specs.Prelude.{◌≡◌, ◌⊎◌, ℕ, suc, Bool, ◌||◌, nat_lt, List, [], ◌++◌, length, Option, None, Some, IfSome, option_map}
use Rattle.scasp_io.specs.Bytes.{behind}
use Rattle.scasp_command_run.specs.Jobs.{Job}
use Rattle.scasp_command_run.specs.Queries.{Printed, Prints}
use Rattle.scasp_command_run.specs.Runs.{has_any}
use Rattle.scasp_command_run.specs.Texts.{shown_from}
use Rattle.scasp_command_run.specs.declared.ends.QueryEnd.{QueryEnd}
use Rattle.scasp_command_run.specs.declared.queries.Queried.{Queried}
use Rattle.scasp_command_words.specs.declared.format.Format.{Format}
use Rattle.scasp_written.specs.Written.Rests.{Opens, Rest}
use Rattle.scasp_syntax.specs.declared.clause.Query.{Query}
use Rattle.scasp_syntax.specs.declared.program.Program.{Program}

-- one text, or nothing where there is no result
abbrev pub IsText : List ℕ → List ℕ → Option Unit → Type 0
IsText all text None = text ≡ []
IsText all text (Some done) = text ≡ all

-- where the run of a query stands: the rest of its search, how many more answers are asked for, how many were printed, and how they are written
pub record Standing : Type 0 where
  pub rest : Rest
  pub asked : Option ℕ
  pub printed : ℕ
  pub format : Format

-- the text that is printed from there on; whether an answer was printed before, or is in it; and how the run of the query ends
pub record Remains (p : Program) (names : List (List ℕ)) (query : ℕ) (s : Standing) (text : List ℕ) (has : Bool) (end : Option QueryEnd) : Type 0 where
  pub all : List Printed
  pub prints : Prints p names s.asked s.rest all end
  pub text_is : text ≡ shown_from s.format p query (suc s.printed) all end
  pub has_is : has ≡ (nat_lt 0 s.printed || has_any all)

-- the text leads from the old standing to the new one
abbrev pub Continues : Program → List (List ℕ) → ℕ → Standing → List ℕ → Standing → Type 0
Continues p names query old text new =
    (more : List ℕ) (has : Bool) (end : Option QueryEnd) → Remains p names query new more has end → Remains p names query old (text ++ more) has end

-- the text that one event gives: it leads on, or the run of the query ends or is cut off
abbrev pub Steps : Program → List (List ℕ) → ℕ → Standing → Standing → List ℕ → Option (Option QueryEnd) → Type 0
Steps p names query old new text None = (has : Bool) × Remains p names query old text has None
Steps p names query old new text (Some None) = Continues p names query old text new
Steps p names query old new text (Some (Some end)) = Remains p names query old text (nat_lt 0 old.printed) (Some end)

-- this text was taken, and leads from the first standing to this one
pub record Going (p : Program) (names : List (List ℕ)) (query : ℕ) (first now : Standing) (old new : Option (List ℕ)) : Type 0 where
  pub text : List ℕ
  pub taken : new ≡ behind old text
  pub continues : Continues p names query first text now

-- the text of the run of a query, and so it ends; without an end it is cut off
pub record IsQueryRun (job : Job) (number : ℕ) (query : Query) (text : List ℕ) (r : Option Queried) : Type 0 where
  pub rest : Rest
  pub opens : Opens job.program number job.budget (length job.names) query rest
  pub has : Bool
  pub remains : Remains job.program job.names number (record { rest = rest; asked = job.answers; printed = 0; format = job.format }) text has (option_map (λ q. q.end) r)
  pub has_is : IfSome r (λ q. q.answered ≡ has)

-- the same, or nothing where the run is cut off before the query
abbrev pub QueryText : Job → ℕ → Query → List ℕ → Option Queried → Type 0
QueryText job number q text None = IsQueryRun job number q text None ⊎ (text ≡ [])
QueryText job number q text (Some r) = IsQueryRun job number q text (Some r)
