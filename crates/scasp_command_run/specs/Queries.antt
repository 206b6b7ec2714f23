-- The run of a query: the answers that are printed for it, and how it ends.
use Rattle.std.specs.Prelude.{◌≡◌, ◌≢◌, ℕ, ◌-◌, List, [], ◌∷◌, length, Option, None, Some}
use Rattle.scasp_cert.specs.Certificate.{Certificate}
use Rattle.scasp_fill.specs.Finishing.Right.{Completes, HasNoAccepted}
use Rattle.scasp_command_run.specs.Jobs.{Job}
use Rattle.scasp_print_samples.specs.Samples.{NamesSample}
use Rattle.scasp_command_run.specs.declared.ends.QueryEnd.{QueryEnd}
use Rattle.scasp_command_run.specs.declared.ends.QueryEnd.TheVariants.{Ended, Stopped, Spent, Overflow}
use Rattle.scasp_search_walk.specs.Walks.{Allows, Tells}
use Rattle.scasp_written.specs.Written.Rests.{Opens, Rest, machine}
use Rattle.scasp_search_rules.specs.declared.states.state.State.{State}
use Rattle.scasp_search_rules.specs.Successors.Machine.{Outcome, answered, ended, spent}
use Rattle.scasp_syntax.specs.declared.clause.Query.{Query}
use Rattle.scasp_syntax.specs.declared.program.Program.{Program}

-- the rest of the search comes to this event first, and this is the rest behind it
pub record Meets (rest : Rest) (event : Outcome Certificate) (next : Rest) : Type 0 where
  pub calls : ℕ
  pub states : List State
  pub tells : Tells (machine rest.problem rest.queried) rest.budget rest.states rest.calls event calls states
  pub is : next ≡ record rest { calls = calls; states = states }

-- the first event of the rest is an overflow, or a list that was asked before it overflows
abbrev pub MayOverflow : Rest → Type 0
MayOverflow rest = Allows (machine rest.problem rest.queried) rest.budget rest.states rest.calls

-- an answer that is printed, with the table by which its names are written
pub record Printed : Type 0 where
  pub names : List (List ℕ)
  pub certificate : Certificate

-- the answers that are still asked for behind one more
abbrev pub fewer : Option ℕ → Option ℕ
fewer None = None
fewer (Some n) = Some (n - 1)

-- From the rest of a query's search, where so many more answers are asked for, these are printed, and so the run of the query ends. A tree of the search is
-- printed with the hints and clash lines that are found, which make it right; one that none make accepted is passed over. Without an end the run is cut off.
pub data Prints (p : Program) (names : List (List ℕ)) : Option ℕ → Rest → List Printed → Option QueryEnd → Type 0 where
  prints : (asked : Option ℕ) (rest next : Rest) (tree : Certificate) (one : Printed) (more : List Printed) (end : Option QueryEnd)
      → asked ≢ Some 0 → Meets rest (answered tree) next → Completes p tree one.certificate → NamesSample names one.names one.certificate
      → Prints p names (fewer asked) next more end → Prints p names asked rest (one ∷ more) end
  passes : (asked : Option ℕ) (rest next : Rest) (tree : Certificate) (more : List Printed) (end : Option QueryEnd)
      → asked ≢ Some 0 → Meets rest (answered tree) next → HasNoAccepted p tree
      → Prints p names asked next more end → Prints p names asked rest more end
  stops : (rest : Rest) → Prints p names (Some 0) rest [] (Some Stopped)
  ends : (asked : Option ℕ) (rest next : Rest) → asked ≢ Some 0 → Meets rest ended next → Prints p names asked rest [] (Some Ended)
  is_spent : (asked : Option ℕ) (rest next : Rest) → asked ≢ Some 0 → Meets rest spent next → Prints p names asked rest [] (Some Spent)
  overflows : (asked : Option ℕ) (rest : Rest) → asked ≢ Some 0 → MayOverflow rest → Prints p names asked rest [] (Some Overflow)
  is_cut : (asked : Option ℕ) (rest : Rest) → Prints p names asked rest [] None

-- what is printed for a query, and how its run ends, if it is not cut off
pub record Shown : Type 0 where
  pub answers : List Printed
  pub end : Option QueryEnd

-- this is printed for the query of this number, from the beginning of its search
pub record RunsQuery (job : Job) (number : ℕ) (query : Query) (shown : Shown) : Type 0 where
  pub rest : Rest
  pub opens : Opens job.program number job.budget (length job.names) query rest
  pub prints : Prints job.program job.names job.answers rest shown.answers shown.end
