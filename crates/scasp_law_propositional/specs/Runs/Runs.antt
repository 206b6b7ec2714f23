-- Runs that pass over no tree of the search.
use Rattle.std.specs.Prelude.{◌≡◌, ⊤, ℕ, IsTrue, List, Option, Some}
use Rattle.scasp_search_ends.specs.Ends.Ends.{problem}
use Rattle.scasp_nmr.specs.declared.items.CheckItem.{CheckItem}
use Rattle.scasp_law_propositional.specs.Propositional.Problems.{HasTests}
use Rattle.scasp_law_propositional.specs.Propositional.Propositional.{is_propositional}
use Rattle.scasp_command_run.specs.Jobs.{Job}
use Rattle.scasp_command_run.specs.Queries.{Printed, Prints, prints, passes, stops, ends, is_spent, overflows, is_cut, RunsQuery, Shown, fewer}
use Rattle.scasp_command_run.specs.declared.ends.QueryEnd.{QueryEnd}
use Rattle.scasp_written.specs.Written.Rests.{Rest}
use Rattle.scasp_syntax.specs.Programs.{numbered}
use Rattle.scasp_syntax.specs.declared.clause.Query.{Query}
use Rattle.scasp_syntax.specs.declared.predicate_map.PredMap.{PredMap}
use Rattle.scasp_syntax.specs.declared.program.Program.{Program}

-- at no event of the search a tree is passed over
abbrev pub PassesNone : (p : Program) (names : List (List ℕ)) (asked : Option ℕ) (rest : Rest) (all : List Printed) (end : Option QueryEnd)
    → Prints p names asked rest all end → Type 0
PassesNone p names _ _ _ _ (prints asked rest next tree one more end open_yet meets completes named behind) = PassesNone p names (fewer asked) next more end behind
PassesNone p names _ _ _ _ (passes asked rest next tree more end open_yet meets none behind) = ⊥
PassesNone p names _ _ _ _ (stops rest) = ⊤
PassesNone p names _ _ _ _ (ends asked rest next open_yet meets) = ⊤
PassesNone p names _ _ _ _ (is_spent asked rest next open_yet meets) = ⊤
PassesNone p names _ _ _ _ (overflows asked rest open_yet may) = ⊤
PassesNone p names _ _ _ _ (is_cut asked rest) = ⊤

abbrev pub EachTreeIsPrinted : Type 0
EachTreeIsPrinted =
    (job : Job) → IsTrue (is_propositional job.program) → (number : ℕ) (query : Query) → numbered job.program.queries number ≡ Some query
    → (shown : Shown) (run : RunsQuery job number query shown)
    → PassesNone job.program job.names job.answers run.rest shown.answers shown.end run.prints

-- the problems that are searched have the tests that laws on trees ask for
abbrev pub SearchesHaveTests : Type 0
SearchesHaveTests = (p : Program) (query : ℕ) (checks : List CheckItem) (map : List PredMap) (fresh : ℕ) → HasTests (problem p query checks map fresh)
