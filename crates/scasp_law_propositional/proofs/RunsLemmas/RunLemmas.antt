-- A run passes over no tree where each answer that its search meets is accepted.
use Rattle.std.specs.Prelude.{◌≡◌, ℕ, true, List, length, Option, Some}
use Rattle.std.proofs.Common.{refl, sym, subst}
use Rattle.scasp_checker_rules.specs.Accepted.{Accepts}
use Rattle.scasp_cert.specs.Certificate.{Certificate}
use Rattle.scasp_search_ends.specs.Ends.Ends.{problem}
use Rattle.scasp_nmr.specs.Checks.{checks_of}
use Rattle.scasp_law_outcomes.specs.Giving.{GivesAnswer, at_once, later}
use Rattle.scasp_law_outcomes.specs.Problems.{IsAnalysed}
use Rattle.scasp_law_propositional.specs.Propositional.Propositional.{is_propositional}
use Rattle.scasp_law_propositional.proofs.PropositionalLemmas.Answering.{answers-right}
use Rattle.scasp_law_propositional.specs.Runs.Runs.{PassesNone}
use Rattle.scasp_law_propositional.proofs.RunsLemmas.SampleLemmas.{searched-tests}
use Rattle.scasp_command_run.specs.Jobs.{Job}
use Rattle.scasp_command_run.specs.Queries.{Meets, Printed, Prints, prints, passes, stops, ends, is_spent, overflows, is_cut, RunsQuery, Shown, fewer}
use Rattle.scasp_command_run.specs.declared.ends.QueryEnd.{QueryEnd}
use Rattle.scasp_written.specs.Written.Rests.{Rest, machine}
use Rattle.scasp_search_rules.specs.Successors.Machine.{answered}
use Rattle.scasp_search_rules.specs.Successors.Problems.{Problem}
use Rattle.scasp_syntax.specs.Programs.{numbered}
use Rattle.scasp_syntax.specs.declared.clause.Query.{Query}
use Rattle.scasp_syntax.specs.declared.program.Program.{Program}

-- each answer that the rest of the search meets is accepted
abbrev AreAccepted : Program → Rest → Type 0
AreAccepted p rest = (c : Certificate) → GivesAnswer (machine rest.problem rest.queried) rest.budget c rest.states rest.calls → Accepts p c

accepted-first : (p : Program) (rest next : Rest) (tree : Certificate) → Meets rest (answered tree) next → AreAccepted p rest → Accepts p tree
accepted-first p rest next tree m h =
    h tree (at_once rest.states rest.calls (record { event = answered tree; calls = m.calls; may = m.tells.0; rest = m.states }) m.tells.1 refl)

accepted-behind : (p : Program) (rest next : Rest) (tree : Certificate) → Meets rest (answered tree) next → AreAccepted p rest → AreAccepted p next
accepted-behind p rest next tree m h =
    let behind : AreAccepted p (record rest { calls = m.calls; states = m.states }) =
    λ c g. h c (later rest.states rest.calls (record { event = answered tree; calls = m.calls; may = m.tells.0; rest = m.states }) tree m.tells.1 refl g) in
    subst (AreAccepted p) (sym m.is) behind

none-passed : (p : Program) (names : List (List ℕ)) (asked : Option ℕ) (rest : Rest) (all : List Printed) (end : Option QueryEnd)
    → (k : Prints p names asked rest all end) → AreAccepted p rest → PassesNone p names asked rest all end k
none-passed p names _ _ _ _ (prints asked rest next tree one more end open_yet meets completes named behind) h =
    none-passed p names (fewer asked) next more end behind (accepted-behind p rest next tree meets h)
none-passed p names _ _ _ _ (passes asked rest next tree more end open_yet meets none behind) h =
    none tree refl (accepted-first p rest next tree meets h)
none-passed p names _ _ _ _ (stops rest) h = tt
none-passed p names _ _ _ _ (ends asked rest next open_yet meets) h = tt
none-passed p names _ _ _ _ (is_spent asked rest next open_yet meets) h = tt
none-passed p names _ _ _ _ (overflows asked rest open_yet may) h = tt
none-passed p names _ _ _ _ (is_cut asked rest) h = tt

pub run-passes-none : (job : Job) → is_propositional job.program ≡ true → (number : ℕ) (query : Query) → numbered job.program.queries number ≡ Some query
    → (shown : Shown) (run : RunsQuery job number query shown)
    → PassesNone job.program job.names job.answers run.rest shown.answers shown.end run.prints
run-passes-none job plain number query named shown run =
    let a = run.opens.analysis in
    let fresh : ℕ = length job.names in
    let p : Problem = problem job.program number (checks_of job.program a.odd_rules) a.map fresh in
    let analysed : IsAnalysed p a = record { analysis = run.opens.is; checks = refl; map = refl } in
    let tests = searched-tests job.program number (checks_of job.program a.odd_rules) a.map fresh in
    none-passed job.program job.names job.answers run.rest shown.answers shown.end run.prints
    (subst (AreAccepted job.program) (sym run.opens.whole)
    (λ c met. (answers-right p a tests analysed plain query named job.budget c met).accepted))
