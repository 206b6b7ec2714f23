-- States that are put in front of those that wait.
use Rattle.std.specs.Prelude.{◌≡◌, ℕ, Bool, true, false, IfOk, None, Result, Ok, Err, List, [], ◌∷◌, ◌++◌, refl}
use Rattle.std.proofs.Common.{ap, append_assoc, sym, ◌∙◌}
use Rattle.scasp_hint.specs.Satisfying.{sat}
use Rattle.scasp_search_constraints.specs.declared.assuming.step.SearchErr.{SearchErr}
use Rattle.scasp_search_constraints.specs.declared.assuming.step.SearchErr.TheVariants as errors
use Rattle.scasp_search_rules.specs.declared.states.state.State.{State}
use Rattle.scasp_search_rules.specs.declared.states.tasks.Task.{Task}
use Rattle.scasp_search_rules.specs.Successors.Calls.{by_rule}
use Rattle.scasp_search_rules.specs.Successors.Regions.{before}
use Rattle.scasp_search_rules.specs.Successors.Search.{step_at}
use Rattle.scasp_search_rules.specs.Successors.Steps.{Step}
use Rattle.scasp_search_state.specs.Choices.{Forked, Forks, Point, TakesTask, left, rules_behind, waiting}
use Rattle.scasp_search_state.specs.Going.{Goes, Leaves}
use Rattle.scasp_search_state.specs.declared.choice.Choice.TheVariants as choice
use Rattle.scasp_search_steps.proofs.SkipLemmas.{both_skipped, same_skipped}
use Rattle.scasp_search_steps.specs.Foresight.{ForkedIf, ForksIf, SkipsIf}
use Rattle.scasp_syntax.specs.declared.atom.Lit.{Lit}
use Rattle.scasp_syntax.specs.declared.program.Program.{Program}

-- ---- the states by the rules that a choice leaves

-- the first, where the others wait
pub first_rule : (p : Program) (l : Lit) (behind k : ℕ) (s : State) (points : List Point)
    → rules_behind p l behind ≡ k ∷ rules_behind p l k
    → by_rule p s l k ∷ waiting p (record { choice = choice.ByRules l k; state = s } ∷ points) ≡ left p (choice.ByRules l behind) s ++ waiting p points
first_rule p l behind k s points e = rw e refl

-- the last
pub last_rule : (p : Program) (l : Lit) (behind k : ℕ) (s : State) (points : List Point)
    → rules_behind p l behind ≡ k ∷ rules_behind p l k → rules_behind p l k ≡ []
    → by_rule p s l k ∷ waiting p points ≡ left p (choice.ByRules l behind) s ++ waiting p points
last_rule p l behind k s points e n = rw e (rw n refl)

pub before_both : (ts us : List Task) (s : State) → before ts (before us s) ≡ before (ts ++ us) s
before_both ts us s = ap (λ w. record s { work = w }) (sym (append_assoc ts us s.work))

-- ---- states in front that may be left out

pub forked_if : (may : Bool) (p : Program) (ss : List State) (now : State) (new old : List Point) (went : Bool) → Forked p ss now new old went → ForkedIf may p ss now new old went
forked_if may p ss now new old true e = same_skipped may p (ss ++ waiting p old) (now ∷ waiting p new) e
forked_if may p ss now new old false e = (same_skipped may p (ss ++ waiting p old) (waiting p old) (λ i. sym e.0 i ++ waiting p old), e.1)

pub forks_if : (may : Bool) (p : Program) (step : Step) (now : State) (new old : List Point) (r : Result Bool SearchErr) → Forks p step now new old r → ForksIf may p step now new old r
forks_if may p step now new old (Ok went) h = forked_if may p step.states now new old went h
forks_if may p step now new old (Err errors.Overflow) h = h
forks_if may p step now new old (Err errors.Memory) h = tt

-- behind rules that were left out
pub behind_forked : (may : Bool) (p : Program) (l : Lit) (last : ℕ) (s now : State) (new old : List Point) (went : Bool)
    → ((rest : List State) → SkipsIf may p (left p (choice.ByRules l 0) s ++ rest) (left p (choice.ByRules l last) s ++ rest)) → Forked p (left p (choice.ByRules l last) s) now new old went
    → ForkedIf may p (left p (choice.ByRules l 0) s) now new old went
behind_forked may p l last s now new old went k f = by went (forked_if may p (left p (choice.ByRules l last) s) now new old went f)
  where
    all : List State
    all = left p (choice.ByRules l 0) s ++ waiting p old

    some : List State
    some = left p (choice.ByRules l last) s ++ waiting p old

    by : (b : Bool) → ForkedIf may p (left p (choice.ByRules l last) s) now new old b → ForkedIf may p (left p (choice.ByRules l 0) s) now new old b
    by true h = both_skipped may p all some (now ∷ waiting p new) (k (waiting p old)) h
    by false h = (both_skipped may p all some (waiting p old) (k (waiting p old)) h.0, h.1)

-- ---- steps to one state or none

pub leaves_forked : (may : Bool) (p : Program) (step : Step) (now : State) (new old : List Point) (went : Bool) → Leaves went step.states now → new ≡ old
    → ForksIf may p step now new old (Ok went)
leaves_forked may p step now new old true e h = forked_if may p step.states now new old true (λ i. sym e i ++ waiting p (h i))
leaves_forked may p step now new old false e h = forked_if may p step.states now new old false (e, h)

pub one_forked : (may : Bool) (p : Program) (s now : State) (new old : List Point) → now ≡ s → new ≡ old → ForkedIf may p (s ∷ []) now new old true
one_forked may p s now new old e h = forked_if may p (s ∷ []) now new old true (λ i. e i ∷ waiting p (h i))

one-way : (p : Program) (step : Step) (now : State) (new old : List Point) (r : Result Bool SearchErr) → Goes r step now → IfOk r (λ _. new ≡ old)
    → Forks p step now new old r
one-way p step now new old (Ok true) g e = ap (λ (qs : List Point). now ∷ waiting p qs) e ∙ ap (λ (ss : List State). ss ++ waiting p old) (sym g)
one-way p step now new old (Ok false) g e = (g, e)
one-way p step now new old (Err errors.Overflow) g e = g
one-way p step now new old (Err errors.Memory) g e = tt

pub one_way : (may : Bool) (p : Program) (step : Step) (now : State) (new old : List Point) (r : Result Bool SearchErr) → Goes r step now → IfOk r (λ _. new ≡ old)
    → ForksIf may p step now new old r
one_way may p step now new old r g e = forks_if may p step now new old r (one-way p step now new old r g e)

pub no_task : (may : Bool) (p : Program) (s t : State) (ts : List Task) (new old : List Point) → TakesTask s ts t None → new ≡ old
    → ForksIf may p (step_at p sat s ts) t new old (Ok false)
no_task may p s t [] new old k e = leaves_forked may p (step_at p sat s []) t new old false refl e
no_task may p s t (v ∷ ts) new old k e = absurd k
