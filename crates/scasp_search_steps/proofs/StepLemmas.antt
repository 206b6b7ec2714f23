-- Tasks and points that are taken.
use Rattle.std.specs.Prelude.{◌≡◌, suc, Bool, None, Some, Result, List, [], ◌∷◌, ◌++◌, length, refl}
use Rattle.std.proofs.Common.{ap, subst, sym, ◌∙◌}
use Rattle.scasp_hint.specs.Satisfying.{sat}
use Rattle.scasp_search_constraints.specs.declared.assuming.step.SearchErr.{SearchErr}
use Rattle.scasp_search_rules.specs.declared.states.state.State.{State}
use Rattle.scasp_search_rules.specs.declared.states.tasks.Task.{Task}
use Rattle.scasp_search_rules.specs.Successors.Search.{done, step_at}
use Rattle.scasp_search_state.specs.Choices.{Point, Taken, TakesTask, left, waiting}
use Rattle.scasp_search_state.specs.declared.choice.Choice.{Choice}
use Rattle.scasp_search_steps.specs.Foresight.{ForksIf}
use Rattle.scasp_syntax.specs.declared.program.Program.{Program}

-- ---- tasks

pub task_done : (may : Bool) (p : Program) (s t now : State) (ts : List Task) (u : Task) (new mid old : List Point) (r : Result Bool SearchErr) → TakesTask s ts t (Some u) → mid ≡ old
    → ForksIf may p (done p sat t u) now new mid r → ForksIf may p (step_at p sat s ts) now new old r
task_done may p s t now [] u new mid old r k m h = absurd k
task_done may p s t now (v ∷ ts) u new mid old r (e, w) m h =
    subst (λ (x : Task). ForksIf may p (done p sat (record s { work = ts }) x) now new old r) e
    (subst (λ (x : State). ForksIf may p (done p sat x u) now new old r) w
    (subst (λ (qs : List Point). ForksIf may p (done p sat t u) now new qs r) m h))

-- ---- points

pub point_taken : (p : Program) (now : State) (c : Choice) (new old : List Point) → Taken old now new (Some c)
    → waiting p old ≡ left p c now ++ waiting p new
point_taken p now c new [] k = absurd k
point_taken p now c new (q ∷ qs) (e, s, n) =
    sym (ap (λ (d : Choice). left p d now ++ waiting p new) e
    ∙ ap (λ (t : State). left p q.choice t ++ waiting p new) s
    ∙ ap (λ (ps : List Point). left p q.choice q.state ++ waiting p ps) n)

pub one_fewer : (now : State) (c : Choice) (new old : List Point) → Taken old now new (Some c) → length old ≡ suc (length new)
one_fewer now c new [] k = absurd k
one_fewer now c new (q ∷ qs) (e, s, n) = ap (λ (ps : List Point). suc (length ps)) (sym n)

pub none_taken : (now : State) (new old : List Point) → Taken old now new None → old ≡ []
none_taken now new [] k = refl
none_taken now new (q ∷ qs) k = absurd k

pub none_left : (now : State) (new old : List Point) → Taken old now new None → new ≡ []
none_left now new [] k = k
none_left now new (q ∷ qs) k = absurd k
