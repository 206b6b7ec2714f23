-- Steps in place, and steps that follow one another.
use Rattle.std.specs.Prelude.{◌≡◌, ℕ, Bool, true, false, map, List, [], ◌∷◌, Result, Ok, Err, IfOk, refl}
use Rattle.std.specs.List.{list_any}
use Rattle.std.proofs.Common.{ap, subst, sym, ◌∙◌}
use Rattle.scasp_hint.specs.Finding.{overflows_in}
use Rattle.scasp_search_assuming.proofs.StepLemmas.{followed-none, followed-one, overflows-first, overflows-later}
use Rattle.scasp_search_constraints.specs.Assuming.Taken.{Gives}
use Rattle.scasp_search_constraints.specs.declared.assuming.step.SearchErr.{SearchErr}
use Rattle.scasp_search_constraints.specs.declared.assuming.step.SearchErr.TheVariants as errors
use Rattle.scasp_search_rules.specs.declared.states.state.State.{State}
use Rattle.scasp_search_rules.specs.declared.states.tasks.Task.{Task}
use Rattle.scasp_search_rules.specs.Successors.Regions.{before}
use Rattle.scasp_search_rules.specs.Successors.Steps.{Step, followed, goes_where}
use Rattle.scasp_search_state.specs.Choices.{Forks, Point}
use Rattle.scasp_search_state.specs.Going.{Goes, Leaves}
use Rattle.scasp_syntax.specs.declared.con.Con.{Con}
use Rattle.scasp_syntax.specs.declared.program.Program.{Program}

-- the answer to one question decides whether there is a state
pub goes_by_answer : (r : Result Bool SearchErr) (sat : List Con → Bool) (cs : List Con) (s t : State) → Gives r (sat cs) (cs ∷ []) → IfOk r (λ _. t ≡ s)
    → Goes r (goes_where sat cs s) t
goes_by_answer (Ok true) sat cs s t h e = rw (← h, e) refl
goes_by_answer (Ok false) sat cs s t h e = rw (← h) refl
goes_by_answer (Err errors.Overflow) sat cs s t h e = h
goes_by_answer (Err errors.Memory) sat cs s t h e = tt

-- what goes by a step goes by an equal one
pub goes_same : (r : Result Bool SearchErr) (p q : Step) (t : State) → Goes r p t → p ≡ q → Goes r q t
goes_same r p q t h e = subst (λ (s : Step). Goes r s t) e h

-- an error of the first step is one of both
pub goes-not : (e : SearchErr) (r : Step) (f : State → Step) (s t : State) → Goes (Err e) r s → Goes (Err e) (followed r f) t
goes-not errors.Overflow r f s t h = overflows-first r f h
goes-not errors.Memory r f s t h = tt

-- an error of the step that is left is one of the whole step
pub goes-left : (e : SearchErr) (left all : Step) (s t : State) → (list_any overflows_in left.asked ≡ true → list_any overflows_in all.asked ≡ true) → Goes (Err e) left s
    → Goes (Err e) all t
goes-left errors.Overflow left all s t h k = h k
goes-left errors.Memory left all s t h k = tt

-- what goes by the second step goes by both
pub goes-later : (r : Result Bool SearchErr) (first : Step) (f : State → Step) (s t : State) → first.states ≡ s ∷ [] → Goes r (f s) t → Goes r (followed first f) t
goes-later (Ok true) first f s t h k = followed-one first f s (sym h) ∙ k
goes-later (Ok false) first f s t h k = followed-one first f s (sym h) ∙ k
goes-later (Err errors.Overflow) first f s t h k = overflows-later first f s (sym h) k
goes-later (Err errors.Memory) first f s t h k = tt

-- what is put in front by a step is put in front by an equal one
pub forks_same : (r q : Step) (now : State) (new old : List Point) (went : Result Bool SearchErr) → ((p : Program) → Forks p r now new old went) → r ≡ q
    → (p : Program) → Forks p q now new old went
forks_same r q now new old went h e p = subst (λ (s : Step). Forks p s now new old went) e (h p)

-- tasks in front of the state of a step, if it has one
pub none_in_front : (step : ℕ → Step) (t : State) (n m : ℕ) (b : Bool) (us : List Task) → Leaves b (step n).states t → b ≡ false → n ≡ m
    → map (before us) (step m).states ≡ []
none_in_front step t n m b us h e g =
    ap (λ k. map (before us) (step k).states) (sym g) ∙ ap (map (before us)) (subst (λ (v : Bool). Leaves v (step n).states t) e h)

pub one_in_front : (step : ℕ → Step) (t u : State) (n m : ℕ) (b : Bool) (ts us : List Task) → Leaves b (step n).states t → b ≡ true → n ≡ m → ts ≡ us
    → u ≡ before ts t → map (before us) (step m).states ≡ u ∷ []
one_in_front step t u n m b ts us h e g w k =
    ap (λ j. map (before us) (step j).states) (sym g)
    ∙ (ap (map (before us)) (subst (λ (v : Bool). Leaves v (step n).states t) e h) ∙ ap (λ (v : State). v ∷ []) (ap (λ ws. before ws t) (sym w) ∙ sym k))
