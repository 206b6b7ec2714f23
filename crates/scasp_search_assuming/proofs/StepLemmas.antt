-- Steps that follow one another.
use Rattle.std.specs.Prelude.{◌≡◌, true, [], ◌∷◌, refl}
use Rattle.std.specs.List.{list_any, flat_map}
use Rattle.std.proofs.Common.{◌∙◌}
use Rattle.std.proofs.Math.Bool.{or-true}
use Rattle.std.proofs.lemmas.List.{append-nil}
use Rattle.std.proofs.lemmas.List.Folds.{list_any-append}
use Rattle.scasp_hint.specs.Finding.{overflows_in}
use Rattle.scasp_search_rules.specs.declared.states.state.State.{State}
use Rattle.scasp_search_rules.specs.Successors.Steps.{Step, followed}
use Rattle.scasp_unify.proofs.Members.{or-left}

-- the states behind one state, and behind none
pub followed-one : (r : Step) (f : State → Step) (t : State) → t ∷ [] ≡ r.states → (followed r f).states ≡ (f t).states
followed-one r f t h = rw (← h) (append-nil (f t).states)

pub followed-none : (r : Step) (f : State → Step) → [] ≡ r.states → (followed r f).states ≡ []
followed-none r f h = rw (← h) refl

-- a list that the first step asks overflows
pub overflows-first : (r : Step) (f : State → Step) → list_any overflows_in r.asked ≡ true → list_any overflows_in (followed r f).asked ≡ true
overflows-first r f h =
    list_any-append overflows_in r.asked (flat_map (λ s. (f s).asked) r.states) ∙ or-left _ _ h

-- a list that the second step asks overflows
pub overflows-later : (r : Step) (f : State → Step) (t : State) → t ∷ [] ≡ r.states → list_any overflows_in (f t).asked ≡ true
    → list_any overflows_in (followed r f).asked ≡ true
overflows-later r f t h o =
    list_any-append overflows_in r.asked (flat_map (λ s. (f s).asked) r.states)
    ∙ (rw (← h) (rw (append-nil (f t).asked) (rw o (or-true (list_any overflows_in r.asked)))))
