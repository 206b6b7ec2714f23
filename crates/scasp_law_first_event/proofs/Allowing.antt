-- Where an overflow is allowed, it is told.
use Rattle.std.specs.Prelude.{◌≡◌, ◌⊎◌, ℕ, ◌≤◌, true, List}
use Rattle.std.proofs.Common.{inl, inr, subst}
use Rattle.scasp_search_rules.specs.declared.states.state.State.{State}
use Rattle.scasp_search_rules.specs.Successors.Machine.{Machine, Found, overflowed}
use Rattle.scasp_search_rules.specs.Successors.Problems.{Problem}
use Rattle.scasp_search_rules.specs.Successors.Search.{search_for}
use Rattle.scasp_search_rules.proofs.SuccessorsLemmas.Walks.{finds-one}
use Rattle.scasp_search_walk.specs.Walks.{Allows}
use Rattle.scasp_syntax.specs.declared.clause.Query.{Query}
use Rattle.scasp_law_first_event.specs.Events.{HasEvent, ComesTo, IsBeyond, IsUnsolved, TellsOverflow}
use Rattle.scasp_law_first_event.proofs.Ending.{finds-or-not_solved}
use Rattle.scasp_law_first_event.proofs.Growing.{finds-or-grows}

pub allowed-told : (p : Problem) (q : Query) (budget calls : ℕ) (states : List State) → calls ≤ budget → Allows (search_for p q) budget states calls
    → (n : ℕ) → TellsOverflow (search_for p q) budget states calls ⊎ ComesTo (IsBeyond n) (search_for p q) budget states calls
allowed-told p q budget calls states l allows n = by (finds-or-grows p q n budget calls states l)
  where
    by : HasEvent (search_for p q) budget states calls ⊎ ComesTo (IsBeyond n) (search_for p q) budget states calls
        → TellsOverflow (search_for p q) budget states calls ⊎ ComesTo (IsBeyond n) (search_for p q) budget states calls
    by (inl e) = inl (e.0, e.1, allows e.0 e.1)
    by (inr c) = inr c

pub allowed-solved : (p : Problem) (q : Query) (budget calls : ℕ) (states : List State) → calls ≤ budget → Allows (search_for p q) budget states calls
    → TellsOverflow (search_for p q) budget states calls ⊎ ComesTo IsUnsolved (search_for p q) budget states calls
allowed-solved p q budget calls states l allows = by (finds-or-not_solved p q budget calls states l)
  where
    by : HasEvent (search_for p q) budget states calls ⊎ ComesTo IsUnsolved (search_for p q) budget states calls
        → TellsOverflow (search_for p q) budget states calls ⊎ ComesTo IsUnsolved (search_for p q) budget states calls
    by (inl e) = inl (e.0, e.1, allows e.0 e.1)
    by (inr c) = inr c

pub told-allowed : {S A : Type 0} (m : Machine S A) (budget calls : ℕ) (states : List S) → TellsOverflow m budget states calls → Allows m budget states calls
told-allowed {S} {A} m budget calls states t other f =
    subst (λ (x : Found S A). (x.event ≡ overflowed) ⊎ (x.may ≡ true)) (finds-one m budget calls states t.0 other t.1 f) t.2
