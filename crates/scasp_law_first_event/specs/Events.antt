-- That a search comes to an event.
use Rattle.std.specs.Prelude.{◌≡◌, ◌⊎◌, ℕ, ◌<◌, ◌≤◌, true, false, List, ◌∷◌}
use Rattle.std.specs.List.{Contains}
use Rattle.scasp_list.specs.Each.{Each}
use Rattle.scasp_search_rules.specs.declared.states.state.State.{State}
use Rattle.scasp_search_rules.specs.Successors.Falls.{size}
use Rattle.scasp_search_rules.specs.Successors.Machine.{Found, Finds, Machine, overflowed}
use Rattle.scasp_search_rules.specs.Successors.Problems.{Problem}
use Rattle.scasp_search_rules.specs.Successors.Search.{search_for, start}
use Rattle.scasp_search_walk.specs.Walks.{Allows, Reached}
use Rattle.scasp_syntax.specs.WellFormed.{is_query_well_formed}
use Rattle.scasp_syntax.specs.declared.clause.Query.{Query}
use Rattle.scasp_law_first_event.specs.Positive.{is_positive}
use Rattle.scasp_law_first_event.specs.Replaced.{replaces_inside}
use Rattle.scasp_law_first_event.specs.Solved.{has_circle, is_solved}

-- within some number of steps there is a first event
abbrev pub HasEvent : {S A : Type 0} → Machine S A → ℕ → List S → ℕ → Type 0
HasEvent {S} {A} m budget states calls = (found : Found S A) × Finds m budget states calls found

-- after some number of steps the next state of the walk is one of which X holds
pub record ComesTo {S A : Type 0} (X : S → Type 0) (m : Machine S A) (budget : ℕ) (states : List S) (calls : ℕ) : Type 0 where
  pub state : S
  pub rest : List S
  pub after : ℕ
  pub reached : Reached m budget states calls (state ∷ rest) after
  pub is : X state

-- the state has more than n variables and bindings
abbrev pub IsBeyond : ℕ → State → Type 0
IsBeyond n s = n < size s

-- From any states, for each number, there is a first event, or the search comes to a state that has more variables and bindings than that.
abbrev pub FindsOrGrows : Type 0
FindsOrGrows =
    (p : Problem) (q : Query) (budget calls : ℕ) (states : List State) → calls ≤ budget
    → (n : ℕ) → HasEvent (search_for p q) budget states calls ⊎ ComesTo (IsBeyond n) (search_for p q) budget states calls

-- its bindings are not in solved form, or name a variable that was not made
abbrev pub IsUnsolved : State → Type 0
IsUnsolved s = is_solved s ≡ false

-- a variable is bound to a term in which it stands
abbrev pub IsCircular : State → Type 0
IsCircular s = has_circle s.bound ≡ true

-- From any states there is a first event, or the search comes to a state whose bindings are not in solved form.
abbrev pub FindsOrUnsolved : Type 0
FindsOrUnsolved =
    (p : Problem) (q : Query) (budget calls : ℕ) (states : List State) → calls ≤ budget
    → HasEvent (search_for p q) budget states calls ⊎ ComesTo IsUnsolved (search_for p q) budget states calls

-- the second state comes of the first by steps
pub data Follows {S A : Type 0} (m : Machine S A) (s : S) : S → Type 0 where
  itself : Follows m s s
  after : (t u : S) → Follows m s t → Contains (m.next t) u → Follows m s u

-- the state comes of the start of the search for answers to the query
abbrev pub IsReachable : Problem → Query → State → Type 0
IsReachable p q s = Follows (search_for p q) (start q p.checks) s

-- The search comes to a state that ends a case, where the other side of the split replaces a variable by a term in which it stands; and so to a
-- state with a circle.
pub record ComesToReplacement (p : Problem) (q : Query) : Type 0 where
  pub state : State
  pub reached : IsReachable p q state
  pub inside : replaces_inside state ≡ true
  pub next : State
  pub follows : Contains ((search_for p q).next state) next
  pub circle : IsCircular next

-- Where a state that comes of the start has a circle, such a replacement made one.
abbrev pub CirclesAreReplaced : Type 0
CirclesAreReplaced = (p : Problem) (q : Query) (s : State) → is_query_well_formed q ≡ true → IsReachable p q s → IsCircular s → ComesToReplacement p q

-- From states that come of its start each search has a first event, or it comes to such a replacement.
abbrev pub FindsOrReplaces : Type 0
FindsOrReplaces =
    (p : Problem) (q : Query) (budget calls : ℕ) (states : List State) → is_query_well_formed q ≡ true → calls ≤ budget → Each (IsReachable p q) states
    → HasEvent (search_for p q) budget states calls ⊎ ComesToReplacement p q

-- Where neither the query nor a clause has a negated literal, and no clause is checked, the search has a first event from any such states.
abbrev pub PositiveFinds : Type 0
PositiveFinds =
    (p : Problem) (q : Query) (budget calls : ℕ) (states : List State) → is_query_well_formed q ≡ true → is_positive p q ≡ true → calls ≤ budget
    → Each (IsReachable p q) states → HasEvent (search_for p q) budget states calls

-- there is a first event, and it is an overflow or tells that a list was asked that overflows
abbrev pub TellsOverflow : {S A : Type 0} → Machine S A → ℕ → List S → ℕ → Type 0
TellsOverflow {S} {A} m budget states calls =
    (found : Found S A) × Finds m budget states calls found × ((found.event ≡ overflowed) ⊎ (found.may ≡ true))

-- where an overflow is allowed it is told, or the search grows
abbrev pub AllowedIsTold : Type 0
AllowedIsTold =
    (p : Problem) (q : Query) (budget calls : ℕ) (states : List State) → calls ≤ budget → Allows (search_for p q) budget states calls
    → (n : ℕ) → TellsOverflow (search_for p q) budget states calls ⊎ ComesTo (IsBeyond n) (search_for p q) budget states calls

-- where an overflow is allowed it is told, or the search comes to bindings that are not in solved form
abbrev pub AllowedIsToldOrUnsolved : Type 0
AllowedIsToldOrUnsolved =
    (p : Problem) (q : Query) (budget calls : ℕ) (states : List State) → calls ≤ budget → Allows (search_for p q) budget states calls
    → TellsOverflow (search_for p q) budget states calls ⊎ ComesTo IsUnsolved (search_for p q) budget states calls

-- where an overflow is allowed from states that come of the start, it is told, or the search comes to such a replacement
abbrev pub AllowedIsToldOrReplaces : Type 0
AllowedIsToldOrReplaces =
    (p : Problem) (q : Query) (budget calls : ℕ) (states : List State) → is_query_well_formed q ≡ true → calls ≤ budget → Each (IsReachable p q) states
    → Allows (search_for p q) budget states calls → TellsOverflow (search_for p q) budget states calls ⊎ ComesToReplacement p q

-- and where it is told it is allowed
abbrev pub ToldIsAllowed : (S A : Type 0) → Type 0
ToldIsAllowed S A = (m : Machine S A) (budget calls : ℕ) (states : List S) → TellsOverflow m budget states calls → Allows m budget states calls
