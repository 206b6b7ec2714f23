-- What holds of the states that come of the start of a search.
use Rattle.std.specs.Prelude.{◌≡◌, ◌↔◌, ℕ, ◌≤◌, true, List}
use Rattle.scasp_cert.specs.Certificate.{Certificate}
use Rattle.scasp_list.specs.Each.{Each}
use Rattle.scasp_search_rules.specs.declared.states.state.State.{State}
use Rattle.scasp_search_rules.specs.Successors.Machine.{Found, Finds}
use Rattle.scasp_search_rules.specs.Successors.Problems.{Problem}
use Rattle.scasp_search_rules.specs.Successors.Search.{search_for}
use Rattle.scasp_search_walk.specs.Walks.{Allows}
use Rattle.scasp_syntax.specs.WellFormed.{is_query_well_formed}
use Rattle.scasp_syntax.specs.declared.clause.Query.{Query}
use Rattle.scasp_law_first_event.specs.Events.{HasEvent, IsReachable, TellsOverflow}
use Rattle.scasp_law_first_event.specs.Solved.{is_solved}

-- the bindings of each such state are in solved form, and so in none a variable is bound to a term in which it stands
abbrev pub NoCircles : Type 0
NoCircles = (p : Problem) (q : Query) (s : State) → is_query_well_formed q ≡ true → IsReachable p q s → is_solved s ≡ true

-- from any such states there is a first event
abbrev pub SearchesFind : Type 0
SearchesFind =
    (p : Problem) (q : Query) (budget calls : ℕ) (states : List State) → is_query_well_formed q ≡ true → calls ≤ budget → Each (IsReachable p q) states
    → HasEvent (search_for p q) budget states calls

-- The states that are left behind a first event come of the start too, and from them there is a first event again.
abbrev pub RunsGoOn : Type 0
RunsGoOn =
    (p : Problem) (q : Query) (budget calls : ℕ) (states : List State) (found : Found State Certificate) → is_query_well_formed q ≡ true → calls ≤ budget
    → Each (IsReachable p q) states → Finds (search_for p q) budget states calls found
    → Each (IsReachable p q) found.rest × HasEvent (search_for p q) budget found.rest found.calls

-- an overflow is allowed where the first event is one, or tells of one, and only there
abbrev pub AllowedIsFirst : Type 0
AllowedIsFirst =
    (p : Problem) (q : Query) (budget calls : ℕ) (states : List State) → is_query_well_formed q ≡ true → calls ≤ budget → Each (IsReachable p q) states
    → Allows (search_for p q) budget states calls ↔ TellsOverflow (search_for p q) budget states calls
