-- What is left behind a first event comes of the same start.
use Rattle.std.specs.Prelude.{◌≡◌, ℕ, ◌+◌, ◌≤◌, zero, suc, nat_eq, Bool, true, false, ◌&&◌, ◌||◌, Option, Some, None, List, [], ◌∷◌, ◌++◌}
use Rattle.std.proofs.Common.{subst}
use Rattle.scasp_cert.specs.Certificate.{Certificate}
use Rattle.scasp_list.specs.Each.{Each}
use Rattle.scasp_list.proofs.EachLemmas.{Each-append}
use Rattle.scasp_search_rules.specs.declared.states.state.State.{State}
use Rattle.scasp_search_rules.specs.Successors.Machine.{Machine, Found, Finds, ended, spent, outcome_of, behind, first_event, pick, cost}
use Rattle.scasp_search_rules.specs.Successors.Problems.{Problem}
use Rattle.scasp_search_rules.specs.Successors.Search.{search_for}
use Rattle.scasp_search_rules.proofs.SuccessorsLemmas.Walks.{finds-within}
use Rattle.scasp_syntax.specs.WellFormed.{is_query_well_formed}
use Rattle.scasp_syntax.specs.declared.clause.Query.{Query}
use Rattle.scasp_unify.proofs.Members.{Each-from}
use Rattle.scasp_law_first_event.specs.Events.{HasEvent, after, IsReachable}
use Rattle.scasp_law_no_circle.proofs.Reaching.{event-comes}

-- whichever of the three applies
left-behind : {S A : Type 0} (X : S → Type 0) (answer : Option (Option A)) (over : Bool) (calls : ℕ) (may now : Bool) (s : S) (states : List S) (later : Option (Found S A)) (found : Found S A)
    → pick answer over (λ a. record { event = outcome_of a; calls = calls; may = now; rest = behind a s states }) (record { event = spent; calls = calls; may = may; rest = s ∷ states }) later ≡ Some found
    → X s → Each X states → (later ≡ Some found → Each X found.rest) → Each X found.rest
left-behind {S} {A} X (Some (Some a)) over calls may now s states later found h x xs next =
    let e : record { event = outcome_of (Some a); calls = calls; may = now; rest = states } ≡ found = cc h in subst (λ (f : Found S A). Each X f.rest) e xs
left-behind {S} {A} X (Some None) over calls may now s states later found h x xs next =
    let e : record { event = outcome_of None; calls = calls; may = now; rest = s ∷ states } ≡ found = cc h in subst (λ (f : Found S A). Each X f.rest) e (x, xs)
left-behind {S} {A} X None true calls may now s states later found h x xs next =
    let e : record { event = spent; calls = calls; may = may; rest = s ∷ states } ≡ found = cc h in subst (λ (f : Found S A). Each X f.rest) e (x, xs)
left-behind X None false calls may now s states later found h x xs next = next h

first-behind : {S A : Type 0} (m : Machine S A) (X : S → Type 0) → ((s : S) → X s → Each X (m.next s)) → (budget n : ℕ) (states : List S) (calls : ℕ) (may : Bool) (found : Found S A) → Each X states
    → first_event m budget n states calls may ≡ Some found → Each X found.rest
unfolding first_event
first-behind m X f budget zero states calls may found k h = absurd (cc h)
first-behind {S} {A} m X f budget (suc n) [] calls may found k h =
    let e : record { event = ended; calls = calls; may = may; rest = [] } ≡ found = cc h in subst (λ (g : Found S A). Each X g.rest) e tt
first-behind m X f budget (suc n) (s ∷ states) calls may found k h =
    left-behind X (m.answer s) (m.pays s && nat_eq calls budget) calls may (may || m.asks s) s states (first_event m budget n (m.next s ++ states) (calls + cost (m.pays s)) (may || m.asks s)) found h k.0 k.1
    (λ g. first-behind m X f budget n (m.next s ++ states) (calls + cost (m.pays s)) (may || m.asks s) found (Each-append X (m.next s) states (f s k.0) k.1) g)

pub goes-on : (p : Problem) (q : Query) (budget calls : ℕ) (states : List State) (found : Found State Certificate) → is_query_well_formed q ≡ true → calls ≤ budget → Each (IsReachable p q) states
    → Finds (search_for p q) budget states calls found → Each (IsReachable p q) found.rest × HasEvent (search_for p q) budget found.rest found.calls
goes-on p q budget calls states found fits l h f = (left, event-comes p q fits budget found.calls found.rest (finds-within (search_for p q) budget calls states found l f).calls left)
  where
    left : Each (IsReachable p q) found.rest
    left =
        first-behind (search_for p q) (IsReachable p q) (λ s k. Each-from (IsReachable p q) ((search_for p q).next s) (λ r i. after s r k i)) budget f.0 states calls false found h f.1
