-- The first event of a walk, by what the first state is; that it is one; and what it costs.
use Rattle.std.specs.Prelude.{◌≡◌, ℕ, ◌+◌, ◌<◌, ◌≤◌, zero, suc, nat_eq, Bool, true, false, ◌&&◌, ◌||◌, Option, Some, None, List, [], ◌∷◌, ◌++◌, refl}
use Rattle.std.proofs.Common.{arith, subst}
use Rattle.std.proofs.lemmas.Bool.Decides.{nat_tests}
use Rattle.scasp_search_rules.specs.Successors.Machine.{Machine, Found, ended, spent, outcome_of, behind, first_event, pick, cost, Finds, IsWithin}

-- whichever of the three applies, it decides
picked : {S A : Type 0} (answer : Option (Option A)) (over : Bool) (at_answer : Option A → Found S A) (at_end : Found S A) (x y : Option (Found S A)) (one other : Found S A)
    → pick answer over at_answer at_end x ≡ Some one → pick answer over at_answer at_end y ≡ Some other
    → (x ≡ Some one → y ≡ Some other → one ≡ other) → one ≡ other
picked (Some a) over at_answer at_end x y one other h g later = cc
picked None true at_answer at_end x y one other h g later = cc
picked None false at_answer at_end x y one other h g later = later h g

-- however many steps are allowed, the first event is one
one-event : {S A : Type 0} (m : Machine S A) (budget n k : ℕ) (states : List S) (calls : ℕ) (may : Bool) (one other : Found S A)
    → first_event m budget n states calls may ≡ Some one → first_event m budget k states calls may ≡ Some other → one ≡ other
unfolding first_event
one-event m budget zero k states calls may one other h g = cc
one-event m budget (suc n) zero states calls may one other h g = cc
one-event m budget (suc n) (suc k) [] calls may one other h g = cc
one-event m budget (suc n) (suc k) (s ∷ states) calls may one other h g =
    picked (m.answer s) (m.pays s && nat_eq calls budget) _ _ _ _ one other h g
    (one-event m budget n k (m.next s ++ states) (calls + cost (m.pays s)) (may || m.asks s) one other)

pub finds-one : {S A : Type 0} (m : Machine S A) (budget calls : ℕ) (states : List S) (one other : Found S A)
    → Finds m budget states calls one → Finds m budget states calls other → one ≡ other
finds-one m budget calls states one other h g = one-event m budget h.0 g.0 states calls false one other h.1 g.1

-- ---- the budget

at-answer : {S A : Type 0} (a : Option A) (budget calls : ℕ) (may : Bool) (rest : List S) → calls ≤ budget
    → IsWithin {S = S} {A = A} budget (record { event = outcome_of a; calls = calls; may = may; rest = rest })
at-answer (Some a) budget calls may rest p = record { calls = p; all = λ e. absurd (cc e) }
at-answer None budget calls may rest p = record { calls = p; all = λ e. absurd (cc e) }

-- what is found at the first of three that applies is within the budget
within : {S A : Type 0} (answer : Option (Option A)) (pays over : Bool) (budget calls : ℕ) (may now : Bool) (left : Option A → List S) (here : List S) (later : Option (Found S A)) (found : Found S A)
    → calls ≤ budget → nat_eq calls budget ≡ over
    → pick answer (pays && over) (λ a. record { event = outcome_of a; calls = calls; may = may; rest = left a })
    (record { event = spent; calls = calls; may = now; rest = here }) later ≡ Some found
    → ((calls + cost pays) ≤ budget → later ≡ Some found → IsWithin budget found) → IsWithin budget found
within (Some a) pays over budget calls may now left here later found p q h next =
    let e : record { event = outcome_of a; calls = calls; may = may; rest = left a } ≡ found = cc h in
    subst (IsWithin budget) e (at-answer a budget calls may (left a) p)
within None true true budget calls may now left here later found p q h next =
    let e : record { event = spent; calls = calls; may = now; rest = here } ≡ found = cc h in
    let r : calls ≡ budget = grind (arith, nat_tests, q) in
    subst (IsWithin budget) e (record { calls = p; all = λ _. r })
within None true false budget calls may now left here later found p q h next =
    let r : calls < budget = grind (arith, nat_tests, p, q) in
    next (omega (arith, r)) h
within None false over budget calls may now left here later found p q h next = next (omega (arith, p)) h

pub first-within : {S A : Type 0} (m : Machine S A) (budget n : ℕ) (states : List S) (calls : ℕ) (may : Bool) (found : Found S A) → calls ≤ budget
    → first_event m budget n states calls may ≡ Some found → IsWithin budget found
unfolding first_event
first-within m budget zero states calls may found p h = absurd (cc h)
first-within {S = S} {A = A} m budget (suc n) [] calls may found p h =
    let one : Found S A = record { event = ended; calls = calls; may = may; rest = [] } in
    let e : one ≡ found = cc h in
    subst (IsWithin budget) e (record { calls = p; all = λ e. absurd (cc e) })
first-within m budget (suc n) (s ∷ states) calls may found p h =
    within (m.answer s) (m.pays s) (nat_eq calls budget) budget calls (may || m.asks s) may (λ a. behind a s states) (s ∷ states)
    (first_event m budget n (m.next s ++ states) (calls + cost (m.pays s)) (may || m.asks s)) found p refl h
    (λ q g. first-within m budget n (m.next s ++ states) (calls + cost (m.pays s)) (may || m.asks s) found q g)

pub finds-within : {S A : Type 0} (m : Machine S A) (budget calls : ℕ) (states : List S) (found : Found S A) → calls ≤ budget
    → Finds m budget states calls found → IsWithin budget found
finds-within m budget calls states found p f = first-within m budget f.0 states calls false found p f.1
