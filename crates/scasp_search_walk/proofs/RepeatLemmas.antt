-- The end, and the end of the budget, come again.
use Rattle.std.specs.Prelude.{◌≡◌, ◌⊎◌, ℕ, ◌+◌, ◌<◌, zero, suc, nat_eq, Bool, true, false, ◌&&◌, ◌||◌, Option, None, Some, List, [], ◌∷◌, ◌++◌, refl}
use Rattle.std.proofs.Common.{ap, arith, inl, inr, subst, sym}
use Rattle.scasp_search_rules.proofs.SuccessorsLemmas.Walks.{finds-one}
use Rattle.scasp_search_rules.specs.Successors.Machine.{Machine, Found, Finds, Outcome, answered, behind, cost, ended, first_event, outcome_of, overflowed, pick, spent}
use Rattle.scasp_search_walk.specs.Repeats.{IsLast, Repeats}
use Rattle.scasp_search_walk.specs.Slices.{Gives, Keeps}
use Rattle.scasp_search_walk.specs.Walks.{Allows, Tells}
use Rattle.scasp_search_walk.specs.declared.events.Advance.{Advance}
use Rattle.scasp_search_walk.specs.declared.events.Advance.TheVariants as advance

-- from the states that are left the event comes at once
abbrev Again : {S V : Type 0} → Machine S V → ℕ → Found S V → Type 0
Again {S} {V} m budget f = first_event m budget 1 f.rest f.calls false ≡ Some (record { event = f.event; calls = f.calls; may = false; rest = f.rest })

not-last : {V : Type 0} (a : Option V) → IsLast (outcome_of a) → ⊥
not-last (Some a) h = h
not-last None h = h

at-state : {S V : Type 0} (m : Machine S V) (budget calls : ℕ) (may : Bool) (s : S) (states : List S) (answer : Option (Option V)) (over : Bool) (later : Option (Found S V)) (f : Found S V)
    → m.answer s ≡ answer → (m.pays s && nat_eq calls budget) ≡ over
    → pick answer over (λ a. record { event = outcome_of a; calls = calls; may = may || m.asks s; rest = behind a s states }) (record { event = spent; calls = calls; may = may; rest = s ∷ states }) later ≡ Some f
    → IsLast f.event → (later ≡ Some f → Again m budget f) → Again m budget f
unfolding first_event
at-state {S} {V} m budget calls may s states (Some a) over later f e o h last go =
    let one : Found S V = record { event = outcome_of a; calls = calls; may = may || m.asks s; rest = behind a s states } in
    let is : one ≡ f = cc h in
    absurd (not-last a (subst (λ g. IsLast g.event) (sym is) last))
at-state {S} {V} m budget calls may s states None true later f e o h last go =
    let one : Found S V = record { event = spent; calls = calls; may = may; rest = s ∷ states } in
    let is : one ≡ f = cc h in
    let here : Again m budget one = rw (e, o) refl in
    subst (λ g. Again m budget g) is here
at-state m budget calls may s states None false later f e o h last go = go h

again : {S V : Type 0} (m : Machine S V) (budget n : ℕ) (states : List S) (calls : ℕ) (may : Bool) (f : Found S V) → first_event m budget n states calls may ≡ Some f → IsLast f.event → Again m budget f
unfolding first_event
again m budget zero states calls may f h last = absurd (cc h)
again {S} {V} m budget (suc n) [] calls may f h last =
    let one : Found S V = record { event = ended; calls = calls; may = may; rest = [] } in
    let is : one ≡ f = cc h in
    let here : Again m budget one = refl in
    subst (λ g. Again m budget g) is here
again m budget (suc n) (s ∷ states) calls may f h last =
    at-state m budget calls may s states (m.answer s) (m.pays s && nat_eq calls budget)
    (first_event m budget n (m.next s ++ states) (calls + cost (m.pays s)) (may || m.asks s)) f refl refl h last
    (λ g. again m budget n (m.next s ++ states) (calls + cost (m.pays s)) (may || m.asks s) f g last)

abbrev last-found : {S V : Type 0} → Outcome V → ℕ → List S → Found S V
last-found last after new = record { event = last; calls = after; may = false; rest = new }

-- no other event comes
no-other : {S V : Type 0} (m : Machine S V) (budget after k : ℕ) (new next : List S) (last other : Outcome V) → Finds m budget new after (last-found last after new)
    → Tells m budget new after other k next → other ≡ last
no-other {S} {V} m budget after k new next last other f t =
    let there : Found S V = record { event = other; calls = k; may = t.0; rest = next } in
    let is : there ≡ last-found last after new = finds-one m budget after new there (last-found last after new) t.1 f in
    ap (λ g. g.event) is

no-overflow : {S V : Type 0} (m : Machine S V) (budget after : ℕ) (new : List S) (last : Outcome V) → IsLast last → Finds m budget new after (last-found last after new) → Allows m budget new after → ⊥
no-overflow m budget after new last is f a = by (a (last-found last after new) f)
  where
    by : (last ≡ overflowed) ⊎ (false ≡ true) → ⊥
    by (inl e) = subst IsLast e is
    by (inr e) = absurd (cc e)

comes-again : {S A V : Type 0} (value : A → V) (m : Machine S V) (budget after n k : ℕ) (new next : List S) (last : Outcome V) (e : Advance A) → IsLast last
    → Finds m budget new after (last-found last after new) → Gives value m budget new after e next k → Keeps m budget new after n e k → Repeats last e
comes-again value m budget after n k new next (answered a) e is f g h = absurd is
comes-again value m budget after n k new next overflowed e is f g h = absurd is
comes-again value m budget after n k new next ended (advance.Answer a) is f g h = absurd (cc (no-other m budget after k new next ended (answered (value a)) f g))
comes-again value m budget after n k new next ended advance.Paused is f g h = let more : after + n < after = h.1 (last-found ended after new) f in absurd (omega (arith, more))
comes-again value m budget after n k new next ended advance.Ended is f g h = tt
comes-again value m budget after n k new next ended advance.Spent is f g h = absurd (cc (no-other m budget after k new next ended spent f g))
comes-again value m budget after n k new next ended advance.Overflow is f g h = no-overflow m budget after new ended is f g
comes-again value m budget after n k new next ended advance.Memory is f g h = tt
comes-again value m budget after n k new next spent (advance.Answer a) is f g h = absurd (cc (no-other m budget after k new next spent (answered (value a)) f g))
comes-again value m budget after n k new next spent advance.Paused is f g h = let more : after + n < after = h.1 (last-found spent after new) f in absurd (omega (arith, more))
comes-again value m budget after n k new next spent advance.Ended is f g h = absurd (cc (no-other m budget after k new next spent ended f g))
comes-again value m budget after n k new next spent advance.Spent is f g h = tt
comes-again value m budget after n k new next spent advance.Overflow is f g h = no-overflow m budget after new spent is f g
comes-again value m budget after n k new next spent advance.Memory is f g h = tt

pub last-again : {S A V : Type 0} (value : A → V) (m : Machine S V) (budget calls after n k : ℕ) (old new next : List S) (last : Outcome V) (e : Advance A) → IsLast last
    → Tells m budget old calls last after new → Gives value m budget new after e next k → Keeps m budget new after n e k → Repeats last e
last-again {S} {A} {V} value m budget calls after n k old new next last e is t g h =
    let found : Found S V = record { event = last; calls = after; may = t.0; rest = new } in
    comes-again value m budget after n k new next last e is (1, again m budget t.1.0 old calls false found t.1.1 is) g h
