-- What is told, or allowed, from states that a walk has reached is so from those where it began.
use Rattle.std.specs.Prelude.{◌≡◌, ◌⊎◌, ℕ, ◌+◌, zero, suc, nat_eq, Bool, true, false, ◌&&◌, ◌||◌, Option, Some, None, List, [], ◌∷◌, ◌++◌, option_map, refl}
use Rattle.std.proofs.Common.{inl, inr, sym, ap, ◌∙◌}
use Rattle.scasp_search_rules.specs.Successors.Machine.{Machine, Found, Finds, Outcome, spent, overflowed, outcome_of, behind, first_event, pick, cost}
use Rattle.scasp_search_walk.proofs.ReachedLemmas.{found-there, or-assoc, or-false, or-true}
use Rattle.scasp_search_walk.specs.Walks.{Allows, Reached, Tells}

-- what was asked before is told too
abbrev with_may : {S A : Type 0} → Bool → Found S A → Found S A
with_may may f = record { event = f.event; calls = f.calls; may = may || f.may; rest = f.rest }

may-added : {S A : Type 0} (answer : Option (Option A)) (over : Bool) (at_answer more_at_answer : Option A → Found S A) (at_end more_at_end : Found S A) (later more_later : Option (Found S A)) (may : Bool)
    → ((a : Option A) → more_at_answer a ≡ with_may may (at_answer a)) → more_at_end ≡ with_may may at_end → more_later ≡ option_map (with_may may) later
    → pick answer over more_at_answer more_at_end more_later ≡ option_map (with_may may) (pick answer over at_answer at_end later)
may-added (Some a) over at_answer more_at_answer at_end more_at_end later more_later may f g h = ap Some (f a)
may-added None true at_answer more_at_answer at_end more_at_end later more_later may f g h = ap Some g
may-added None false at_answer more_at_answer at_end more_at_end later more_later may f g h = h

pub event-later : {S A : Type 0} (m : Machine S A) (budget n : ℕ) (states : List S) (calls : ℕ) (may more : Bool)
    → first_event m budget n states calls (may || more) ≡ option_map (with_may may) (first_event m budget n states calls more)
unfolding first_event
event-later m budget zero states calls may more = refl
event-later m budget (suc n) [] calls may more = refl
event-later {S} {A} m budget (suc n) (s ∷ states) calls may more =
    may-added (m.answer s) (m.pays s && nat_eq calls budget)
    (λ a. record { event = outcome_of a; calls = calls; may = more || m.asks s; rest = behind a s states })
    (λ a. record { event = outcome_of a; calls = calls; may = (may || more) || m.asks s; rest = behind a s states })
    (record { event = spent; calls = calls; may = more; rest = s ∷ states })
    (record { event = spent; calls = calls; may = may || more; rest = s ∷ states })
    (first_event m budget n (m.next s ++ states) (calls + cost (m.pays s)) (more || m.asks s))
    (first_event m budget n (m.next s ++ states) (calls + cost (m.pays s)) ((may || more) || m.asks s))
    may (λ a. ap (at a) (or-assoc may more (m.asks s))) refl
    (ap (first_event m budget n (m.next s ++ states) (calls + cost (m.pays s))) (or-assoc may more (m.asks s))
    ∙ event-later m budget n (m.next s ++ states) (calls + cost (m.pays s)) may (more || m.asks s))
  where
    at : Option A → Bool → Found S A
    at a b = record { event = outcome_of a; calls = calls; may = b; rest = behind a s states }

-- from the states that were reached, without and with what was asked on the way
there : {S A : Type 0} (m : Machine S A) (budget n after : ℕ) (new : List S) (may : Bool)
    → first_event m budget n new after may ≡ option_map (with_may may) (first_event m budget n new after false)
there m budget n after new may = ap (first_event m budget n new after) (or-false may) ∙ event-later m budget n new after may false

pub tells-later : {S A : Type 0} (m : Machine S A) (budget calls middle after : ℕ) (old between rest : List S) (event : Outcome A)
    → Reached m budget old calls between middle → Tells m budget between middle event after rest → Tells m budget old calls event after rest
tells-later m budget calls middle after old between rest event r t =
    (r.may || t.0, (r.steps + t.1.0, r.same t.1.0 false ∙ there m budget t.1.0 middle between r.may ∙ ap (option_map (with_may r.may)) t.1.1))

found-before : {S A : Type 0} (may : Bool) (o : Option (Found S A)) (found : Found S A) → option_map (with_may may) o ≡ Some found
    → (f : Found S A) × (o ≡ Some f) × (with_may may f ≡ found)
found-before may None found e = absurd (cc e)
found-before may (Some f) found e = (f, refl, let same : with_may may f ≡ found = cc e in same)

-- the first event, from the states that were reached, with the same calls
found-between : {S A : Type 0} (m : Machine S A) (budget calls middle : ℕ) (old between : List S) (found : Found S A) (r : Reached m budget old calls between middle)
    → (f : Finds m budget old calls found)
    → (g : Found S A) × (first_event m budget (f.0 + 1) between middle false ≡ Some g) × (with_may r.may g ≡ found)
found-between m budget calls middle old between found r f =
    found-before r.may (first_event m budget (f.0 + 1) between middle false) found
    (sym (there m budget (f.0 + 1) middle between r.may) ∙ found-there m budget calls middle old between found r f)

pub allows-later : {S A : Type 0} (m : Machine S A) (budget calls middle : ℕ) (old between : List S)
    → Reached m budget old calls between middle → Allows m budget between middle → Allows m budget old calls
allows-later {S} {A} m budget calls middle old between r allows found f = by (allows g.0 (f.0 + 1, g.1))
  where
    g : (h : Found S A) × (first_event m budget (f.0 + 1) between middle false ≡ Some h) × (with_may r.may h ≡ found)
    g = found-between m budget calls middle old between found r f

    by : (g.0.event ≡ overflowed) ⊎ (g.0.may ≡ true) → (found.event ≡ overflowed) ⊎ (found.may ≡ true)
    by (inl h) = inl (sym (ap (λ k. k.event) g.2) ∙ h)
    by (inr h) = inr (sym (ap (λ k. k.may) g.2) ∙ ap (λ b. r.may || b) h ∙ or-true r.may)

-- the first event behind a part of a walk has the calls of the first event of all
pub found-later : {S A : Type 0} (m : Machine S A) (budget calls middle : ℕ) (old between : List S) (found : Found S A)
    → Reached m budget old calls between middle → Finds m budget old calls found → (g : Found S A) × Finds m budget between middle g × (g.calls ≡ found.calls)
found-later m budget calls middle old between found r f =
    let g = found-between m budget calls middle old between found r f in
    (g.0, (f.0 + 1, g.1), ap (λ k. k.calls) g.2)
