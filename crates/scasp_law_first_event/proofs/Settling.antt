-- Where each way of steps that cost nothing comes to an end, a search has a first event, or comes to a state of which X holds.
use Rattle.std.specs.Prelude.{◌≡◌, ◌⊎◌, ℕ, ◌+◌, ◌<◌, ◌≤◌, ◌-◌, zero, suc, nat_eq, Bool, true, false, ◌&&◌, ◌||◌, Option, Some, None, List, [], ◌∷◌, ◌++◌, refl}
use Rattle.std.specs.List.{Contains}
use Rattle.std.proofs.Common.{inl, inr, arith, sym, subst, ap, ◌∙◌}
use Rattle.std.proofs.lemmas.Bool.Decides.{nat_tests}
use Rattle.scasp_list.specs.Each.{Each}
use Rattle.scasp_list.proofs.EachLemmas.{Each-append}
use Rattle.scasp_list.proofs.MemberLemmas.{Contains-here, Contains-there}
use Rattle.scasp_search_rules.specs.Successors.Machine.{Machine, Found, ended, spent, outcome_of, behind, first_event, cost}
use Rattle.scasp_search_walk.specs.Walks.{Reached}
use Rattle.scasp_search_walk.proofs.ReachedLemmas.{reached-none, reached-step, reached-both}
use Rattle.scasp_law_first_event.specs.Events.{HasEvent, ComesTo}

-- From s each way of steps that cost nothing comes to a state that costs something, to one of which X holds, or to its end.
pub data Settles {S A : Type 0} (m : Machine S A) (X : S → Type 0) : S → Type 0 where
  met : (s : S) → X s → Settles m X s
  costs : (s : S) → m.pays s ≡ true → Settles m X s
  goes_on : (s : S) → ((t : S) → Contains (m.next s) t → Settles m X t) → Settles m X s

-- an event within so many steps, whatever was asked before
abbrev pub Event : {S A : Type 0} → Machine S A → ℕ → List S → ℕ → Type 0
Event {S} {A} m budget states calls = (n : ℕ) × ((before : Bool) → (found : Found S A) × (first_event m budget n states calls before ≡ Some found))

abbrev pub Ends : {S A : Type 0} → Machine S A → (S → Type 0) → ℕ → List S → ℕ → Type 0
Ends m X budget states calls = Event m budget states calls ⊎ ComesTo X m budget states calls

pub has-event : {S A : Type 0} (m : Machine S A) (budget : ℕ) (states : List S) (calls : ℕ) → Event m budget states calls → HasEvent m budget states calls
has-event m budget states calls e = let f = e.1 false in (f.0, (e.0, f.1))

-- ---- one state

reached-ends : {S A : Type 0} (m : Machine S A) (X : S → Type 0) (budget : ℕ) (old new : List S) (calls after : ℕ) → Reached m budget old calls new after
    → Ends m X budget new after → Ends m X budget old calls
reached-ends m X budget old new calls after r (inl e) =
    inl (r.steps + e.0, λ before. let f = e.1 (before || r.may) in (f.0, r.same e.0 before ∙ f.1))
reached-ends m X budget old new calls after r (inr c) =
    inr (record { state = c.state; rest = c.rest; after = c.after; reached = reached-both m budget calls after c.after old new (c.state ∷ c.rest) r c.reached; is = c.is })

at-answer : {S A : Type 0} (m : Machine S A) (budget : ℕ) (s : S) (ss : List S) (calls : ℕ) (a : Option A) → m.answer s ≡ Some a → Event m budget (s ∷ ss) calls
unfolding first_event
at-answer m budget s ss calls a e =
    (1, λ before. (record { event = outcome_of a; calls = calls; may = before || m.asks s; rest = behind a s ss }, rw e refl))

at-spent : {S A : Type 0} (m : Machine S A) (budget : ℕ) (s : S) (ss : List S) (calls : ℕ) → m.answer s ≡ None → (m.pays s && nat_eq calls budget) ≡ true
    → Event m budget (s ∷ ss) calls
unfolding first_event
at-spent m budget s ss calls none over = (1, λ before. (record { event = spent; calls = calls; may = before; rest = s ∷ ss }, rw (none, over) refl))

at-end : {S A : Type 0} (m : Machine S A) (budget : ℕ) (calls : ℕ) → Event m budget [] calls
unfolding first_event
at-end m budget calls = (1, λ before. (record { event = ended; calls = calls; may = before; rest = [] }, refl))

-- ---- all states

module _ {S A : Type 0} (m : Machine S A) (X P : S → Type 0) (keeps : (s : S) → P s → X s ⊎ Each P (m.next s)) (settles : (s : S) → P s → Settles m X s) (budget : ℕ) where
  -- the states have an end where one call more is spent
  abbrev Later : ℕ → Type 0
  Later calls = (ss : List S) → Each P ss → Ends m X budget ss (calls + 1)

  stepped : (s : S) (ss : List S) (calls : ℕ) → m.answer s ≡ None → (m.pays s && nat_eq calls budget) ≡ false
      → Reached m budget (s ∷ ss) calls (m.next s ++ ss) (calls + cost (m.pays s))
  stepped s ss calls none room = reached-step m budget calls calls s (s ∷ ss) ss (reached-none m budget calls (s ∷ ss)) none room

  -- by what the first state is
  decide : (s : S) (ss : List S) (calls : ℕ) → calls ≤ budget → Each P (m.next s) → Each P ss → (calls < budget → Later calls)
      → (m.pays s ≡ false → Ends m X budget (m.next s ++ ss) calls) → Ends m X budget (s ∷ ss) calls
  decide s ss calls l h hs later free = by (m.answer s) refl (m.pays s) refl (nat_eq calls budget) refl
    where
      by : (o : Option (Option A)) → m.answer s ≡ o → (b : Bool) → m.pays s ≡ b → (c : Bool) → nat_eq calls budget ≡ c → Ends m X budget (s ∷ ss) calls
      by (Some a) e b f c g = inl (at-answer m budget s ss calls a e)
      by None e true f true g = inl (at-spent m budget s ss calls e (rw (f, g) refl))
      by None e true f false g =
          let r = stepped s ss calls e (rw (f, g) refl) in
          let one : calls + cost (m.pays s) ≡ calls + 1 = ap (λ x. calls + cost x) f in
          let less : calls < budget = grind (arith, nat_tests, l, g) in
          let more : Ends m X budget (m.next s ++ ss) (calls + 1) = later less (m.next s ++ ss) (Each-append P (m.next s) ss h hs) in
          reached-ends m X budget (s ∷ ss) (m.next s ++ ss) calls (calls + cost (m.pays s)) r (subst (Ends m X budget (m.next s ++ ss)) (sym one) more)
      by None e false f c g =
          let r = stepped s ss calls e (rw f refl) in
          let zero_more : calls + 0 ≡ calls = omega arith in
          let same : calls + cost (m.pays s) ≡ calls = ap (λ x. calls + cost x) f ∙ zero_more in
          reached-ends m X budget (s ∷ ss) (m.next s ++ ss) calls (calls + cost (m.pays s)) r (subst (Ends m X budget (m.next s ++ ss)) (sym same) (free f))

  -- one behind the other
  in-order : (calls : ℕ) (ts : List S) → ((t : S) → Contains ts t → P t → (ss : List S) → Each P ss → Ends m X budget ss calls → Ends m X budget (t ∷ ss) calls)
      → Each P ts → (ss : List S) → Each P ss → Ends m X budget ss calls → Ends m X budget (ts ++ ss) calls
  in-order calls [] f h ss hs e = e
  in-order calls (t ∷ ts) f h ss hs e =
      f t (Contains-here t ts) h.0 (ts ++ ss) (Each-append P ts ss h.1 hs)
      (in-order calls ts (λ u i. f u (Contains-there t ts u i)) h.1 ss hs e)

  -- X holds of the first state, or P of those after it
  kept : (calls : ℕ) (s : S) (ss : List S) → (Each P (m.next s) → Ends m X budget (s ∷ ss) calls) → X s ⊎ Each P (m.next s) → Ends m X budget (s ∷ ss) calls
  kept calls s ss f (inl x) = inr (record { state = s; rest = ss; after = calls; reached = reached-none m budget calls (s ∷ ss); is = x })
  kept calls s ss f (inr k) = f k

  first : (calls : ℕ) → calls ≤ budget → (calls < budget → Later calls) → (s : S) → Settles m X s → P s
      → (ss : List S) → Each P ss → Ends m X budget ss calls → Ends m X budget (s ∷ ss) calls
  first calls l later _ (met s x) h ss hs e =
      inr (record { state = s; rest = ss; after = calls; reached = reached-none m budget calls (s ∷ ss); is = x })
  first calls l later _ (costs s c) h ss hs e =
      kept calls s ss (λ k. decide s ss calls l k hs later (λ f. absurd (let wrong : true ≡ false = sym c ∙ f in cc))) (keeps s h)
  first calls l later _ (goes_on s f) h ss hs e =
      kept calls s ss (λ k. decide s ss calls l k hs later (λ _. in-order calls (m.next s) (λ t i. first calls l later t (f t i)) k ss hs e)) (keeps s h)

  stack : (calls : ℕ) → calls ≤ budget → (calls < budget → Later calls) → (ss : List S) → Each P ss → Ends m X budget ss calls
  stack calls l later [] hs = inl (at-end m budget calls)
  stack calls l later (s ∷ ss) hs = first calls l later s (settles s hs.0) hs.0 ss hs.1 (stack calls l later ss hs.1)

  within : (left calls : ℕ) → calls + left ≡ budget → (ss : List S) → Each P ss → Ends m X budget ss calls
  within zero calls e = stack calls (omega (arith, e)) (λ l. absurd (let none : calls ≡ budget = omega (arith, e) in omega (arith, l, none)))
  within (suc left) calls e = stack calls (omega (arith, e)) (λ l. within left (calls + 1) (omega (arith, e)))

  pub finds : (calls : ℕ) → calls ≤ budget → (ss : List S) → Each P ss → HasEvent m budget ss calls ⊎ ComesTo X m budget ss calls
  finds calls l ss hs = by (within (budget - calls) calls (omega (arith, l)) ss hs)
    where
      by : Ends m X budget ss calls → HasEvent m budget ss calls ⊎ ComesTo X m budget ss calls
      by (inl e) = inl (has-event m budget ss calls e)
      by (inr c) = inr c
