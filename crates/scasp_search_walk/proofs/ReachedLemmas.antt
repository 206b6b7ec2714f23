-- Parts of walks, one behind the other.
use Rattle.std.specs.Prelude.{◌≡◌, ℕ, ◌+◌, zero, suc, nat_eq, Bool, true, false, ◌&&◌, ◌||◌, Option, Some, None, List, [], ◌∷◌, ◌++◌, refl}
use Rattle.std.proofs.Common.{inl, inr, arith, sym, ap, ◌∙◌}
use Rattle.scasp_search_rules.specs.Successors.Machine.{Machine, Found, Finds, Outcome, answered, ended, spent, overflowed, outcome_of, behind, first_event, pick, cost}
use Rattle.scasp_search_walk.specs.Walks.{Allows, Reached, Tells}

pub or-assoc : (a b c : Bool) → ((a || b) || c) ≡ (a || (b || c))
or-assoc true b c = refl
or-assoc false b c = refl

pub or-true : (a : Bool) → (a || true) ≡ true
or-true true = refl
or-true false = refl

one-more : (n k : ℕ) → (n + 1) + k ≡ n + suc k
one-more n k = omega arith

-- a state that is no answer, and for whose cost there is room
pub step : {S A : Type 0} (m : Machine S A) (budget n calls : ℕ) (s : S) (states : List S) (may : Bool) → m.answer s ≡ None
    → (m.pays s && nat_eq calls budget) ≡ false
    → first_event m budget (suc n) (s ∷ states) calls may ≡ first_event m budget n (m.next s ++ states) (calls + cost (m.pays s)) (may || m.asks s)
unfolding first_event
step m budget n calls s states may none room = rw (none, room) refl

pub reached-none : {S A : Type 0} (m : Machine S A) (budget calls : ℕ) (states : List S) → Reached m budget states calls states calls
reached-none m budget calls states = record { steps = 0; may = false; same = λ n before. let e : 0 + n ≡ n = omega arith in rw e (by before n) }
  where
    by : (before : Bool) (n : ℕ) → first_event m budget n states calls before ≡ first_event m budget n states calls (before || false)
    by true n = refl
    by false n = refl

pub reached-step : {S A : Type 0} (m : Machine S A) (budget calls after : ℕ) (s : S) (old new : List S)
    → Reached m budget old calls (s ∷ new) after → m.answer s ≡ None → (m.pays s && nat_eq after budget) ≡ false
    → Reached m budget old calls (m.next s ++ new) (after + cost (m.pays s))
reached-step m budget calls after s old new r none room = record {
  steps = r.steps + 1;
  may = r.may || m.asks s;
  same = λ n before.
      ap (λ k. first_event m budget k old calls before) (one-more r.steps n)
      ∙ r.same (suc n) before ∙ step m budget n after s new (before || r.may) none room
      ∙ ap (first_event m budget n (m.next s ++ new) (after + cost (m.pays s))) (or-assoc before r.may (m.asks s));
}

-- one part behind another
pub reached-both : {S A : Type 0} (m : Machine S A) (budget calls middle after : ℕ) (old between new : List S)
    → Reached m budget old calls between middle → Reached m budget between middle new after → Reached m budget old calls new after
reached-both m budget calls middle after old between new r t = record {
  steps = r.steps + t.steps;
  may = r.may || t.may;
  same = λ n before.
      let e : (r.steps + t.steps) + n ≡ r.steps + (t.steps + n) = omega arith in
      ap (λ k. first_event m budget k old calls before) e
      ∙ r.same (t.steps + n) before ∙ t.same n (before || r.may) ∙ ap (first_event m budget n new after) (or-assoc before r.may t.may);
}

-- ---- events

tells : {S A : Type 0} (m : Machine S A) (budget calls after : ℕ) (old new rest : List S) (event : Outcome A) (may : Bool)
    → (r : Reached m budget old calls new after) → ((b : Bool) → first_event m budget 1 new after b ≡ Some (record { event = event; calls = after; may = b || may; rest = rest }))
    → Tells m budget old calls event after rest
tells m budget calls after old new rest event may r h = (r.may || may, (r.steps + 1, r.same 1 false ∙ h r.may))

pub tells-answer : {S A : Type 0} (m : Machine S A) (budget calls after : ℕ) (s : S) (old rest : List S) (a : A)
    → Reached m budget old calls (s ∷ rest) after → m.answer s ≡ Some (Some a) → Tells m budget old calls (answered a) after rest
unfolding first_event
tells-answer m budget calls after s old rest a r h = tells m budget calls after old (s ∷ rest) rest (answered a) (m.asks s) r (λ b. rw h refl)

pub or-false : (a : Bool) → a ≡ (a || false)
or-false true = refl
or-false false = refl

abbrev at-end : {S A : Type 0} → Outcome A → ℕ → List S → Bool → Option (Found S A)
at-end event after rest may = Some (record { event = event; calls = after; may = may; rest = rest })

pub tells-end : {S A : Type 0} (m : Machine S A) (budget calls after : ℕ) (old : List S)
    → Reached m budget old calls [] after → Tells m budget old calls ended after []
unfolding first_event
tells-end m budget calls after old r = tells m budget calls after old [] [] ended false r (λ b. ap (at-end ended after []) (or-false b))

pub tells-spent : {S A : Type 0} (m : Machine S A) (budget calls after : ℕ) (s : S) (old rest : List S)
    → Reached m budget old calls (s ∷ rest) after → m.answer s ≡ None → (m.pays s && nat_eq after budget) ≡ true
    → Tells m budget old calls spent after (s ∷ rest)
unfolding first_event
tells-spent m budget calls after s old rest r none over =
    tells m budget calls after old (s ∷ rest) (s ∷ rest) spent false r (λ b. rw (none, over) (ap (at-end spent after (s ∷ rest)) (or-false b)))

-- ---- overflows

-- more steps find the same event
more-picked : {S A : Type 0} (answer : Option (Option A)) (over : Bool) (at_answer : Option A → Found S A) (at_end : Found S A) (x y : Option (Found S A)) (f : Found S A)
    → pick answer over at_answer at_end x ≡ Some f → (x ≡ Some f → y ≡ Some f) → pick answer over at_answer at_end y ≡ Some f
more-picked (Some a) over at_answer at_end x y f h g = h
more-picked None true at_answer at_end x y f h g = h
more-picked None false at_answer at_end x y f h g = g h

suc-plus : (n k : ℕ) → suc n + k ≡ suc (n + k)
suc-plus n k = omega arith

more-steps : {S A : Type 0} (m : Machine S A) (budget n k : ℕ) (states : List S) (calls : ℕ) (may : Bool) (f : Found S A)
    → first_event m budget n states calls may ≡ Some f → first_event m budget (n + k) states calls may ≡ Some f
unfolding first_event
more-steps m budget zero k states calls may f h = absurd (cc h)
more-steps m budget (suc n) k [] calls may f h = rw (suc-plus n k) h
more-steps m budget (suc n) k (s ∷ states) calls may f h =
    rw (suc-plus n k)
    (more-picked (m.answer s) (m.pays s && nat_eq calls budget) _ _ _ _ f h
    (more-steps m budget n k (m.next s ++ states) (calls + cost (m.pays s)) (may || m.asks s) f))

-- what was asked once is told
may-picked : {S A : Type 0} (answer : Option (Option A)) (over : Bool) (at_answer : Option A → Found S A) (at_end : Found S A) (x : Option (Found S A)) (f : Found S A)
    → pick answer over at_answer at_end x ≡ Some f → ((a : Option A) → (at_answer a).may ≡ true) → at_end.may ≡ true → (x ≡ Some f → f.may ≡ true) → f.may ≡ true
may-picked (Some a) over at_answer at_end x f h g e l = let i : at_answer a ≡ f = cc h in rw (← i) (g a)
may-picked None true at_answer at_end x f h g e l = let i : at_end ≡ f = cc h in rw (← i) e
may-picked None false at_answer at_end x f h g e l = l h

may-kept : {S A : Type 0} (m : Machine S A) (budget n : ℕ) (states : List S) (calls : ℕ) (f : Found S A)
    → first_event m budget n states calls true ≡ Some f → f.may ≡ true
unfolding first_event
may-kept m budget zero states calls f h = absurd (cc h)
may-kept {S} {A} m budget (suc n) [] calls f h =
    let one : Found S A = record { event = ended; calls = calls; may = true; rest = [] } in
    let i : one ≡ f = cc h in rw (← i) refl
may-kept m budget (suc n) (s ∷ states) calls f h =
    may-picked (m.answer s) (m.pays s && nat_eq calls budget) _ _ _ f h (λ a. refl) refl
    (may-kept m budget n (m.next s ++ states) (calls + cost (m.pays s)) f)

-- the first event from the states that were reached
pub found-there : {S A : Type 0} (m : Machine S A) (budget calls after : ℕ) (old new : List S) (found : Found S A) (r : Reached m budget old calls new after)
    → (f : Finds m budget old calls found) → first_event m budget (f.0 + 1) new after (false || r.may) ≡ Some found
found-there m budget calls after old new found r f =
    let e : r.steps + (f.0 + 1) ≡ f.0 + (r.steps + 1) = omega arith in
    sym (r.same (f.0 + 1) false) ∙ ap (λ n. first_event m budget n old calls false) e ∙ more-steps m budget f.0 (r.steps + 1) old calls false found f.1

at-state : {S A : Type 0} (answer : Option (Option A)) (over may asks : Bool) (calls : ℕ) (s : S) (states : List S) (later : Option (Found S A)) (found : Found S A) → asks ≡ true
    → pick answer over (λ a. record { event = outcome_of a; calls = calls; may = may || asks; rest = behind a s states })
    (record { event = spent; calls = calls; may = may; rest = s ∷ states }) later ≡ Some found
    → over ≡ false → (later ≡ Some found → found.may ≡ true) → found.may ≡ true
at-state {S} {A} (Some a) over may asks calls s states later found e h room l =
    let one : Found S A = record { event = outcome_of a; calls = calls; may = may || asks; rest = behind a s states } in
    let i : one ≡ found = cc h in rw (← i) (rw e (or-true may))
at-state None true may asks calls s states later found e h room l = absurd (cc room)
at-state None false may asks calls s states later found e h room l = l h

one-up : (n : ℕ) → n + 1 ≡ suc n
one-up n = omega arith

asked-next : {S A : Type 0} (m : Machine S A) (budget n calls : ℕ) (s : S) (states : List S) (may : Bool) (found : Found S A)
    → (m.pays s && nat_eq calls budget) ≡ false → m.asks s ≡ true → first_event m budget (suc n) (s ∷ states) calls may ≡ Some found → found.may ≡ true
unfolding first_event
asked-next m budget n calls s states may found room asks h =
    at-state (m.answer s) (m.pays s && nat_eq calls budget) may (m.asks s) calls s states
    (first_event m budget n (m.next s ++ states) (calls + cost (m.pays s)) (may || m.asks s)) found asks h room
    (λ g. may-kept m budget n (m.next s ++ states) (calls + cost (m.pays s)) found (rw (asks, or-true may) at g))

sample-next : {S A : Type 0} (m : Machine S A) (budget n calls : ℕ) (s : S) (states : List S) (may : Bool) (found : Found S A)
    → m.answer s ≡ Some None → first_event m budget (suc n) (s ∷ states) calls may ≡ Some found → found.event ≡ overflowed
unfolding first_event
sample-next {S} {A} m budget n calls s states may found none h =
    let one : Found S A = record { event = overflowed; calls = calls; may = may || m.asks s; rest = s ∷ states } in
    let i : one ≡ found = cc (rw none at h) in rw (← i) refl

-- a state that asks a list that overflows
pub allows-asked : {S A : Type 0} (m : Machine S A) (budget calls after : ℕ) (s : S) (old rest : List S)
    → Reached m budget old calls (s ∷ rest) after → (m.pays s && nat_eq after budget) ≡ false → m.asks s ≡ true → Allows m budget old calls
allows-asked m budget calls after s old rest r room asks found f =
    inr (asked-next m budget f.0 after s rest (false || r.may) found room asks (rw (← one-up f.0) (found-there m budget calls after old (s ∷ rest) found r f)))

-- an answer whose sample overflows
pub allows-sample : {S A : Type 0} (m : Machine S A) (budget calls after : ℕ) (s : S) (old rest : List S)
    → Reached m budget old calls (s ∷ rest) after → m.answer s ≡ Some None → Allows m budget old calls
allows-sample m budget calls after s old rest r none found f =
    inl (sample-next m budget f.0 after s rest (false || r.may) found none (rw (← one-up f.0) (found-there m budget calls after old (s ∷ rest) found r f)))
