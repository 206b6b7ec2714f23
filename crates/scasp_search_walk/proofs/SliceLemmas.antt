-- Slices of a walk.
use Rattle.std.specs.Prelude.{◌≡◌, ◌≢◌, ℕ, ◌+◌, ◌<◌, ◌≤◌, zero, suc, nat_eq, Bool, true, false, ◌&&◌, ◌||◌, Option, None, Some, Ok, Err, List, [], ◌∷◌, ◌++◌, refl}
use Rattle.std.proofs.Common.{arith, sym, ap, subst, ◌∙◌}
use Rattle.std.proofs.lemmas.Bool.Decides.{nat_tests}
use Rattle.scasp_search_rules.specs.Successors.Machine.{Machine, Found, Finds, ended, spent, first_event, pick, cost}
use Rattle.scasp_search_walk.specs.Inside.{Arrives, Finishes}
use Rattle.scasp_search_walk.specs.Slices.{Steps}
use Rattle.scasp_search_walk.specs.Walks.{BeginsWithCall, Reached, Tells}
use Rattle.scasp_search_constraints.specs.declared.assuming.step.SearchErr.{SearchErr}
use Rattle.scasp_search_constraints.specs.declared.assuming.step.SearchErr.TheVariants as errors
use Rattle.scasp_search_walk.proofs.LaterLemmas.{allows-later}
use Rattle.scasp_search_walk.proofs.ReachedLemmas.{allows-asked, found-there, reached-both, reached-step, step, tells-spent}

-- ---- calls are never fewer

picked-calls : {S A : Type 0} (answer : Option (Option A)) (over : Bool) (k : ℕ) (at_answer : Option A → Found S A) (at_end : Found S A) (later : Option (Found S A)) (f : Found S A)
    → pick answer over at_answer at_end later ≡ Some f → ((a : Option A) → k ≤ (at_answer a).calls) → k ≤ at_end.calls → (later ≡ Some f → k ≤ f.calls) → k ≤ f.calls
picked-calls (Some a) over k at_answer at_end later f h g e l = let i : at_answer a ≡ f = cc h in rw (← i) (g a)
picked-calls None true k at_answer at_end later f h g e l = let i : at_end ≡ f = cc h in rw (← i) e
picked-calls None false k at_answer at_end later f h g e l = l h

less-plus : (a b c : ℕ) → a + b ≤ c → a ≤ c
less-plus a b c h = omega (arith, h)

more-calls : {S A : Type 0} (m : Machine S A) (budget n : ℕ) (states : List S) (calls : ℕ) (may : Bool) (f : Found S A)
    → first_event m budget n states calls may ≡ Some f → calls ≤ f.calls
unfolding first_event
more-calls m budget zero states calls may f h = absurd (cc h)
more-calls {S} {A} m budget (suc n) [] calls may f h =
    let one : Found S A = record { event = ended; calls = calls; may = may; rest = [] } in
    let i : one ≡ f = cc h in rw (← i) (omega arith)
more-calls m budget (suc n) (s ∷ states) calls may f h =
    picked-calls (m.answer s) (m.pays s && nat_eq calls budget) calls _ _ _ f h (λ a. omega arith) (omega arith)
    (λ g. less-plus calls (cost (m.pays s)) f.calls (more-calls m budget n (m.next s ++ states) (calls + cost (m.pays s)) (may || m.asks s) f g))

pub room : {S A : Type 0} (m : Machine S A) (budget after : ℕ) (s : S) → after ≢ budget → (m.pays s && nat_eq after budget) ≡ false
room m budget after s h = by (m.pays s)
  where
    by : (p : Bool) → (p && nat_eq after budget) ≡ false
    by true = grind (arith, nat_tests, h)
    by false = refl

one-up : (n : ℕ) → n + 1 ≡ suc n
one-up n = omega arith

-- the first event needs the call that comes next
pub needs-more : {S A : Type 0} (m : Machine S A) (budget calls after : ℕ) (old new : List S) → Reached m budget old calls new after → BeginsWithCall m new → after ≢ budget
    → (found : Found S A) → Finds m budget old calls found → after < found.calls
needs-more m budget calls after old [] r b e found f = absurd b
needs-more m budget calls after old (s ∷ rest) r b e found f =
    let there = rw (one-up f.0) at (found-there m budget calls after old (s ∷ rest) found r f) in
    let next = sym (step m budget f.0 after s rest (false || r.may) b.0 (room m budget after s e)) ∙ there in
    let less : after + cost (m.pays s) ≤ found.calls = more-calls m budget f.0 (m.next s ++ rest) (after + cost (m.pays s)) ((false || r.may) || m.asks s) found next in
    let one : cost (m.pays s) ≡ 1 = ap cost b.1 in
    let more : after + 1 ≤ found.calls = rw one at less in
    omega (arith, more)

-- ---- the end of the budget, and steps that cost a call

pub spent-first : {S A : Type 0} (m : Machine S A) (budget calls after : ℕ) (old new : List S) → Reached m budget old calls new after → BeginsWithCall m new → after ≡ budget
    → Tells m budget old calls spent after new
spent-first m budget calls after old [] r b e = absurd b
spent-first m budget calls after old (s ∷ rest) r b e = tells-spent m budget calls after s old rest r b.0 (over (m.pays s) b.1)
  where
    over : (p : Bool) → p ≡ true → (p && nat_eq after budget) ≡ true
    over p h = let f : nat_eq after budget ≡ true = grind (arith, nat_tests, e) in rw h f

pub paid-reached : {S A : Type 0} (m : Machine S A) (budget calls after : ℕ) (old between new : List S) → Reached m budget old calls between after → BeginsWithCall m between → after ≢ budget
    → Steps m between new (Ok record {}) → Reached m budget old calls new (after + 1)
paid-reached m budget calls after old [] new r b h p = absurd b
paid-reached m budget calls after old (s ∷ rest) new r b h p =
    let next : Reached m budget old calls (m.next s ++ rest) (after + cost (m.pays s)) = reached-step m budget calls after s old rest r b.0 (room m budget after s h) in
    let one : after + cost (m.pays s) ≡ after + 1 = ap (λ k. after + cost k) b.1 in
    reached-both m budget calls (after + 1) (after + 1) old (m.next s ++ rest) new (subst (λ c. Reached m budget old calls (m.next s ++ rest) c) one next) (p budget (after + 1))

pub paid-fails : {S A V : Type 0} (value : A → V) (m : Machine S V) (budget calls after n last : ℕ) (old between new end : List S) (e : SearchErr) → Reached m budget old calls between after
    → BeginsWithCall m between → after ≢ budget → Steps m between new (Err e) → Finishes value m budget old calls n (Err e) end last
paid-fails value m budget calls after n last old between new end errors.Memory r b h p = tt
paid-fails value m budget calls after n last old [] new end errors.Overflow r b h p = absurd b
paid-fails value m budget calls after n last old (s ∷ rest) new end errors.Overflow r b h p = allows-asked m budget calls after s old rest r (room m budget after s h) p

pub arrives-fails : {S A V : Type 0} (value : A → V) (m : Machine S V) (budget calls after n last : ℕ) (old between new end : List S) (e : SearchErr) → Reached m budget old calls between after
    → Arrives value m budget after between new (Err e) → Finishes value m budget old calls n (Err e) end last
arrives-fails value m budget calls after n last old between new end errors.Memory r h = tt
arrives-fails value m budget calls after n last old between new end errors.Overflow r h = allows-later m budget calls after old between r h
