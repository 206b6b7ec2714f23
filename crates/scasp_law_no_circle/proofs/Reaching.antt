-- Each state that comes of the start owns what it speaks of, so no circle is reached, and each search has a first event.
use Rattle.std.specs.Prelude.{◌≡◌, ◌↔◌, ◌⊎◌, ℕ, ◌<◌, ◌≤◌, true, false, List, [], ◌∷◌, length, map}
use Rattle.std.specs.List.{Contains}
use Rattle.std.proofs.Common.{refl, arith, ap, sym, ◌∙◌, inl, inr}
use Rattle.std.proofs.lemmas.Bool.{true≢false}
use Rattle.std.proofs.lemmas.List.{length-replicate}
use Rattle.scasp_list.specs.Each.{Each}
use Rattle.scasp_nmr.specs.declared.items.CheckItem.{CheckItem}
use Rattle.scasp_search_rules.specs.declared.states.state.Kind.TheVariants.{Existential}
use Rattle.scasp_search_rules.specs.declared.states.state.Made.{Made}
use Rattle.scasp_search_rules.specs.declared.states.state.State.{State}
use Rattle.scasp_search_rules.specs.declared.states.tasks.Task.TheVariants as task
use Rattle.scasp_search_rules.specs.Successors.Problems.{Problem}
use Rattle.scasp_search_rules.specs.Successors.Search.{search_for, start}
use Rattle.scasp_search_walk.specs.Walks.{Allows}
use Rattle.scasp_syntax.specs.Flat.{flat_body}
use Rattle.scasp_syntax.specs.WellFormed.{is_query_well_formed}
use Rattle.scasp_syntax.specs.declared.clause.FlatItem.{FlatItem}
use Rattle.scasp_syntax.specs.declared.clause.Query.{Query}
use Rattle.scasp_law_first_event.specs.Events.{HasEvent, itself, after, IsReachable, ComesToReplacement, TellsOverflow}
use Rattle.scasp_law_first_event.specs.Replaced.{replaces_inside}
use Rattle.scasp_law_first_event.specs.Solved.{has_circle, is_solved}
use Rattle.scasp_law_first_event.proofs.Allowing.{told-allowed}
use Rattle.scasp_law_first_event.proofs.Calls.{called}
use Rattle.scasp_law_first_event.proofs.EachStates.{each-state}
use Rattle.scasp_law_first_event.proofs.Fitting.{ItemEach, ItemBelow}
use Rattle.scasp_law_first_event.proofs.Following.{Neat, begun, orderly-solved, solved-whole, finds-or-replaces}
use Rattle.scasp_law_first_event.proofs.Raising.{item-weaker, query-items}
use Rattle.scasp_law_first_event.proofs.Steps.{Out}
use Rattle.scasp_law_first_event.proofs.Turning.{Ends, stepped}
use Rattle.scasp_law_no_circle.proofs.Entering.{step-owns, step-absent}
use Rattle.scasp_law_no_circle.proofs.Meeting.{met-free}
use Rattle.scasp_law_no_circle.proofs.Places.{entry, entry-new}
use Rattle.scasp_law_no_circle.proofs.Scope.{Good, existential, Scoped}
use Rattle.scasp_law_no_circle.proofs.Tasks.{Waiting, level-before, shows-level, plain, Owning}

module _ (p : Problem) (q : Query) (fits : is_query_well_formed q ≡ true) where
  -- ---- the start

  many : length (start q p.checks).made ≡ length q.names
  many = length-replicate {A = Made} (length q.names) (record { kind = Existential; depth = 0 })

  first-scoped : (z : ℕ) → z < length q.names → Scoped (start q p.checks).made [] [] 0 z
  first-scoped z l =
      let e : entry (start q p.checks).made z ≡ record { kind = Existential; depth = 0 } = entry-new [] (length q.names) (record { kind = Existential; depth = 0 }) z (omega arith) (omega (arith, l)) in
      let depth : (entry (start q p.checks).made z).depth ≡ 0 = ap (λ (d : Made). d.depth) e in
      met-free (Good (start q p.checks).made [] [] 0) [] z (existential (omega (arith, l, many)) (ap (λ (d : Made). d.kind) e) (omega (arith, depth))) refl

  items-scoped : (is : List FlatItem) → Each (ItemBelow (length q.names)) is → Each (ItemEach (Scoped (start q p.checks).made [] [] 0)) is
  items-scoped [] h = tt
  items-scoped (i ∷ is) h = (item-weaker (λ y. y < length q.names) (Scoped (start q p.checks).made [] [] 0) first-scoped i h.0, items-scoped is h.1)

  checks-wait : (is : List CheckItem) → Waiting (Scoped (start q p.checks).made [] []) 0 (map (λ i. task.Check i.clause i.head) is)
  checks-wait [] = tt
  checks-wait (i ∷ is) = (tt, checks-wait is)

  begun-owning : Owning p.program (start q p.checks)
  begun-owning = record {
    sound = record { falls = tt; placed = tt; covers = tt };
    front = plain (start q p.checks).work
        (level-before (Scoped (start q p.checks).made [] []) 0 (map task.Show (flat_body q.body)) (map (λ i. task.Check i.clause i.head) p.checks)
        (shows-level (Scoped (start q p.checks).made [] [] 0) (flat_body q.body) (items-scoped (flat_body q.body) (query-items (length q.names) q.body fits))) (checks-wait p.checks));
  }

  -- ---- each state

  pub record Known (s : State) : Type 0 where
    pub neat : Neat p.program s
    pub owning : Owning p.program s

  absent : (t : State) → Known t → replaces_inside t ≡ false
  absent t k = step-absent p.program p.sat t k.owning.sound k.neat.orderly.held.solved t.work k.owning.front

  one-more : (t u : State) → Contains ((search_for p q).next t) u → Known t → Known u
  one-more t u i k = record {
    neat = by (each-state (Out p.program) ((search_for p q).next t) u (called p.program p.sat t k.neat.orderly) i);
    owning = each-state (Owning p.program) ((search_for p q).next t) u (step-owns p.program p.sat t k.owning.sound k.neat.orderly.held.solved t.work k.owning.front) i;
  }
    where
      e : Ends p.program t (replaces_inside t) u
      e = each-state (Ends p.program t (replaces_inside t)) ((search_for p q).next t) u (stepped p.program p.sat t k.neat.clear k.neat.orderly.held.solved k.neat.work) i

      no : (has_circle t.bound ≡ true) ⊎ (replaces_inside t ≡ true) → Neat p.program u
      no (inl d) = absurd (true≢false (sym d ∙ solved-whole (length t.made) t.bound k.neat.orderly.held.solved))
      no (inr d) = absurd (true≢false (sym d ∙ absent t k))

      by : Out p.program u → Neat p.program u
      by (inl o) = record { orderly = o; clear = e.clear; work = e.work }
      by (inr c) = no (e.circle c)

  pub known : (u : State) → IsReachable p q u → Known u
  known _ itself = record { neat = begun p q fits; owning = begun-owning }
  known _ (after t u f i) = one-more t u i (known t f)

  pub solved-there : (u : State) → IsReachable p q u → is_solved u ≡ true
  solved-there u f = orderly-solved p.program u (known u f).neat.orderly

  -- ---- events

  pub no-replacement : ComesToReplacement p q → ⊥
  no-replacement c = true≢false (sym c.inside ∙ absent c.state (known c.state c.reached))

  pub event-comes : (budget calls : ℕ) (states : List State) → calls ≤ budget → Each (IsReachable p q) states → HasEvent (search_for p q) budget states calls
  event-comes budget calls states l h = by (finds-or-replaces p q fits budget calls states l h)
    where
      by : HasEvent (search_for p q) budget states calls ⊎ ComesToReplacement p q → HasEvent (search_for p q) budget states calls
      by (inl e) = e
      by (inr c) = absurd (no-replacement c)

pub allowed-first : (p : Problem) (q : Query) (budget calls : ℕ) (states : List State) → is_query_well_formed q ≡ true → calls ≤ budget → Each (IsReachable p q) states
    → Allows (search_for p q) budget states calls ↔ TellsOverflow (search_for p q) budget states calls
allowed-first p q budget calls states fits l h = (forward, told-allowed (search_for p q) budget calls states)
  where
    forward : Allows (search_for p q) budget states calls → TellsOverflow (search_for p q) budget states calls
    forward allows = let e = event-comes p q fits budget calls states l h in (e.0, e.1, allows e.0 e.1)
