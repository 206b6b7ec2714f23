-- Each state that comes of the start is orderly and neat, or the other side of a split replaced a variable by a term in which it stands; so
-- there is a first event, or such a replacement.
use Rattle.std.specs.Prelude.{◌≡◌, ◌⊎◌, ◌≢◌, ℕ, ◌<◌, ◌≤◌, nat_lt, true, false, ◌&&◌, not, List, [], ◌∷◌, length, map}
use Rattle.std.specs.List.{Contains, list_all}
use Rattle.std.proofs.Common.{refl, inl, inr, arith, sym, ◌∙◌}
use Rattle.std.proofs.lemmas.Bool.{true≢false, and_from, or_from, lt-ltb, not_from_false}
use Rattle.std.proofs.lemmas.List.{length-replicate}
use Rattle.scasp_list.specs.Each.{Each}
use Rattle.scasp_list.proofs.EachLemmas.{Each-append, test_from-Each}
use Rattle.scasp_nmr.specs.declared.items.CheckItem.{CheckItem}
use Rattle.scasp_search_rules.specs.declared.states.state.Kind.TheVariants.{Existential}
use Rattle.scasp_search_rules.specs.declared.states.state.Made.{Made}
use Rattle.scasp_search_rules.specs.declared.states.state.State.{State}
use Rattle.scasp_search_rules.specs.declared.states.tasks.Pair.{Pair}
use Rattle.scasp_search_rules.specs.declared.states.tasks.Task.{Task}
use Rattle.scasp_search_rules.specs.declared.states.tasks.Task.TheVariants as task
use Rattle.scasp_search_rules.specs.Successors.Problems.{Problem}
use Rattle.scasp_search_rules.specs.Successors.Search.{nothing, search_for, start}
use Rattle.scasp_search_walk.specs.Walks.{Allows}
use Rattle.scasp_syntax.specs.Flat.{flat_body}
use Rattle.scasp_syntax.specs.Tm.{Tm, Tms, var, num, app, nil, cons}
use Rattle.scasp_syntax.specs.View.{tm_of}
use Rattle.scasp_syntax.specs.WellFormed.{is_below, are_below, is_query_well_formed}
use Rattle.scasp_syntax.specs.declared.clause.FlatItem.{FlatItem}
use Rattle.scasp_syntax.specs.declared.clause.Query.{Query}
use Rattle.scasp_syntax.specs.declared.program.Program.{Program}
use Rattle.scasp_unify.specs.Parts.{occurs}
use Rattle.scasp_unify.specs.declared.bindings.Binding.{Binding}
use Rattle.scasp_unify.proofs.Members.{Each-from}
use Rattle.scasp_law_first_event.specs.Events.{HasEvent, ComesTo, IsUnsolved, IsCircular, itself, after, IsReachable, ComesToReplacement, TellsOverflow}
use Rattle.scasp_law_first_event.specs.Replaced.{replaces_inside}
use Rattle.scasp_law_first_event.specs.Solved.{has_circle, is_absent, are_solved, are_bindings_below, are_pairs_below, is_task_below, is_solved}
use Rattle.scasp_law_first_event.proofs.Bindings.{Solved}
use Rattle.scasp_law_first_event.proofs.Calls.{called}
use Rattle.scasp_law_first_event.proofs.EachStates.{each-state}
use Rattle.scasp_law_first_event.proofs.Ending.{settles}
use Rattle.scasp_law_first_event.proofs.Firming.{new-makes}
use Rattle.scasp_law_first_event.proofs.Firmness.{Firm, TaskFirm, Clear}
use Rattle.scasp_law_first_event.proofs.Fitting.{TermBelow, ArgsBelow, ItemBelow, PairsBelow, Later, Front, later, becomes, all-later-more}
use Rattle.scasp_law_first_event.proofs.Keeping.{Orderly}
use Rattle.scasp_law_first_event.proofs.Raising.{item-weaker, query-items}
use Rattle.scasp_law_first_event.proofs.Settling.{Settles, met, costs, goes_on, finds}
use Rattle.scasp_law_first_event.proofs.Steps.{Out}
use Rattle.scasp_law_first_event.proofs.Turning.{Ends, stepped}
use Rattle.scasp_law_first_event.proofs.Terms.{EachVar, each-absent}

-- ---- an orderly state is solved

mutual
  each-below : (n : ℕ) (t : Tm) → TermBelow n t → is_below n t ≡ true
  each-below n (var x) h = lt-ltb x n h
  each-below n (num q) h = refl
  each-below n (app f ts) h = all-below n ts h

  all-below : (n : ℕ) (ts : Tms) → ArgsBelow n ts → are_below n ts ≡ true
  all-below n nil h = refl
  all-below n (cons t ts) h = and_from (is_below n t) (are_below n ts) (each-below n t h.0) (all-below n ts h.1)

solved-tests : (n : ℕ) (bs : List Binding) → Solved n bs → (are_solved bs ≡ true) × (are_bindings_below n bs ≡ true)
solved-tests n [] h = (refl, refl)
solved-tests n (b ∷ bs) h =
    let rest = solved-tests n bs h.3 in (
      and_from (is_absent b.x (b ∷ bs)) (are_solved bs)
          (test_from-Each (λ (c : Binding). not (occurs b.x (tm_of c.term))) (λ c. EachVar (λ y. y ≢ b.x) (tm_of c.term))
          (λ c k. not_from_false (occurs b.x (tm_of c.term)) (each-absent b.x (tm_of c.term) k)) (b ∷ bs) h.2)
          rest.0,
      and_from (nat_lt b.x n && is_below n (tm_of b.term)) (are_bindings_below n bs)
          (and_from (nat_lt b.x n) (is_below n (tm_of b.term)) (lt-ltb b.x n h.0) (each-below n (tm_of b.term) h.1)) rest.1,
    )

pairs-test : (n : ℕ) (ps : List Pair) → PairsBelow n ps → are_pairs_below n ps ≡ true
pairs-test n ps h =
    test_from-Each (λ (o : Pair). is_below n (tm_of o.left) && is_below n (tm_of o.right)) (λ o. TermBelow n (tm_of o.left) × TermBelow n (tm_of o.right))
    (λ o k. and_from (is_below n (tm_of o.left)) (is_below n (tm_of o.right)) (each-below n (tm_of o.left) k.0) (each-below n (tm_of o.right) k.1)) ps h

task-test : (p : Program) (n : ℕ) (t : Task) → Later p n t → is_task_below n t ≡ true
task-test p n (task.Equate t u) h = and_from (is_below n (tm_of t)) (is_below n (tm_of u)) (each-below n (tm_of t) h.0) (each-below n (tm_of u) h.1)
task-test p n (task.Differ ps aim) h = pairs-test n ps h.0
task-test p n (task.Show i) h = refl
task-test p n (task.Assume c) h = refl
task-test p n (task.Become x t ps aim) h = refl
task-test p n (task.Avoid x q ps aim) h = refl
task-test p n (task.Shape x f ts ps aim) h = refl
task-test p n (task.Cover a k) h = refl
task-test p n (task.Check k head) h = refl
task-test p n (task.Begin k first head) h = refl
task-test p n task.Void h = refl
task-test p n task.Leave h = refl
task-test p n task.Close h = refl

tasks-test : (p : Program) (n : ℕ) (bs : List Binding) (ts : List Task) → Front p n bs ts → list_all (is_task_below n) ts ≡ true
tasks-test p n bs _ (later ts h) = test_from-Each (is_task_below n) (Later p n) (task-test p n) ts h
tasks-test p n bs _ (becomes x y ps aim ts fx fy pb ab h) = test_from-Each (is_task_below n) (Later p n) (task-test p n) ts h

pub orderly-solved : (p : Program) (s : State) → Orderly p s → is_solved s ≡ true
orderly-solved p s o =
    let n : ℕ = length s.made in
    let tests = solved-tests n s.bound o.held.solved in
    and_from (are_solved s.bound) (are_bindings_below n s.bound && list_all (is_task_below n) s.work) tests.0
    (and_from (are_bindings_below n s.bound) (list_all (is_task_below n) s.work) tests.1 (tasks-test p n s.bound s.work o.front))

-- and it has no circle
pub solved-whole : (n : ℕ) (bs : List Binding) → Solved n bs → has_circle bs ≡ false
solved-whole n [] h = refl
solved-whole n (b ∷ bs) h = or_from (occurs b.x (tm_of b.term)) (has_circle bs) (each-absent b.x (tm_of b.term) h.2.0) (solved-whole n bs h.3)

-- ---- states that come of the start

-- orderly, and of each term the variables are of a kind or bound
pub record Neat (p : Program) (s : State) : Type 0 where
  pub orderly : Orderly p s
  pub clear : Clear p s
  pub work : Each (TaskFirm p s) s.work

module _ (p : Problem) (q : Query) (fits : is_query_well_formed q ≡ true) where
  shows : (n : ℕ) (is : List FlatItem) → Each (ItemBelow n) is → Each (Later p.program n) (map task.Show is)
  shows n [] h = tt
  shows n (i ∷ is) h = (h.0, shows n is h.1)

  checks-later : (n : ℕ) (is : List CheckItem) → Each (Later p.program n) (map (λ i. task.Check i.clause i.head) is)
  checks-later n [] = tt
  checks-later n (i ∷ is) = (tt, checks-later n is)

  many : length (start q p.checks).made ≡ length q.names
  many = length-replicate {A = Made} (length q.names) (record { kind = Existential; depth = 0 })

  begun-orderly : Orderly p.program (start q p.checks)
  begun-orderly = record {
    held = record { solved = tt; covers = tt; literals = tt };
    front =
        later (start q p.checks).work
        (Each-append (Later p.program (length (start q p.checks).made)) (map task.Show (flat_body q.body)) (map (λ i. task.Check i.clause i.head) p.checks)
        (all-later-more p.program (length q.names) (length (start q p.checks).made) (omega (arith, many)) (map task.Show (flat_body q.body))
        (shows (length q.names) (flat_body q.body) (query-items (length q.names) q.body fits)))
        (checks-later (length (start q p.checks).made) p.checks));
  }

  first-firm : (z : ℕ) → z < length q.names → Firm (start q p.checks) z
  first-firm z l =
      let k = (new-makes nothing Existential 0 (length q.names) refl).fresh z (omega arith) (omega (arith, l, many)) in
      (k.0, inl k.1)

  shows-firm : (is : List FlatItem) → Each (ItemBelow (length q.names)) is → Each (TaskFirm p.program (start q p.checks)) (map task.Show is)
  shows-firm [] h = tt
  shows-firm (i ∷ is) h = (item-weaker (λ y. y < length q.names) (Firm (start q p.checks)) first-firm i h.0, shows-firm is h.1)

  checks-firm : (is : List CheckItem) → Each (TaskFirm p.program (start q p.checks)) (map (λ i. task.Check i.clause i.head) is)
  checks-firm [] = tt
  checks-firm (i ∷ is) = (tt, checks-firm is)

  pub begun : Neat p.program (start q p.checks)
  begun = record {
    orderly = begun-orderly;
    clear = record { bindings = tt; covers = tt; literals = tt };
    work =
        Each-append (TaskFirm p.program (start q p.checks)) (map task.Show (flat_body q.body)) (map (λ i. task.Check i.clause i.head) p.checks)
        (shows-firm (flat_body q.body) (query-items (length q.names) q.body fits)) (checks-firm p.checks);
  }

  -- what comes of a neat state is neat, or a replacement made a circle
  one-more : (t u : State) → IsReachable p q t → Contains ((search_for p q).next t) u → Neat p.program t → Neat p.program u ⊎ ComesToReplacement p q
  one-more t u f i o = by (each-state (Out p.program) ((search_for p q).next t) u (called p.program p.sat t o.orderly) i)
    where
      e : Ends p.program t (replaces_inside t) u
      e = each-state (Ends p.program t (replaces_inside t)) ((search_for p q).next t) u (stepped p.program p.sat t o.clear o.orderly.held.solved o.work) i

      made_one : IsCircular u → (has_circle t.bound ≡ true) ⊎ (replaces_inside t ≡ true) → Neat p.program u ⊎ ComesToReplacement p q
      made_one c (inl d) = absurd (true≢false (sym d ∙ solved-whole (length t.made) t.bound o.orderly.held.solved))
      made_one c (inr d) = inr (record { state = t; reached = f; inside = d; next = u; follows = i; circle = c })

      by : Out p.program u → Neat p.program u ⊎ ComesToReplacement p q
      by (inl k) = inl (record { orderly = k; clear = e.clear; work = e.work })
      by (inr c) = made_one c (e.circle c)

  follows-neat : (u : State) → IsReachable p q u → Neat p.program u ⊎ ComesToReplacement p q
  follows-neat _ itself = inl begun
  follows-neat _ (after t u f i) = by (follows-neat t f)
    where
      by : Neat p.program t ⊎ ComesToReplacement p q → Neat p.program u ⊎ ComesToReplacement p q
      by (inl o) = one-more t u f i o
      by (inr c) = inr c

  pub circle-replaced : (u : State) → IsReachable p q u → IsCircular u → ComesToReplacement p q
  circle-replaced u f c = by (follows-neat u f)
    where
      by : Neat p.program u ⊎ ComesToReplacement p q → ComesToReplacement p q
      by (inl o) = absurd (true≢false (sym c ∙ solved-whole (length u.made) u.bound o.orderly.held.solved))
      by (inr k) = k

  -- ---- and so there is an event

  abbrev Replaced : State → Type 0
  Replaced u = ComesToReplacement p q

  abbrev Known : State → Type 0
  Known u = IsReachable p q u × (Neat p.program u ⊎ ComesToReplacement p q)

  next-known : (u : State) → IsReachable p q u → Neat p.program u → (r : State) → Contains ((search_for p q).next u) r → Known r
  next-known u f o r i = (after u r f i, one-more u r f i o)

  keeps : (u : State) → Known u → Replaced u ⊎ Each Known ((search_for p q).next u)
  keeps u k = by k.1
    where
      by : Neat p.program u ⊎ ComesToReplacement p q → Replaced u ⊎ Each Known ((search_for p q).next u)
      by (inl o) = inr (Each-from Known ((search_for p q).next u) (next-known u k.0 o))
      by (inr c) = inl c

  known-settles : (u : State) → Settles (search_for p q) IsUnsolved u → IsReachable p q u → Neat p.program u ⊎ ComesToReplacement p q → Settles (search_for p q) Replaced u
  known-settles _ (met u n) f (inr c) = met u c
  known-settles _ (met u n) f (inl o) = absurd (true≢false (sym (orderly-solved p.program u o.orderly) ∙ n))
  known-settles _ (costs u e) f o = costs u e
  known-settles _ (goes_on u k) f (inr c) = met u c
  known-settles _ (goes_on u k) f (inl o) =
      goes_on u (λ t i. let n = next-known u f o t i in known-settles t (k t i) n.0 n.1)

  gathered : (us : List State) → Each (IsReachable p q) us → Each Known us
  gathered [] h = tt
  gathered (u ∷ us) h = ((h.0, follows-neat u h.0), gathered us h.1)

  pub finds-or-replaces : (budget calls : ℕ) (states : List State) → calls ≤ budget → Each (IsReachable p q) states → HasEvent (search_for p q) budget states calls ⊎ ComesToReplacement p q
  finds-or-replaces budget calls states l h =
      told (finds (search_for p q) Replaced Known keeps (λ u o. known-settles u (settles p q u) o.0 o.1) budget calls l states (gathered states h))
    where
      told : HasEvent (search_for p q) budget states calls ⊎ ComesTo Replaced (search_for p q) budget states calls → HasEvent (search_for p q) budget states calls ⊎ ComesToReplacement p q
      told (inl e) = inl e
      told (inr c) = inr c.is

pub allowed-replaces : (p : Problem) (q : Query) (budget calls : ℕ) (states : List State) → is_query_well_formed q ≡ true → calls ≤ budget → Each (IsReachable p q) states
    → Allows (search_for p q) budget states calls → TellsOverflow (search_for p q) budget states calls ⊎ ComesToReplacement p q
allowed-replaces p q budget calls states fits l h allows = by (finds-or-replaces p q fits budget calls states l h)
  where
    by : HasEvent (search_for p q) budget states calls ⊎ ComesToReplacement p q → TellsOverflow (search_for p q) budget states calls ⊎ ComesToReplacement p q
    by (inl e) = inl (e.0, e.1, allows e.0 e.1)
    by (inr c) = inr c
