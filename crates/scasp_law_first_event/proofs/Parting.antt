-- Terms that are to be apart: each state behind a pair has less left to do, or has one binding more.
use Rattle.std.specs.Prelude.{◌≡◌, ℕ, ◌+◌, ◌<◌, Bool, true, false, if◌then◌else◌, List, [], ◌∷◌, ◌++◌, length}
use Rattle.std.specs.List.{Contains}
use Rattle.std.proofs.Common.{refl, arith, ap, subst, ◌∙◌, inl, inr}
use Rattle.scasp_num.specs.Number.{Number}
use Rattle.scasp_search_rules.specs.declared.states.outcomes.Status.{Status}
use Rattle.scasp_search_rules.specs.declared.states.outcomes.Status.TheVariants.{Entailed, Impossible, Added, Parts}
use Rattle.scasp_search_rules.specs.declared.states.state.State.{State}
use Rattle.scasp_search_rules.specs.declared.states.tasks.Aim.{Aim}
use Rattle.scasp_search_rules.specs.declared.states.tasks.Pair.{Pair}
use Rattle.scasp_search_rules.specs.declared.states.tasks.Task.{Task}
use Rattle.scasp_search_rules.specs.declared.states.tasks.Task.TheVariants as task
use Rattle.scasp_syntax.specs.Tm.{Tm, Tms, var, num, app, items}
use Rattle.scasp_syntax.specs.View.{tm_of}
use Rattle.scasp_syntax.specs.declared.clause.Query.{Query}
use Rattle.scasp_syntax.specs.declared.con.Con.{Con}
use Rattle.scasp_syntax.specs.declared.con.Con.TheVariants as con
use Rattle.scasp_syntax.specs.declared.term.Term.{Term}
use Rattle.scasp_syntax.specs.declared.term.Term.TheVariants.{Var, Num}
use Rattle.scasp_unify.specs.Negations.{new_parts}
use Rattle.scasp_unify.specs.Parts.{occurs_among}
use Rattle.scasp_unify.specs.SimpleForm.{differ, term_with}
use Rattle.scasp_unify.specs.declared.bindings.Binding.{Binding}
use Rattle.scasp_search_rules.specs.Successors.Assumptions.{status}
use Rattle.scasp_search_rules.specs.Successors.Differences.{when_apart, alternatives, at_part, part_of_variables, stands_first, differ_variables, differ_number, differ_shape, differ_pair, differ_first, is_matched, take_up}
use Rattle.scasp_search_rules.specs.Successors.Equations.{becomes_shape, equated, equations_of}
use Rattle.scasp_search_rules.specs.Successors.Falls.{EachState}
use Rattle.scasp_search_rules.specs.Successors.Pairs.{pairs}
use Rattle.scasp_search_rules.specs.Successors.Problems.{Problem}
use Rattle.scasp_search_rules.specs.Successors.Regions.{before}
use Rattle.scasp_search_rules.specs.Successors.Search.{done, search_for, step_at}
use Rattle.scasp_search_rules.specs.Successors.Steps.{goes}
use Rattle.scasp_search_rules.specs.Successors.Variables.{binding, next_variable}
use Rattle.scasp_law_first_event.specs.Events.{IsUnsolved}
use Rattle.scasp_law_first_event.proofs.EachStates.{each-state, each_map}
use Rattle.scasp_law_first_event.proofs.Loads.{load, apart-load}
use Rattle.scasp_law_first_event.proofs.Moves.{Puts, Keeps, After, equated-after, shape-puts, in-front, tested}
use Rattle.scasp_law_first_event.proofs.Settling.{Settles, goes_on}

-- what is done of pairs that are to be apart, with these behind
abbrev pub differs : List Pair → Aim → List Pair → List Task
differs rest aim ps = task.Differ (ps ++ rest) aim ∷ []

module _ (p : Problem) (q : Query) where
  abbrev pub Ends : State → Type 0
  Ends s = Settles (search_for p q) IsUnsolved s

  pub next-by : (s : State) (t : Task) (ts : List Task) → s.work ≡ t ∷ ts → EachState Ends (done p.program p.sat (record s { work = ts }) t).states → Ends s
  next-by s t ts e h =
      goes_on s
      (λ r i. each-state Ends (done p.program p.sat (record s { work = ts }) t).states r h (subst (λ (us : List Task). Contains (step_at p.program p.sat s us).states r) e i))

  -- the states with less left to do than where a pair stands in front come to an end
  abbrev pub Low : State → Type 0
  Low s = (r : State) → load r.work < 3 + load s.work → Ends r

  apart-ends : (s : State) (aim : Aim) → Low s → Ends (before (when_apart aim) s)
  apart-ends s aim low = low (before (when_apart aim) s) (omega (arith, apart-load aim s.work))

  part-ends : (s : State) (c : Con) (aim : Aim) (other : List Task) → Low s → Ends (before other s) → EachState Ends (at_part p.sat s c aim other).states
  part-ends s c aim other low h = by (status p.sat s c)
    where
      one : Ends (before (task.Assume c ∷ when_apart aim) s)
      one = low (before (task.Assume c ∷ when_apart aim) s) (omega (arith, apart-load aim s.work))

      by : (a : Status) → EachState Ends (alternatives s (task.Assume c ∷ when_apart aim) other a)
      by Entailed = (one, (h, tt))
      by Impossible = (h, tt)
      by Added = (one, (h, tt))
      by Parts = (one, tt)

  become-ends : (s : State) (x : ℕ) (t : Term) (rest : List Pair) (aim : Aim)
      → ((r : State) → After s equations_of x (tm_of t) r → Ends (before (task.Differ rest aim ∷ []) r)) → Ends (before (task.Become x t rest aim ∷ []) s)
  become-ends s x t rest aim k =
      next-by (before (task.Become x t rest aim ∷ []) s) (task.Become x t rest aim) s.work refl
      (each_map (After s equations_of x (tm_of t)) Ends (before (task.Differ rest aim ∷ [])) (equated p.sat s (var x) (tm_of t)).states (equated-after p.sat s x (tm_of t)) k)

  -- ---- parts

  lift : (s : State) (x y : ℕ) (rest : List Pair) (aim : Aim) (r : State) → After s equations_of x (var y) r → After s (differs rest aim) x (var y) (before (task.Differ rest aim ∷ []) r)
  lift s x y rest aim r (inl h) = inl (in-front s x (var y) 0 (task.Differ rest aim ∷ []) r h)
  lift s x y rest aim r (inr h) = inr (in-front s y (var x) 0 (task.Differ rest aim ∷ []) r h)

  variables-end : (s : State) (x y : ℕ) (rest : List Pair) (aim : Aim) → Low s → ((r : State) → After s (differs rest aim) x (var y) r → Ends r)
      → ((r : State) → After s (differs rest aim) y (var x) r → Ends r) → EachState Ends (differ_variables p.sat s x y rest aim).states
  variables-end s x y rest aim low left right = by (stands_first s x y)
    where
      by : (b : Bool) → EachState Ends (if b then part_of_variables p.sat s x y rest aim else part_of_variables p.sat s y x rest aim).states
      by true =
          part-ends s (differ (var x) (var y)) aim (task.Become x (Var y) rest aim ∷ []) low
          (become-ends s x (Var y) rest aim (λ r a. left (before (task.Differ rest aim ∷ []) r) (lift s x y rest aim r a)))
      by false =
          part-ends s (differ (var y) (var x)) aim (task.Become y (Var x) rest aim ∷ []) low
          (become-ends s y (Var x) rest aim (λ r a. right (before (task.Differ rest aim ∷ []) r) (lift s y x rest aim r a)))

  avoid-ends : (s r : State) (x : ℕ) (v : Number) (rest : List Pair) (aim : Aim) → Keeps (record s { work = task.Avoid x v rest aim ∷ s.work }) r → Low s
      → ((t : State) → After s (differs rest aim) x (num v) t → Ends t) → Ends r
  avoid-ends s r x v rest aim h low k =
      let now : State = record r { work = s.work } in
      next-by r (task.Avoid x v rest aim) s.work h.work_is
      (part-ends now (differ (var x) (num v)) aim (task.Become x (term_with (num v)) rest aim ∷ []) low
      (become-ends now x (Num v) rest aim (λ t a. k (before (task.Differ rest aim ∷ []) t) (record {
        bound = a.bound ∙ ap (λ (bs : List Binding). bs ++ binding x (num v) ∷ []) h.bound;
        made = (let n = a.made in let m = h.made in omega (arith, n, m));
        work_is = ap (λ (ts : List Task). task.Differ rest aim ∷ ts) a.work_is;
        covers = (λ o c. a.covers o (h.covers o c));
        literals = a.literals ∙ h.literals;
      }))))

  number-end : (s : State) (x : ℕ) (v : Number) (rest : List Pair) (aim : Aim) → Low s → ((r : State) → After s (differs rest aim) x (num v) r → Ends r)
      → EachState Ends (differ_number p.sat s x v rest aim).states
  number-end s x v rest aim low left =
      part-ends s (con.NotNum (Var x)) aim (task.Assume (con.Num (Var x)) ∷ task.Avoid x v rest aim ∷ []) low
      (next-by (before (task.Assume (con.Num (Var x)) ∷ task.Avoid x v rest aim ∷ []) s) (task.Assume (con.Num (Var x))) (task.Avoid x v rest aim ∷ s.work) refl
      (tested Ends p.sat (record s { work = task.Avoid x v rest aim ∷ s.work }) x (λ r h. avoid-ends s r x v rest aim h low left)))

  shape-end : (s : State) (x f : ℕ) (ts : Tms) (rest : List Pair) (aim : Aim) → Low s → ((r : State) → After s (differs rest aim) x (app f ts) r → Ends r)
      → EachState Ends (differ_shape p.sat s x f ts rest aim).states
  shape-end s x f ts rest aim low left = by (occurs_among x ts) refl
    where
      n : ℕ
      n = length (items ts)

      qs : List Pair
      qs = pairs (new_parts (next_variable s) n) ts

      by : (b : Bool) → occurs_among x ts ≡ b
          → EachState Ends (if b then goes (before (when_apart aim) s) else at_part p.sat s (con.NotShape x f n) aim (task.Shape x f ts rest aim ∷ [])).states
      by true e = (apart-ends s aim low, tt)
      by false e =
          part-ends s (con.NotShape x f n) aim (task.Shape x f ts rest aim ∷ []) low
          (next-by (before (task.Shape x f ts rest aim ∷ []) s) (task.Shape x f ts rest aim) s.work refl
          (each_map (Puts s x (app f (new_parts (next_variable s) n)) n s.work) Ends (before (task.Differ (qs ++ rest) aim ∷ [])) (becomes_shape p.sat s x f n).states
          (shape-puts p.sat s x f n)
          (λ r h. left (before (task.Differ (qs ++ rest) aim ∷ []) r) (in-front s x (app f (new_parts (next_variable s) n)) n (task.Differ (qs ++ rest) aim ∷ []) r h, e))))

  pair-ends : (s : State) (t u : Tm) (rest : List Pair) (aim : Aim) → Low s
      → ((x : ℕ) → t ≡ var x → (r : State) → After s (differs rest aim) x u r → Ends r)
      → ((y : ℕ) → u ≡ var y → (r : State) → After s (differs rest aim) y t r → Ends r)
      → EachState Ends (differ_pair p.sat s t u rest aim).states
  pair-ends s (var x) (var y) rest aim low left right = variables-end s x y rest aim low (left x refl) (right y refl)
  pair-ends s (var x) (num v) rest aim low left right = number-end s x v rest aim low (left x refl)
  pair-ends s (var x) (app f ts) rest aim low left right = shape-end s x f ts rest aim low (left x refl)
  pair-ends s (num v) (var y) rest aim low left right = number-end s y v rest aim low (right y refl)
  pair-ends s (num v) (num w) rest aim low left right = (apart-ends s aim low, tt)
  pair-ends s (num v) (app f ts) rest aim low left right = (apart-ends s aim low, tt)
  pair-ends s (app f ts) (var y) rest aim low left right = shape-end s y f ts rest aim low (right y refl)
  pair-ends s (app f ts) (num w) rest aim low left right = (apart-ends s aim low, tt)
  pair-ends s (app f ts) (app g us) rest aim low left right = (apart-ends s aim low, tt)

  -- the first pair, whose second side may be a variable of a head
  pub first-ends : (s : State) (t u : Tm) (rest : List Pair) (aim : Aim) → Low s
      → ((y : ℕ) → u ≡ var y → (r : State) → Puts s y t 0 (task.Differ rest aim ∷ s.work) r → Ends r)
      → ((x : ℕ) → t ≡ var x → (r : State) → After s (differs rest aim) x u r → Ends r)
      → ((y : ℕ) → u ≡ var y → (r : State) → After s (differs rest aim) y t r → Ends r)
      → EachState Ends (differ_first p.sat s t u rest aim).states
  first-ends s t (num v) rest aim low taken left right = pair-ends s t (num v) rest aim low left right
  first-ends s t (app f ts) rest aim low taken left right = pair-ends s t (app f ts) rest aim low left right
  first-ends s t (var y) rest aim low taken left right = by (is_matched s (var y))
    where
      by : (b : Bool) → EachState Ends (if b then goes (before (task.Differ rest aim ∷ []) (take_up s t (var y))) else differ_pair p.sat s t (var y) rest aim).states
      by true =
          (taken y refl (before (task.Differ rest aim ∷ []) (take_up s t (var y))) (record { bound = refl; made = omega arith; work_is = refl; covers = (λ o h. h); literals = refl }), tt)
      by false = pair-ends s t (var y) rest aim low left right
