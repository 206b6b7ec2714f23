-- Each way of steps that cost nothing ends, or comes to a state that is not solved: as unification ends.
use Rattle.std.specs.Prelude.{◌≡◌, ◌⊎◌, ◌≢◌, ℕ, zero, suc, ◌+◌, ◌<◌, ◌≤◌, Bool, true, false, ◌&&◌, List, [], ◌∷◌, ◌++◌, length, ⊤}
use Rattle.std.specs.List.{Contains, list_all}
use Rattle.std.proofs.Common.{refl, arith, ap, sym, subst, ◌∙◌, inl, inr}
use Rattle.std.proofs.lemmas.Bool.{and_parts, ne_eqb}
use Rattle.std.proofs.lemmas.List.{append-nil, append_assoc, map-append, length-append}
use Rattle.scasp_list.specs.Each.{Each}
use Rattle.scasp_list.proofs.MemberLemmas.{Contains-none}
use Rattle.scasp_search_rules.specs.declared.states.state.State.{State}
use Rattle.scasp_search_rules.specs.declared.states.tasks.Aim.{Aim}
use Rattle.scasp_search_rules.specs.declared.states.tasks.Aim.TheVariants as aims
use Rattle.scasp_search_rules.specs.declared.states.tasks.Pair.{Pair}
use Rattle.scasp_search_rules.specs.declared.states.tasks.Task.{Task}
use Rattle.scasp_search_rules.specs.declared.states.tasks.Task.TheVariants as task
use Rattle.scasp_syntax.specs.Tm.{Tm, Tms, var, num, app, items, weight, weight_s}
use Rattle.scasp_syntax.specs.Values.{under}
use Rattle.scasp_syntax.specs.View.{tm_of}
use Rattle.scasp_syntax.specs.WellFormed.{is_below}
use Rattle.scasp_syntax.specs.declared.clause.Query.{Query}
use Rattle.scasp_syntax.specs.declared.term.Term.{Term}
use Rattle.scasp_syntax.specs.declared.term.Term.TheVariants.{Var}
use Rattle.scasp_unify.specs.Negations.{new_parts}
use Rattle.scasp_unify.specs.SimpleForm.{term_with}
use Rattle.scasp_unify.specs.Solving.{sub_of}
use Rattle.scasp_unify.specs.declared.bindings.Binding.{Binding}
use Rattle.scasp_unify.proofs.SimpleLemmas.{viewed}
use Rattle.scasp_search_rules.specs.Successors.Differences.{when_same, differ_first, differ_pairs}
use Rattle.scasp_search_rules.specs.Successors.Equations.{equated, equate_pairs, equations_of}
use Rattle.scasp_search_rules.specs.Successors.Falls.{EachState}
use Rattle.scasp_search_rules.specs.Successors.Pairs.{pair, pairs, pairs_of, in_front as put_first, from_first}
use Rattle.scasp_search_rules.specs.Successors.Problems.{Problem}
use Rattle.scasp_search_rules.specs.Successors.Regions.{before}
use Rattle.scasp_search_rules.specs.Successors.Search.{done, costs, pays_for, search_for, step_at}
use Rattle.scasp_search_rules.specs.Successors.Splits.{is_bound_in}
use Rattle.scasp_search_rules.specs.Successors.Variables.{binding, next_variable}
use Rattle.scasp_law_first_event.specs.Events.{HasEvent, ComesTo, IsUnsolved}
use Rattle.scasp_law_first_event.specs.Solved.{are_solved, are_bindings_below, is_task_below, is_solved}
use Rattle.scasp_law_first_event.proofs.Bindings.{Solved, Free, solved-from, read-free, unbound-self, free_count, one-less, some-more}
use Rattle.scasp_law_first_event.proofs.EachStates.{each_weaker}
use Rattle.scasp_law_first_event.proofs.Loads.{load, load_of, Less, is_pairing, free-less, equations-load}
use Rattle.scasp_law_first_event.proofs.Moves.{Puts, After, equated-after, equated-states}
use Rattle.scasp_law_first_event.proofs.Pairing.{Sides, FirstSides, pairs-keep, first-sides, pairs-from_test}
use Rattle.scasp_law_first_event.proofs.Parting.{Ends, next-by, Low, differs, first-ends}
use Rattle.scasp_law_first_event.proofs.Pieces.{Piece, pair_for, paired, fresh_from, pairs-fresh, length-fresh, Outside, Ready, sizes, ready-next, next-apart, ready-bound, sizes-bound, ready-shaped, sizes-shaped}
use Rattle.scasp_law_first_event.proofs.Settling.{met, costs as pays_there, goes_on, finds}
use Rattle.scasp_law_first_event.proofs.Terms.{EachVar, EachVars, each-weaker, all-weaker, below-each, weight-some, absent-all}

-- ---- pairs that two terms come to

single-pair : (x : ℕ) (t : Tm) → EachVar (λ y. y ≢ x) t → pairs_of (var x) t ≡ pair (var x) t ∷ []
single-pair x (var y) h = rw (ne_eqb x y (λ e. h (sym e))) refl
single-pair x (num q) h = refl
single-pair x (app f ts) h = refl

front-pair : (bs : List Binding) (x : ℕ) (u : Tm) → is_bound_in bs x ≡ false → EachVar (λ y. y ≢ x) (under (sub_of bs) u)
    → pairs_of (under (sub_of bs) (var x)) (under (sub_of bs) (tm_of (term_with u))) ≡ pair (var x) (under (sub_of bs) u) ∷ []
front-pair bs x u e h =
    ap (λ (t : Tm). pairs_of t (under (sub_of bs) (tm_of (term_with u)))) (unbound-self bs x e)
    ∙ ap (λ (t : Tm). pairs_of (var x) (under (sub_of bs) t)) (viewed u) ∙ single-pair x (under (sub_of bs) u) h

-- ---- the two forms of what is to be done of new variables

abbrev equating : List Piece → List Task
equating gs = equations_of (paired gs)

abbrev differing : List Pair → Aim → List Piece → List Task
differing rest aim gs = differs rest aim (paired gs)

-- the load is the same for each list of new variables
abbrev Steady : (List Piece → List Task) → Type 0
Steady f = (gs hs : List Piece) (ts : List Task) → load (f gs ++ ts) ≡ load (f hs ++ ts)

equating-steady : Steady equating
equating-steady gs hs ts = equations-load (paired gs) ts ∙ sym (equations-load (paired hs) ts)

paired-append : (gs hs : List Piece) → paired (gs ++ hs) ≡ paired gs ++ paired hs
paired-append gs hs = map-append pair_for gs hs

equations-append : (ps qs : List Pair) → equations_of (ps ++ qs) ≡ equations_of ps ++ equations_of qs
equations-append [] qs = refl
equations-append (p ∷ ps) qs = ap (λ (ts : List Task). task.Equate p.left p.right ∷ ts) (equations-append ps qs)

equating-more : (k : ℕ) (us : Tms) (gs : List Piece) (ts : List Task)
    → equations_of (pairs (new_parts k (length (items us))) us) ++ (equating gs ++ ts) ≡ equating (fresh_from k us ++ gs) ++ ts
equating-more k us gs ts =
    ap (λ (ps : List Pair). equations_of ps ++ (equating gs ++ ts)) (pairs-fresh k us)
    ∙ sym (append_assoc (equations_of (paired (fresh_from k us))) (equating gs) ts)
    ∙ ap (λ (xs : List Task). xs ++ ts) (sym (equations-append (paired (fresh_from k us)) (paired gs)))
    ∙ ap (λ (ps : List Pair). equations_of ps ++ ts) (sym (paired-append (fresh_from k us) gs))

differing-more : (k : ℕ) (us : Tms) (gs : List Piece) (rest : List Pair) (aim : Aim) (ts : List Task)
    → differs (paired gs ++ rest) aim (pairs (new_parts k (length (items us))) us) ++ ts ≡ differing rest aim (fresh_from k us ++ gs) ++ ts
differing-more k us gs rest aim ts =
    ap (λ (ps : List Pair). task.Differ ps aim ∷ ts)
    (ap (λ (ps : List Pair). ps ++ (paired gs ++ rest)) (pairs-fresh k us) ∙ sym (append_assoc (paired (fresh_from k us)) (paired gs) rest)
    ∙ ap (λ (ps : List Pair). ps ++ rest) (sym (paired-append (fresh_from k us) gs)))

-- ---- counts behind a binding

count-is : (s : State) (z : ℕ) (v : Tm) (more : ℕ) (ws : List Task) (r : State) → Puts s z v more ws r
    → free_count r.bound (length r.made) ≡ free_count (s.bound ++ binding z v ∷ []) (length s.made + more)
count-is s z v more ws r h =
    ap (free_count r.bound) h.made ∙ ap (λ (bs : List Binding). free_count bs (length s.made + more)) h.bound

counts-less : (s : State) (z : ℕ) (v : Tm) (more : ℕ) (ws : List Task) (r : State) → Puts s z v more ws r → Free (length s.made) s.bound z
    → free_count r.bound (length r.made) < free_count s.bound (length s.made) + more
counts-less s z v more ws r h f =
    let same = count-is s z v more ws r h in
    let grown = some-more (s.bound ++ binding z v ∷ []) (length s.made) more in
    let fell = one-less s.bound (binding z v) (length s.made) f.1 f.0 in
    omega (arith, same, grown, fell)

-- what holds of the bindings and of the number of variables
moved : (X : ℕ → List Binding → Type 0) (s : State) (z : ℕ) (v : Tm) (more : ℕ) (ws : List Task) (r : State) → Puts s z v more ws r
    → X (length s.made + more) (s.bound ++ binding z v ∷ []) → X (length r.made) r.bound
moved X s z v more ws r h x =
    subst (λ (n : ℕ). X n r.bound) (sym h.made) (subst (λ (bs : List Binding). X (length s.made + more) bs) (sym h.bound) x)

none-more : (n : ℕ) → n + 0 ≡ n
none-more n = omega arith

-- what a task costs does not depend on those behind it
costs-same : (s : State) (ts : List Task) (t : Task) → costs (record s { work = ts }) t ≡ costs s t
costs-same s ts (task.Show i) = refl
costs-same s ts (task.Equate t u) = refl
costs-same s ts (task.Assume c) = refl
costs-same s ts (task.Differ ps aim) = refl
costs-same s ts (task.Become x t ps aim) = refl
costs-same s ts (task.Avoid x q ps aim) = refl
costs-same s ts (task.Shape x f us ps aim) = refl
costs-same s ts (task.Cover a k) = refl
costs-same s ts (task.Check k checks_head) = refl
costs-same s ts (task.Begin k first checks_head) = refl
costs-same s ts task.Void = refl
costs-same s ts task.Leave = refl
costs-same s ts task.Close = refl

module _ (p : Problem) (q : Query) where
  by-solved : (s : State) → (Solved (length s.made) s.bound → list_all (is_task_below (length s.made)) s.work ≡ true → Ends p q s) → Ends p q s
  by-solved s k = by (is_solved s) refl
    where
      by : (b : Bool) → is_solved s ≡ b → Ends p q s
      by false e = met s e
      by true e =
          let one = and_parts (are_solved s.bound) (are_bindings_below (length s.made) s.bound && list_all (is_task_below (length s.made)) s.work) e in
          let two = and_parts (are_bindings_below (length s.made) s.bound) (list_all (is_task_below (length s.made)) s.work) one.1 in
          k (solved-from (length s.made) s.bound one.0 two.0) two.1

  -- the states with less load end
  abbrev Lower : ℕ → Type 0
  Lower d = (s : State) → load s.work < d → Ends p q s

  module _ (d : ℕ) (lower : Lower d) where
    -- the states end that have less than k free variables, and less than v tasks
    abbrev General : ℕ → ℕ → Type 0
    General k v = (s : State) → load s.work < suc d → free_count s.bound (length s.made) < k → length s.work < v → Ends p q s

    -- and those whose work begins with new variables to be equal to terms of less than this size, and that have less than k other free ones
    abbrev Going : (List Piece → List Task) → ℕ → ℕ → Type 0
    Going f k w = (s : State) (gs : List Piece) (ts : List Task) → s.work ≡ f gs ++ ts → Ready (length s.made) s.bound gs
        → free_count s.bound (length s.made) < k + length gs → sizes s.bound gs < w → load (f gs ++ ts) < suc d → Ends p q s

    -- ---- what comes of the first of the new variables

    abbrev Moved : (List Piece → List Task) → State → List Piece → List Task → ℕ → Tm → State → Type 0
    Moved f s gs ts x (var y) r = Puts s x (var y) 0 (f gs ++ ts) r ⊎ Puts s y (var x) 0 (f gs ++ ts) r
    Moved f s gs ts x (num v) r = Puts s x (num v) 0 (f gs ++ ts) r
    Moved f s gs ts x (app h us) r =
        Puts s x (app h (new_parts (next_variable s) (length (items us)))) (length (items us)) (f (fresh_from (next_variable s) us ++ gs) ++ ts) r

    module _ (f : List Piece → List Task) (steady : Steady f) (k w : ℕ) (going : Going f k w)
        (s : State) (g : Piece) (gs : List Piece) (ts : List Task) (solved : Solved (length s.made) s.bound) (ready : Ready (length s.made) s.bound (g ∷ gs))
        (count : free_count s.bound (length s.made) < k + suc (length gs)) (size : sizes s.bound (g ∷ gs) < suc w) (fits : load (f gs ++ ts) < suc d) where
      plain : (z : ℕ) (v : Tm) → weight v ≡ 1 → Free (length s.made) s.bound z → Outside gs z → EachVar (Outside gs) v
          → (r : State) → Puts s z v 0 (f gs ++ ts) r → Ends p q r
      plain z v one free o h r put =
          let rest : Ready (length s.made) s.bound gs = ready-next (length s.made) s.bound g gs ready in
          let here : Ready (length s.made + 0) (s.bound ++ binding z v ∷ []) gs =
          subst (λ (n : ℕ). Ready n (s.bound ++ binding z v ∷ []) gs) (sym (none-more (length s.made))) (ready-bound (length s.made) s.bound z v gs rest o h) in
          let fell = counts-less s z v 0 (f gs ++ ts) r put free in
          let same : sizes r.bound gs ≡ sizes s.bound gs = ap (λ (bs : List Binding). sizes bs gs) put.bound ∙ sizes-bound s.bound z v one gs in
          let some = weight-some (under (sub_of s.bound) g.term) in
          going r gs ts put.work_is (moved (λ n bs. Ready n bs gs) s z v 0 (f gs ++ ts) r put here) (omega (arith, fell, count)) (omega (arith, same, some, size)) fits

      shaped : (h : ℕ) (us : Tms) → app h us ≡ under (sub_of s.bound) g.term → EachVars (Free (length s.made) s.bound) us → EachVars (Outside (g ∷ gs)) us
          → (r : State) → Puts s g.at (app h (new_parts (length s.made) (length (items us)))) (length (items us)) (f (fresh_from (length s.made) us ++ gs) ++ ts) r → Ends p q r
      shaped h us e tf to r put =
          let n : ℕ = length s.made in
          let m : ℕ = length (items us) in
          let v : Tm = app h (new_parts n m) in
          let rest : Ready n s.bound gs = ready-next n s.bound g gs ready in
          let apart = next-apart n s.bound g gs ready in
          let tz : EachVars (λ y. y ≢ g.at) us = all-weaker (Outside (g ∷ gs)) (λ y. y ≢ g.at) (λ y o e. o.0 (sym e)) us to in
          let tg : EachVars (Outside gs) us = all-weaker (Outside (g ∷ gs)) (Outside gs) (λ y o. o.1) us to in
          let zb : g.at < n = ready.free.0.1 in
          let here : Ready (n + m) (s.bound ++ binding g.at v ∷ []) (fresh_from n us ++ gs) = ready-shaped n s.bound solved g.at zb v us gs rest ready.distinct.0 apart tf tz tg in
          let fell = counts-less s g.at v m (f (fresh_from n us ++ gs) ++ ts) r put ready.free.0 in
          let long : length (fresh_from n us ++ gs) ≡ length (fresh_from n us) + length gs = length-append {A = Piece} (fresh_from n us) gs in
          let new : length (fresh_from n us) ≡ m = length-fresh n us in
          let same : sizes r.bound (fresh_from n us ++ gs) ≡ weight_s us + sizes s.bound gs =
          ap (λ (bs : List Binding). sizes bs (fresh_from n us ++ gs)) put.bound ∙ sizes-shaped n s.bound solved g.at zb v n us gs apart tf tz in
          let whole : 1 + weight_s us ≡ weight (under (sub_of s.bound) g.term) = ap weight e in
          let steadily = steady (fresh_from n us ++ gs) gs ts in
          going r (fresh_from n us ++ gs) ts put.work_is (moved (λ n bs. Ready n bs (fresh_from (length s.made) us ++ gs)) s g.at v m (f (fresh_from n us ++ gs) ++ ts) r put here)
          (omega (arith, fell, count, long, new)) (omega (arith, same, whole, size)) (omega (arith, steadily, fits))

      read : EachVar (Free (length s.made) s.bound) (under (sub_of s.bound) g.term)
      read = read-free (length s.made) s.bound solved g.term ready.below.0

      resume : (t : Tm) → t ≡ under (sub_of s.bound) g.term → (r : State) → Moved f s gs ts g.at t r → Ends p q r
      resume (var y) e r (inl h) =
          let out : EachVar (Outside (g ∷ gs)) (var y) = subst (EachVar (Outside (g ∷ gs))) (sym e) ready.outside.0 in
          plain g.at (var y) refl ready.free.0 ready.distinct.0 out.1 r h
      resume (var y) e r (inr h) =
          let out : EachVar (Outside (g ∷ gs)) (var y) = subst (EachVar (Outside (g ∷ gs))) (sym e) ready.outside.0 in
          let free : EachVar (Free (length s.made) s.bound) (var y) = subst (EachVar (Free (length s.made) s.bound)) (sym e) read in
          plain y (var g.at) refl free out.1 ready.distinct.0 r h
      resume (num v) e r h = plain g.at (num v) refl ready.free.0 ready.distinct.0 tt r h
      resume (app h us) e r put =
          shaped h us e (subst (EachVar (Free (length s.made) s.bound)) (sym e) read) (subst (EachVar (Outside (g ∷ gs))) (sym e) ready.outside.0) r put

      not-itself : EachVar (λ y. y ≢ g.at) (under (sub_of s.bound) g.term)
      not-itself = each-weaker (Outside (g ∷ gs)) (λ y. y ≢ g.at) (λ y o e. o.0 (sym e)) (under (sub_of s.bound) g.term) ready.outside.0

    again : (s : State) (ws : List Task) (z : ℕ) (v : Tm) (more : ℕ) (xs ys : List Task) (r : State) → Puts (record s { work = ws }) z v more xs r → xs ≡ ys → Puts s z v more ys r
    again s ws z v more xs ys r h e = record { bound = h.bound; made = h.made; work_is = h.work_is ∙ e; covers = h.covers; literals = h.literals }

    after-moved : (f : List Piece → List Task) (form : List Pair → List Task) (s : State) (ws : List Task) (gs : List Piece) (ts : List Task) → form [] ++ ws ≡ f gs ++ ts
        → ((us : Tms) → form (pairs (new_parts (next_variable s) (length (items us))) us) ++ ws ≡ f (fresh_from (next_variable s) us ++ gs) ++ ts)
        → (x : ℕ) (t : Tm) (r : State) → After (record s { work = ws }) form x t r → Moved f s gs ts x t r
    after-moved f form s ws gs ts e k x (var y) r (inl h) = inl (again s ws x (var y) 0 (form [] ++ ws) (f gs ++ ts) r h e)
    after-moved f form s ws gs ts e k x (var y) r (inr h) = inr (again s ws y (var x) 0 (form [] ++ ws) (f gs ++ ts) r h e)
    after-moved f form s ws gs ts e k x (num v) r h = again s ws x (num v) 0 (form [] ++ ws) (f gs ++ ts) r h e
    after-moved f form s ws gs ts e k x (app h us) r a =
        again s ws x (app h (new_parts (next_variable s) (length (items us)))) (length (items us)) (form (pairs (new_parts (next_variable s) (length (items us))) us) ++ ws)
        (f (fresh_from (next_variable s) us ++ gs) ++ ts) r a.0 (k us)

    -- ---- new variables that are equated

    equates : (k : ℕ) → ((v : ℕ) → General k v) → (w : ℕ) → Going equating k w
    equates k general zero s gs ts e ready count size fits = absurd (omega (arith, size))
    equates k general (suc w) s [] ts e ready count size fits =
        let same : load s.work ≡ load ts = ap load e in
        general (suc (length s.work)) s (omega (arith, same, fits)) (omega (arith, count)) (omega arith)
    equates k general (suc w) s (g ∷ gs) ts e ready count size fits = step (equates k general w)
      where
        ws : List Task
        ws = equating gs ++ ts

        fit : load ws < suc d
        fit = omega (arith, fits)

        step : Going equating k w → Ends p q s
        step going =
            by-solved s (λ solved names.
            next-by p q s (task.Equate (Var g.at) (term_with g.term)) ws e
            (subst (λ (ps : List Pair). EachState (Ends p q) (equate_pairs p.sat (record s { work = ws }) ps).states)
            (sym (front-pair s.bound g.at g.term ready.free.0.0 (not-itself equating equating-steady k w going s g gs ts solved ready count size fit)))
            (subst (λ (u : Tm). EachState (Ends p q) (equated p.sat (record s { work = ws }) (var g.at) u).states) (sym (viewed (under (sub_of s.bound) g.term)))
            (each_weaker (After (record s { work = ws }) equations_of g.at (under (sub_of s.bound) g.term)) (Ends p q)
            (equated p.sat (record s { work = ws }) (var g.at) (under (sub_of s.bound) g.term)).states
            (λ r a. resume equating equating-steady k w going s g gs ts solved ready count size fit (under (sub_of s.bound) g.term) refl r
            (after-moved equating equations_of s ws gs ts refl (λ us. equating-more (next_variable s) us gs ts) g.at (under (sub_of s.bound) g.term) r a))
            (equated-after p.sat (record s { work = ws }) g.at (under (sub_of s.bound) g.term))))))

    -- ---- new variables that are told apart

    differing-steady : (rest : List Pair) (aim : Aim) → Steady (differing rest aim)
    differing-steady rest aim gs hs ts = refl

    swapped : (f : List Piece → List Task) (s : State) (gs : List Piece) (ts : List Task) (x y : ℕ) (r : State) → Moved f s gs ts y (var x) r → Moved f s gs ts x (var y) r
    swapped f s gs ts x y r (inl h) = inr h
    swapped f s gs ts x y r (inr h) = inl h

    differ-ends : (k : ℕ) → ((v : ℕ) → General k v) → (rest : List Pair) (aim : Aim) (w : ℕ) → Going (differing rest aim) k w
    differ-ends k general rest aim zero s gs ts e ready count size fits = absurd (omega (arith, size))
    differ-ends k general rest aim (suc w) s [] ts e ready count size fits =
        let same : load s.work ≡ 3 + load ts = ap load e in
        general (suc (length s.work)) s (omega (arith, same, fits)) (omega (arith, count)) (omega arith)
    differ-ends k general rest aim (suc w) s (g ∷ gs) ts e ready count size fits = step (differ-ends k general rest aim w)
      where
        qs : List Pair
        qs = paired gs ++ rest

        t : Tm
        t = under (sub_of s.bound) g.term

        now : State
        now = record s { work = ts }

        low : Low p q now
        low r l = lower r (omega (arith, l, fits))

        step : Going (differing rest aim) k w → Ends p q s
        step going =
            by-solved s (λ solved names.
            next-by p q s (task.Differ (pair_for g ∷ qs) aim) ts e
            (subst (λ (fs : List Pair). EachState (Ends p q) (differ_pairs p.sat now fs aim).states)
            (sym (ap (λ (fs : List Pair). put_first fs qs (from_first (sub_of s.bound) qs))
            (front-pair s.bound g.at g.term ready.free.0.0 (not-itself (differing rest aim) (differing-steady rest aim) k w going s g gs ts solved ready count size fits))))
            (subst (λ (u : Tm). EachState (Ends p q) (differ_first p.sat now (var g.at) u qs aim).states) (sym (viewed t))
            (first-ends p q now (var g.at) t qs aim low
            (λ y f r h. onward solved (var y) (sym f) r (inr (again s ts y (var g.at) 0 (task.Differ qs aim ∷ ts) (task.Differ qs aim ∷ ts) r h refl)))
            (λ x f r a. onward solved t refl r (to t r (let same : x ≡ g.at = cc in subst (λ (z : ℕ). After now (differs qs aim) z t r) same a)))
            (λ y f r a. onward solved (var y) (sym f) r (swapped (differing rest aim) s gs ts g.at y r (back y r a)))))))
          where
            onward : Solved (length s.made) s.bound → (u : Tm) → u ≡ t → (r : State) → Moved (differing rest aim) s gs ts g.at u r → Ends p q r
            onward solved = resume (differing rest aim) (differing-steady rest aim) k w going s g gs ts solved ready count size fits

            to : (u : Tm) (r : State) → After now (differs qs aim) g.at u r → Moved (differing rest aim) s gs ts g.at u r
            to u r a = after-moved (differing rest aim) (differs qs aim) s ts gs ts refl (λ us. differing-more (next_variable s) us gs rest aim ts) g.at u r a

            back : (y : ℕ) (r : State) → After now (differs qs aim) y (var g.at) r → Moved (differing rest aim) s gs ts y (var g.at) r
            back y r a = after-moved (differing rest aim) (differs qs aim) s ts gs ts refl (λ us. differing-more (next_variable s) us gs rest aim ts) y (var g.at) r a

    -- ---- the first task of a state

    no-pieces : (n : ℕ) (bs : List Binding) → Ready n bs []
    no-pieces n bs = record { free = tt; distinct = tt; below = tt; outside = tt }

    -- one free variable less, or new ones in its place
    bound-first : (k : ℕ) (form : List Pair → List Task) (s : State) → Solved (length s.made) s.bound → free_count s.bound (length s.made) < suc k
        → ((r : State) → r.work ≡ form [] ++ s.work → free_count r.bound (length r.made) < k → Ends p q r)
        → ((r : State) (us : Tms) → r.work ≡ form (pairs (new_parts (length s.made) (length (items us))) us) ++ s.work → Ready (length r.made) r.bound (fresh_from (length s.made) us)
        → free_count r.bound (length r.made) < k + length (fresh_from (length s.made) us) → Ends p q r)
        → (x : ℕ) (t : Tm) → Free (length s.made) s.bound x → EachVar (Free (length s.made) s.bound) t → (r : State) → After s form x t r → Ends p q r
    bound-first k form s solved count plainly newly x (var y) fx ft r (inl h) =
        let fell = counts-less s x (var y) 0 (form [] ++ s.work) r h fx in plainly r h.work_is (omega (arith, fell, count))
    bound-first k form s solved count plainly newly x (var y) fx ft r (inr h) =
        let fell = counts-less s y (var x) 0 (form [] ++ s.work) r h ft in plainly r h.work_is (omega (arith, fell, count))
    bound-first k form s solved count plainly newly x (num v) fx ft r h =
        let fell = counts-less s x (num v) 0 (form [] ++ s.work) r h fx in plainly r h.work_is (omega (arith, fell, count))
    bound-first k form s solved count plainly newly x (app f us) fx ft r a =
        let h = a.0 in
        let n : ℕ = length s.made in
        let m : ℕ = length (items us) in
        let v : Tm = app f (new_parts n m) in
        let ws : List Task = form (pairs (new_parts n m) us) ++ s.work in
        let fell = counts-less s x v m ws r h fx in
        let new : length (fresh_from n us) ≡ m = length-fresh n us in
        let free : EachVars (Free n s.bound) us = ft in
        let here : Ready (n + m) (s.bound ++ binding x v ∷ []) (fresh_from n us ++ []) =
        ready-shaped n s.bound solved x fx.1 v us [] (no-pieces n s.bound) tt tt free (absent-all x us a.1) (all-weaker (Free n s.bound) (Outside []) (λ y f. tt) us free) in
        let bare : Ready (n + m) (s.bound ++ binding x v ∷ []) (fresh_from n us) =
        subst (λ (gs : List Piece). Ready (n + m) (s.bound ++ binding x v ∷ []) gs) (append-nil (fresh_from n us)) here in
        newly r us h.work_is (moved (λ n bs. Ready n bs (fresh_from (length s.made) us)) s x v m ws r h bare) (omega (arith, fell, count, new))

    module _ (k : ℕ) (general : (v : ℕ) → General k v) where
      equate-first : (s : State) (t u : Term) (ts : List Task) → s.work ≡ task.Equate t u ∷ ts → load s.work < suc d → free_count s.bound (length s.made) < suc k
          → Ends p q (record s { work = ts }) → Ends p q s
      equate-first s t u ts e fits count rest =
          by-solved s (λ solved names.
          let here : (is_task_below n (task.Equate t u) && list_all (is_task_below n) ts) ≡ true = subst (λ (ws : List Task). list_all (is_task_below n) ws ≡ true) e names in
          let parts = and_parts (is_task_below n (task.Equate t u)) (list_all (is_task_below n) ts) here in
          let sides = and_parts (is_below n (tm_of t)) (is_below n (tm_of u)) parts.0 in
          next-by p q s (task.Equate t u) ts e
          (of-pairs solved (pairs_of (under (sub_of s.bound) (tm_of t)) (under (sub_of s.bound) (tm_of u)))
          (pairs-keep (Free n s.bound) (under (sub_of s.bound) (tm_of t)) (under (sub_of s.bound) (tm_of u))
          (read-free n s.bound solved (tm_of t) (below-each n (tm_of t) sides.0)) (read-free n s.bound solved (tm_of u) (below-each n (tm_of u) sides.1)))))
        where
          n : ℕ
          n = length s.made

          now : State
          now = record s { work = ts }

          fit : load ts < suc d
          fit = let same : load s.work ≡ 0 + load ts = ap load e in omega (arith, same, fits)

          plainly : (ps : List Pair) (r : State) → r.work ≡ equations_of ps ++ ts → free_count r.bound (length r.made) < k → Ends p q r
          plainly ps r w c =
              let same : load r.work ≡ load ts = ap load w ∙ equations-load ps ts in
              general (suc (length r.work)) r (omega (arith, same, fit)) c (omega arith)

          newly : (ps : List Pair) (r : State) (us : Tms) → r.work ≡ equations_of (pairs (new_parts n (length (items us))) us) ++ (equations_of ps ++ ts)
              → Ready (length r.made) r.bound (fresh_from n us) → free_count r.bound (length r.made) < k + length (fresh_from n us) → Ends p q r
          newly ps r us w ready c =
              let same : load (equating (fresh_from n us) ++ (equations_of ps ++ ts)) ≡ load ts = equations-load (paired (fresh_from n us)) (equations_of ps ++ ts) ∙ equations-load ps ts in
              equates k general (suc (sizes r.bound (fresh_from n us))) r (fresh_from n us) (equations_of ps ++ ts)
              (w ∙ ap (λ (qs : List Pair). equations_of qs ++ (equations_of ps ++ ts)) (pairs-fresh n us)) ready c (omega arith) (omega (arith, same, fit))

          of-pairs : Solved n s.bound → (ps : List Pair) → Each (Sides (Free n s.bound)) ps → EachState (Ends p q) (equate_pairs p.sat now ps).states
          of-pairs solved [] h = (rest, tt)
          of-pairs solved (o ∷ ps) h =
              let next : State = before (equations_of ps) now in
              equated-states (Ends p q) p.sat next (tm_of o.left) (tm_of o.right)
              (λ x f r a. bound-first k equations_of next solved count (plainly ps) (newly ps) x (tm_of o.right) (subst (EachVar (Free n s.bound)) f h.0.0) h.0.1 r a)
              (λ y f r a. bound-first k equations_of next solved count (plainly ps) (newly ps) y (tm_of o.left) (subst (EachVar (Free n s.bound)) f h.0.1) h.0.0 r a)

      differ-here : (s : State) (ps : List Pair) (aim : Aim) (ts : List Task) → s.work ≡ task.Differ ps aim ∷ ts → load s.work < suc d → free_count s.bound (length s.made) < suc k → Ends p q s
      differ-here s ps aim ts e fits count =
          by-solved s (λ solved names.
          let here : (is_task_below n (task.Differ ps aim) && list_all (is_task_below n) ts) ≡ true = subst (λ (ws : List Task). list_all (is_task_below n) ws ≡ true) e names in
          let parts = and_parts (is_task_below n (task.Differ ps aim)) (list_all (is_task_below n) ts) here in
          next-by p q s (task.Differ ps aim) ts e (of-pairs solved (from_first (sub_of s.bound) ps) (first-sides n s.bound solved ps (pairs-from_test n ps parts.0))))
        where
          n : ℕ
          n = length s.made

          now : State
          now = record s { work = ts }

          fit : 3 + load ts < suc d
          fit = let same : load s.work ≡ 3 + load ts = ap load e in omega (arith, same, fits)

          low : Low p q now
          low r l = lower r (omega (arith, l, fit))

          plainly : (qs : List Pair) (r : State) → r.work ≡ task.Differ qs aim ∷ ts → free_count r.bound (length r.made) < k → Ends p q r
          plainly qs r w c =
              let same : load r.work ≡ 3 + load ts = ap load w in
              general (suc (length r.work)) r (omega (arith, same, fit)) c (omega arith)

          newly : (qs : List Pair) (r : State) (us : Tms) → r.work ≡ differs qs aim (pairs (new_parts n (length (items us))) us) ++ ts
              → Ready (length r.made) r.bound (fresh_from n us) → free_count r.bound (length r.made) < k + length (fresh_from n us) → Ends p q r
          newly qs r us w ready c =
              differ-ends k general qs aim (suc (sizes r.bound (fresh_from n us))) r (fresh_from n us) ts
              (w ∙ ap (λ (os : List Pair). differs qs aim os ++ ts) (pairs-fresh n us)) ready c (omega arith) fit

          same-ends : (a : Aim) → EachState (Ends p q) (when_same a now)
          same-ends aims.Test = tt
          same-ends (aims.Head rule first) = (low (before (task.Begin rule first false ∷ []) now) (omega arith), tt)

          of-pairs : Solved n s.bound → (qs : List Pair) → FirstSides (Free n s.bound) qs → EachState (Ends p q) (differ_pairs p.sat now qs aim).states
          of-pairs solved [] h = same-ends aim
          of-pairs solved (o ∷ qs) h =
              first-ends p q now (tm_of o.left) (tm_of o.right) qs aim low
              (λ y f r put. let fell = counts-less now y (tm_of o.left) 0 (task.Differ qs aim ∷ ts) r put (subst (EachVar (Free n s.bound)) f h.1) in
              plainly qs r put.work_is (omega (arith, fell, count)))
              (λ x f r a. bound-first k (differs qs aim) now solved count (plainly qs) (newly qs) x (tm_of o.right) (subst (EachVar (Free n s.bound)) f h.0) h.1 r a)
              (λ y f r a. bound-first k (differs qs aim) now solved count (plainly qs) (newly qs) y (tm_of o.left) (subst (EachVar (Free n s.bound)) f h.1) h.0 r a)

      other-first : (s : State) (t : Task) (ts : List Task) → s.work ≡ t ∷ ts → is_pairing t ≡ false → load s.work < suc d → Ends p q s
      other-first s t ts e o fits = by (costs (record s { work = ts }) t) refl
        where
          now : State
          now = record s { work = ts }

          by : (b : Bool) → costs now t ≡ b → Ends p q s
          by true c = pays_there s (ap (pays_for s) e ∙ sym (costs-same s ts t) ∙ c)
          by false c =
              let same : load s.work ≡ load_of t + load ts = ap load e in
              next-by p q s t ts e
              (each_weaker (Less (load_of t) now) (Ends p q) (done p.program p.sat now t).states (λ r l. lower r (omega (arith, l, same, fits))) (free-less p.program p.sat now t c o))

      next-level : (v : ℕ) → General (suc k) v
      next-level zero s fits count short = absurd (omega (arith, short))
      next-level (suc v) s fits count short = by s.work refl (next-level v)
        where
          by : (ws : List Task) → s.work ≡ ws → General (suc k) v → Ends p q s
          by [] e shorter = goes_on s (λ r i. absurd (Contains-none r (subst (λ (ts : List Task). Contains (step_at p.program p.sat s ts).states r) e i)))
          by (task.Equate t u ∷ ts) e shorter =
              let same : load s.work ≡ 0 + load ts = ap load e in
              let less : length s.work ≡ suc (length ts) = ap length e in
              equate-first s t u ts e fits count (shorter (record s { work = ts }) (omega (arith, same, fits)) count (omega (arith, less, short)))
          by (task.Differ ps aim ∷ ts) e shorter = differ-here s ps aim ts e fits count
          by (task.Show i ∷ ts) e shorter = other-first s (task.Show i) ts e refl fits
          by (task.Assume c ∷ ts) e shorter = other-first s (task.Assume c) ts e refl fits
          by (task.Become x t ps aim ∷ ts) e shorter = other-first s (task.Become x t ps aim) ts e refl fits
          by (task.Avoid x v ps aim ∷ ts) e shorter = other-first s (task.Avoid x v ps aim) ts e refl fits
          by (task.Shape x f us ps aim ∷ ts) e shorter = other-first s (task.Shape x f us ps aim) ts e refl fits
          by (task.Cover a k ∷ ts) e shorter = other-first s (task.Cover a k) ts e refl fits
          by (task.Check k head ∷ ts) e shorter = other-first s (task.Check k head) ts e refl fits
          by (task.Begin k first head ∷ ts) e shorter = other-first s (task.Begin k first head) ts e refl fits
          by (task.Void ∷ ts) e shorter = other-first s task.Void ts e refl fits
          by (task.Leave ∷ ts) e shorter = other-first s task.Leave ts e refl fits
          by (task.Close ∷ ts) e shorter = other-first s task.Close ts e refl fits

    level : (k v : ℕ) → General k v
    level zero v s fits count short = absurd (omega (arith, count))
    level (suc k) v s fits count short = next-level k (level k) v s fits count short

  by-load : (d : ℕ) → Lower d
  by-load zero s l = absurd (omega (arith, l))
  by-load (suc d) s l = level d (by-load d) (suc (free_count s.bound (length s.made))) (suc (length s.work)) s l (omega arith) (omega arith)

  pub settles : (s : State) → Ends p q s
  settles s = by-load (suc (load s.work)) s (omega arith)

  all-true : (ss : List State) → Each (λ _. ⊤) ss
  all-true [] = tt
  all-true (s ∷ ss) = (tt, all-true ss)

  pub finds-or-not_solved : (budget calls : ℕ) (states : List State) → calls ≤ budget → HasEvent (search_for p q) budget states calls ⊎ ComesTo IsUnsolved (search_for p q) budget states calls
  finds-or-not_solved budget calls states l =
      finds (search_for p q) IsUnsolved (λ _. ⊤) (λ s _. inr (all-true ((search_for p q).next s))) (λ s _. settles s) budget calls l states (all-true states)
