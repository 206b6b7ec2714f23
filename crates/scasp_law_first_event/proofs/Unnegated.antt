-- Without a negated literal no cover begins, so no case ends.
use Rattle.std.specs.Prelude.{◌≡◌, ◌⊎◌, ℕ, zero, suc, ◌≤◌, Bool, true, false, ◌&&◌, not, if◌then◌else◌, Option, Some, None, List, [], ◌∷◌, ◌++◌, length, map, filter, ⊤}
use Rattle.std.specs.List.{list_all}
use Rattle.std.proofs.Common.{refl, ap, sym, subst, ◌∙◌, inl, inr}
use Rattle.std.proofs.lemmas.Bool.{and_parts, true≢false}
use Rattle.scasp_list.specs.Each.{Each}
use Rattle.scasp_list.proofs.EachLemmas.{Each-append, Each-from_test, Each-at}
use Rattle.scasp_nmr.specs.declared.items.CheckItem.{CheckItem}
use Rattle.scasp_num.specs.Number.{Number}
use Rattle.scasp_search_rules.specs.declared.states.lines.Line.TheVariants as line
use Rattle.scasp_search_rules.specs.declared.states.outcomes.Repeated.{Repeated}
use Rattle.scasp_search_rules.specs.declared.states.outcomes.Status.{Status}
use Rattle.scasp_search_rules.specs.declared.states.outcomes.Status.TheVariants.{Entailed, Impossible, Added, Parts}
use Rattle.scasp_search_rules.specs.declared.states.state.Literal.{Literal}
use Rattle.scasp_search_rules.specs.declared.states.state.State.{State}
use Rattle.scasp_search_rules.specs.declared.states.tasks.Aim.{Aim}
use Rattle.scasp_search_rules.specs.declared.states.tasks.Aim.TheVariants as aims
use Rattle.scasp_search_rules.specs.declared.states.tasks.Pair.{Pair}
use Rattle.scasp_search_rules.specs.declared.states.tasks.Task.{Task}
use Rattle.scasp_search_rules.specs.declared.states.tasks.Task.TheVariants as task
use Rattle.scasp_search_rules.specs.Successors.Assumptions.{status, assume, assume_all}
use Rattle.scasp_search_rules.specs.Successors.Calls.{call, judged, looped, unrepeated, entered, by_rule, by_no_rule, opposites, differing, nearest, ancestors, can_be_seen, marked, head_args}
use Rattle.scasp_search_rules.specs.Successors.Differences.{alternatives, at_part, part_of_variables, stands_first, differ_variables, differ_number, differ_shape, differ_pair, differ_first, differ_pairs, differ_terms, same_value, same_shape, is_matched, take_up}
use Rattle.scasp_search_rules.specs.Successors.Equations.{becomes_shape, equated, equate_pairs, equations, equations_of}
use Rattle.scasp_search_rules.specs.Successors.Falls.{EachState}
use Rattle.scasp_search_rules.specs.Successors.Items.{item_raised, items_of, body_of, test_item, number_tests, with_line}
use Rattle.scasp_search_rules.specs.Successors.Pairs.{pairs, pairs_of, from_first}
use Rattle.scasp_search_rules.specs.Successors.Problems.{Problem}
use Rattle.scasp_search_rules.specs.Successors.Regions.{before}
use Rattle.scasp_search_rules.specs.Successors.Replacing.{closes}
use Rattle.scasp_search_rules.specs.Successors.Search.{done, search_for, start, step_at}
use Rattle.scasp_search_rules.specs.Successors.Steps.{goes, gives}
use Rattle.scasp_search_rules.specs.Successors.Variables.{meaning, next_variable, universals_of, is_empty}
use Rattle.scasp_syntax.specs.Flat.{flat_after, flat_body, number_test, unseen}
use Rattle.scasp_syntax.specs.Programs.{numbered, rules_of, pred_of}
use Rattle.scasp_syntax.specs.Tm.{Tm, Tms, var, num, app, items}
use Rattle.scasp_syntax.specs.Values.{under}
use Rattle.scasp_syntax.specs.View.{tm_of}
use Rattle.scasp_syntax.specs.WellFormed.{is_query_well_formed}
use Rattle.scasp_syntax.specs.declared.atom.Lit.{Lit}
use Rattle.scasp_syntax.specs.declared.clause.Clause.{Clause}
use Rattle.scasp_syntax.specs.declared.clause.FlatItem.{FlatItem}
use Rattle.scasp_syntax.specs.declared.clause.FlatItem.TheVariants as flat
use Rattle.scasp_syntax.specs.declared.clause.Item.{Item}
use Rattle.scasp_syntax.specs.declared.clause.Item.TheVariants as item
use Rattle.scasp_syntax.specs.declared.clause.Query.{Query}
use Rattle.scasp_syntax.specs.declared.con.Con.{Con}
use Rattle.scasp_syntax.specs.declared.con.Con.TheVariants as con
use Rattle.scasp_syntax.specs.declared.program.Program.{Program}
use Rattle.scasp_syntax.specs.declared.term.Term.TheVariants.{Var}
use Rattle.scasp_unify.specs.Negations.{new_parts}
use Rattle.scasp_unify.specs.Parts.{occurs_among}
use Rattle.scasp_unify.specs.SimpleForm.{differ, term_with}
use Rattle.scasp_law_first_event.specs.Events.{HasEvent, IsReachable, itself, after, ComesToReplacement}
use Rattle.scasp_law_first_event.specs.Positive.{is_item_positive, is_unchecked, is_positive}
use Rattle.scasp_law_first_event.specs.Replaced.{innermost_inside}
use Rattle.scasp_law_first_event.proofs.Calls.{each-of}
use Rattle.scasp_law_first_event.proofs.EachStates.{each-state, each_map, each_weaker, each_followed}
use Rattle.scasp_law_first_event.proofs.Following.{finds-or-replaces}
use Rattle.scasp_law_first_event.proofs.Loads.{assume-same, all-assumed-same, marked-same, left-same}
use Rattle.scasp_law_first_event.proofs.Moves.{Puts, After, equated-after, equated-states, shape-puts}

-- ---- tasks of such a search

abbrev pub Positive : FlatItem → Type 0
Positive (flat.Call l) = l.positive ≡ true
Positive (flat.Test c) = ⊤

abbrev IsTest : Aim → Type 0
IsTest aims.Test = ⊤
IsTest (aims.Head k first) = ⊥

abbrev pub Plain : Task → Type 0
Plain (task.Show i) = Positive i
Plain (task.Equate t u) = ⊤
Plain (task.Assume c) = ⊤
Plain (task.Differ ps aim) = IsTest aim
Plain (task.Become x t ps aim) = IsTest aim
Plain (task.Avoid x q ps aim) = IsTest aim
Plain (task.Shape x f us ps aim) = IsTest aim
Plain (task.Cover a k) = ⊥
Plain (task.Check k checks_head) = ⊥
Plain (task.Begin k first checks_head) = ⊥
Plain task.Void = ⊥
Plain task.Leave = ⊤
Plain task.Close = ⊥

abbrev pub Plainly : State → Type 0
Plainly s = Each Plain s.work

-- ---- items

tests-positive : (xs : List ℕ) → Each Positive (map number_test xs)
tests-positive [] = tt
tests-positive (x ∷ xs) = (tt, tests-positive xs)

flat-positive : (seen : List ℕ) (is : List Item) → list_all is_item_positive is ≡ true → Each Positive (flat_after seen is)
flat-positive seen [] e = tt
flat-positive seen (item.Call l ∷ is) e = let q = and_parts l.positive (list_all is_item_positive is) e in (q.0, flat-positive seen is q.1)
flat-positive seen (item.Equal t u ∷ is) e = (tt, flat-positive seen is e)
flat-positive seen (item.Differ t u ∷ is) e = (tt, flat-positive seen is e)
flat-positive seen (item.Linear l ∷ is) e =
    Each-append Positive (map number_test (unseen seen l.vars)) _ (tests-positive (unseen seen l.vars)) (tt, flat-positive (seen ++ l.vars) is e)

raised-positive : (first : ℕ) (is : List FlatItem) → Each Positive is → Each Positive (map (item_raised first) is)
raised-positive first [] h = tt
raised-positive first (flat.Call l ∷ is) h = (h.0, raised-positive first is h.1)
raised-positive first (flat.Test c ∷ is) h = (tt, raised-positive first is h.1)

shows-plain : (is : List FlatItem) → Each Positive is → Each Plain (map task.Show is)
shows-plain [] h = tt
shows-plain (i ∷ is) h = (h.0, shows-plain is h.1)

equations-plain : (ps : List Pair) → Each Plain (equations_of ps)
equations-plain [] = tt
equations-plain (o ∷ ps) = (tt, equations-plain ps)

-- each clause has a positive body
abbrev pub AllPositive : Program → Type 0
AllPositive p = Each (λ c. list_all is_item_positive c.body ≡ true) p.clauses

numbered-positive : (cs : List Clause) → Each (λ c. list_all is_item_positive c.body ≡ true) cs → (k : ℕ) (c : Clause) → numbered cs k ≡ Some c → list_all is_item_positive c.body ≡ true
numbered-positive cs h zero c e = absurd (cc e)
numbered-positive cs h (suc n) c e = Each-at (λ (d : Clause). list_all is_item_positive d.body ≡ true) cs n c h (sym e)

items-positive : (o : Option Clause) (first : ℕ) → ((c : Clause) → o ≡ Some c → list_all is_item_positive c.body ≡ true) → Each Positive (items_of o first)
items-positive None first h = tt
items-positive (Some c) first h = raised-positive first (flat_body c.body) (flat-positive [] c.body (h c refl))

-- ---- steps

module _ (p : Program) (sat : List Con → Bool) (all : AllPositive p) where
  body-positive : (k first : ℕ) → Each Positive (body_of p k first)
  body-positive k first = items-positive (numbered p.clauses k) first (numbered-positive p.clauses all k)

  module _ (s : State) (w : Each Plain s.work) where
    same-plain : (rs : List State) → EachState (λ r. r.work ≡ s.work) rs → EachState Plainly rs
    same-plain rs h = each_weaker (λ r. r.work ≡ s.work) Plainly rs (λ r e. subst (Each Plain) (sym e) w) h

    front-plain : (ts : List Task) → Each Plain ts → Each Plain (ts ++ s.work)
    front-plain ts h = Each-append Plain ts s.work h w

    -- ---- telling apart

    part-plain : (c : Con) (other : List Task) → Each Plain other → EachState Plainly (at_part sat s c aims.Test other).states
    part-plain c other h = by (status sat s c)
      where
        by : (a : Status) → EachState Plainly (alternatives s (task.Assume c ∷ []) other a)
        by Entailed = ((tt, w), (front-plain other h, tt))
        by Impossible = (front-plain other h, tt)
        by Added = ((tt, w), (front-plain other h, tt))
        by Parts = ((tt, w), tt)

    module _ (rest : List Pair) where
      variables-plain : (x y : ℕ) → EachState Plainly (differ_variables sat s x y rest aims.Test).states
      variables-plain x y = by (stands_first s x y)
        where
          by : (b : Bool) → EachState Plainly (if b then part_of_variables sat s x y rest aims.Test else part_of_variables sat s y x rest aims.Test).states
          by true = part-plain (differ (var x) (var y)) (task.Become x (Var y) rest aims.Test ∷ []) (tt, tt)
          by false = part-plain (differ (var y) (var x)) (task.Become y (Var x) rest aims.Test ∷ []) (tt, tt)

      number-plain : (x : ℕ) (q : Number) → EachState Plainly (differ_number sat s x q rest aims.Test).states
      number-plain x q = part-plain (con.NotNum (Var x)) (task.Assume (con.Num (Var x)) ∷ task.Avoid x q rest aims.Test ∷ []) (tt, (tt, tt))

      shape-plain : (x f : ℕ) (ts : Tms) → EachState Plainly (differ_shape sat s x f ts rest aims.Test).states
      shape-plain x f ts = by (occurs_among x ts)
        where
          by : (b : Bool) → EachState Plainly (if b then goes (before [] s) else at_part sat s (con.NotShape x f (length (items ts))) aims.Test (task.Shape x f ts rest aims.Test ∷ [])).states
          by true = (w, tt)
          by false = part-plain (con.NotShape x f (length (items ts))) (task.Shape x f ts rest aims.Test ∷ []) (tt, tt)

      pair-plain : (t u : Tm) → EachState Plainly (differ_pair sat s t u rest aims.Test).states
      pair-plain (var x) (var y) = variables-plain x y
      pair-plain (var x) (num q) = number-plain x q
      pair-plain (var x) (app f ts) = shape-plain x f ts
      pair-plain (num q) (var y) = number-plain y q
      pair-plain (num q) (num r) = (w, tt)
      pair-plain (num q) (app f ts) = (w, tt)
      pair-plain (app f ts) (var y) = shape-plain y f ts
      pair-plain (app f ts) (num r) = (w, tt)
      pair-plain (app f ts) (app g us) = (w, tt)

      first-plain : (t u : Tm) → EachState Plainly (differ_first sat s t u rest aims.Test).states
      first-plain t (num q) = pair-plain t (num q)
      first-plain t (app f ts) = pair-plain t (app f ts)
      first-plain t (var y) = by (is_matched s (var y))
        where
          by : (b : Bool) → EachState Plainly (if b then goes (before (task.Differ rest aims.Test ∷ []) (take_up s t (var y))) else differ_pair sat s t (var y) rest aims.Test).states
          by true = ((tt, w), tt)
          by false = pair-plain t (var y)

    pairs-plain : (ps : List Pair) → EachState Plainly (differ_pairs sat s ps aims.Test).states
    pairs-plain [] = tt
    pairs-plain (o ∷ ps) = first-plain ps (tm_of o.left) (tm_of o.right)

    -- ---- equating

    after-plain : (x : ℕ) (t : Tm) (r : State) → After s equations_of x t r → Plainly r
    after-plain x (var y) r (inl a) = subst (Each Plain) (sym a.work_is) w
    after-plain x (var y) r (inr a) = subst (Each Plain) (sym a.work_is) w
    after-plain x (num q) r a = subst (Each Plain) (sym a.work_is) w
    after-plain x (app f ts) r a =
        subst (Each Plain) (sym a.0.work_is)
        (front-plain (equations_of (pairs (new_parts (next_variable s) (length (items ts))) ts)) (equations-plain (pairs (new_parts (next_variable s) (length (items ts))) ts)))

    become-plain : (x : ℕ) (t : Tm) (ps : List Pair) → EachState Plainly (same_value sat s x t ps aims.Test).states
    become-plain x t ps =
        each_map (After s equations_of x t) Plainly (before (task.Differ ps aims.Test ∷ [])) (equated sat s (var x) t).states (equated-after sat s x t)
        (λ r a. (tt, after-plain x t r a))

    named-plain : (x f : ℕ) (ts : Tms) (ps : List Pair) → EachState Plainly (same_shape sat s x f ts ps aims.Test).states
    named-plain x f ts ps =
        each_map (Puts s x (app f (new_parts (next_variable s) (length (items ts)))) (length (items ts)) s.work) Plainly
        (before (task.Differ (pairs (new_parts (next_variable s) (length (items ts))) ts ++ ps) aims.Test ∷ [])) (becomes_shape sat s x f (length (items ts))).states
        (shape-puts sat s x f (length (items ts))) (λ r a. (tt, subst (Each Plain) (sym a.work_is) w))

    -- ---- tests

    item-plain : (c : Con) → EachState Plainly (test_item sat s c).states
    item-plain (con.Eq t u) = ((tt, w), tt)
    item-plain (con.Neq t u) = by (is_empty (universals_of s (con.Neq t u)))
      where
        by : (b : Bool) → EachState Plainly (if b then assume sat s (con.Neq t u) else goes (before (task.Differ (record { left = t; right = u } ∷ []) aims.Test ∷ []) s)).states
        by true = same-plain (assume sat s (con.Neq t u)).states (assume-same sat s (con.Neq t u))
        by false = ((tt, w), tt)
    item-plain (con.NotShape x f k) = same-plain (assume sat s (con.NotShape x f k)).states (assume-same sat s (con.NotShape x f k))
    item-plain (con.Num t) = same-plain (assume sat s (con.Num t)).states (assume-same sat s (con.Num t))
    item-plain (con.NotNum t) = same-plain (assume sat s (con.NotNum t)).states (assume-same sat s (con.NotNum t))
    item-plain (con.Row r) = by (is_empty (universals_of s (con.Row r)))
      where
        by : (b : Bool) → EachState Plainly (if b then assume_all sat (number_tests r ++ con.Row r ∷ []) s else assume sat s (con.Row r)).states
        by true = same-plain (assume_all sat (number_tests r ++ con.Row r ∷ []) s).states (all-assumed-same sat s s (number_tests r ++ con.Row r ∷ []) refl)
        by false = same-plain (assume sat s (con.Row r)).states (assume-same sat s (con.Row r))

    -- ---- calls

    rule-plain : (l : Lit) (k : ℕ) → Plainly (by_rule p s l k)
    rule-plain l k =
        front-plain ((equations l.atom.args (head_args p k (next_variable s)) ++ map task.Show (body_of p k (next_variable s))) ++ task.Leave ∷ [])
        (Each-append Plain (equations l.atom.args (head_args p k (next_variable s)) ++ map task.Show (body_of p k (next_variable s))) (task.Leave ∷ [])
        (Each-append Plain (equations l.atom.args (head_args p k (next_variable s))) (map task.Show (body_of p k (next_variable s)))
        (equations-plain (pairs l.atom.args (head_args p k (next_variable s)))) (shows-plain (body_of p k (next_variable s)) (body-positive k (next_variable s))))
        (tt, tt))

    entered-plain : (l : Lit) → l.positive ≡ true → EachState Plainly (entered p s l)
    entered-plain l e = by l.positive e
      where
        by : (b : Bool) → b ≡ true → EachState Plainly (if b then map (by_rule p s l) (rules_of p (pred_of l.atom)) else by_no_rule p s l ∷ [])
        by true f = each-of Plainly (by_rule p s l) (rule-plain l) (rules_of p (pred_of l.atom))
        by false f = absurd (true≢false (sym f))

    looped-plain : (l : Lit) (r : Repeated) → EachState Plainly (looped s l r)
    looped-plain l r = by (not l.positive) r.is_behind_negation
      where
        by : (a b : Bool) → EachState Plainly (if a then with_line s (line.Loop l r.number) ∷ [] else (if b then marked (ancestors s) (with_line s (line.Loop l r.number)) ∷ [] else []))
        by true b = (w, tt)
        by false true = (subst (Each Plain) (sym (marked-same (ancestors s) (with_line s (line.Loop l r.number)))) w, tt)
        by false false = tt

  module _ (s : State) (w : Each Plain s.work) where
    unrepeated-plain : (l : Lit) → l.positive ≡ true → (xs : List Literal) → EachState Plainly (unrepeated p sat s l xs).states
    unrepeated-plain l e [] =
        each_followed Plainly Plainly (λ t. gives (entered p t l)) (assume_all sat (map (differing l) (opposites s l)) s).states
        (same-plain s w (assume_all sat (map (differing l) (opposites s l)) s).states (all-assumed-same sat s s (map (differing l) (opposites s l)) refl))
        (λ t h. entered-plain t h l e)
    unrepeated-plain l e (a ∷ xs) = (w, tt)

    call-plain : (l : Lit) → l.positive ≡ true → EachState Plainly (call p sat s l).states
    call-plain l e = by (nearest s l false (ancestors s))
      where
        by : (o : Option Repeated) → EachState Plainly (judged p sat s l o).states
        by (Some r) = looped-plain s w l r
        by None = unrepeated-plain l e (filter (can_be_seen s l) s.literals)

    pairs-equated : (ps : List Pair) → EachState Plainly (equate_pairs sat s ps).states
    pairs-equated [] = (w, tt)
    pairs-equated (o ∷ ps) =
        equated-states Plainly sat (before (equations_of ps) s) (tm_of o.left) (tm_of o.right)
        (λ x e r a. after-plain (before (equations_of ps) s) (front-plain s w (equations_of ps) (equations-plain ps)) x (tm_of o.right) r a)
        (λ y e r a. after-plain (before (equations_of ps) s) (front-plain s w (equations_of ps) (equations-plain ps)) y (tm_of o.left) r a)

    differ-plain : (ps : List Pair) (aim : Aim) → IsTest aim → EachState Plainly (differ_terms sat s ps aim).states
    differ-plain ps aims.Test h = pairs-plain s w (from_first (meaning s) ps)
    differ-plain ps (aims.Head k first) h = absurd h

    done-plain : (t : Task) → Plain t → EachState Plainly (done p sat s t).states
    done-plain (task.Show (flat.Call l)) h = call-plain l h
    done-plain (task.Show (flat.Test c)) h = item-plain (with_line s (line.Test c)) w c
    done-plain (task.Equate t u) h = pairs-equated (pairs_of (under (meaning s) (tm_of t)) (under (meaning s) (tm_of u)))
    done-plain (task.Assume c) h = same-plain s w (assume sat s c).states (assume-same sat s c)
    done-plain (task.Differ ps aim) h = differ-plain ps aim h
    done-plain (task.Become x t ps aims.Test) h = become-plain s w x (tm_of t) ps
    done-plain (task.Become x t ps (aims.Head k first)) h = absurd h
    done-plain (task.Avoid x q ps aims.Test) h = part-plain s w (differ (var x) (num q)) (task.Become x (term_with (num q)) ps aims.Test ∷ []) (tt, tt)
    done-plain (task.Avoid x q ps (aims.Head k first)) h = absurd h
    done-plain (task.Shape x f ts ps aims.Test) h = named-plain s w x f ts ps
    done-plain (task.Shape x f ts ps (aims.Head k first)) h = absurd h
    done-plain (task.Cover a k) h = absurd h
    done-plain (task.Check k head) h = absurd h
    done-plain (task.Begin k first head) h = absurd h
    done-plain task.Void h = absurd h
    done-plain task.Leave h = (subst (Each Plain) (sym (left-same (ancestors s) s)) w, tt)
    done-plain task.Close h = absurd h

  work-plain : (s : State) (ts : List Task) → Each Plain ts → EachState Plainly (step_at p sat s ts).states
  work-plain s [] h = tt
  work-plain s (t ∷ ts) h = done-plain (record s { work = ts }) h.1 t h.0

-- ---- searches

-- no case ends
never-closes : (ts : List Task) → Each Plain ts → closes ts ≡ false
never-closes [] h = refl
never-closes (t ∷ ts) h = by t h.0
  where
    by : (u : Task) → Plain u → closes (u ∷ ts) ≡ false
    by (task.Show i) k = refl
    by (task.Equate t u) k = refl
    by (task.Assume c) k = refl
    by (task.Differ ps aim) k = refl
    by (task.Become x t ps aim) k = refl
    by (task.Avoid x q ps aim) k = refl
    by (task.Shape x f us ps aim) k = refl
    by (task.Cover a j) k = refl
    by (task.Check j head) k = refl
    by (task.Begin j first head) k = refl
    by task.Void k = refl
    by task.Leave k = refl
    by task.Close k = absurd k

module _ (p : Problem) (q : Query) (positive : is_positive p q ≡ true) where
  of_clauses : (list_all is_item_positive q.body ≡ true) × (list_all (λ c. list_all is_item_positive c.body) p.program.clauses ≡ true)
  of_clauses =
      and_parts (list_all is_item_positive q.body) (list_all (λ c. list_all is_item_positive c.body) p.program.clauses)
      (and_parts (is_unchecked p.checks) (list_all is_item_positive q.body && list_all (λ c. list_all is_item_positive c.body) p.program.clauses) positive).1

  clauses : AllPositive p.program
  clauses =
      Each-from_test (λ (c : Clause). list_all is_item_positive c.body) (λ c. list_all is_item_positive c.body ≡ true) (λ c e. e) p.program.clauses of_clauses.1

  none-checked : (is : List CheckItem) → is_unchecked is ≡ true → Each Plain (map (λ i. task.Check i.clause i.head) is)
  none-checked [] e = tt
  none-checked (i ∷ is) e = absurd (cc e)

  begun : Plainly (start q p.checks)
  begun =
      Each-append Plain (map task.Show (flat_body q.body)) (map (λ i. task.Check i.clause i.head) p.checks) (shows-plain (flat_body q.body) (flat-positive [] q.body of_clauses.0))
      (none-checked p.checks
      (and_parts (is_unchecked p.checks) (list_all is_item_positive q.body && list_all (λ c. list_all is_item_positive c.body) p.program.clauses) positive).0)

  pub follows : (u : State) → IsReachable p q u → Plainly u
  follows _ itself = begun
  follows _ (after t u f i) = each-state Plainly ((search_for p q).next t) u (work-plain p.program p.sat clauses t t.work (follows t f)) i

  pub never-replaces : ComesToReplacement p q → ⊥
  never-replaces c =
      true≢false
      (sym c.inside ∙ ap (λ (b : Bool). b && innermost_inside c.state.bound c.state.covers) (never-closes c.state.work (follows c.state c.reached)))

pub finds-positive : (p : Problem) (q : Query) (budget calls : ℕ) (states : List State) → is_query_well_formed q ≡ true → is_positive p q ≡ true → calls ≤ budget
    → Each (IsReachable p q) states → HasEvent (search_for p q) budget states calls
finds-positive p q budget calls states fits positive l h = by (finds-or-replaces p q fits budget calls states l h)
  where
    by : HasEvent (search_for p q) budget states calls ⊎ ComesToReplacement p q → HasEvent (search_for p q) budget states calls
    by (inl e) = e
    by (inr c) = absurd (never-replaces p q positive c)
