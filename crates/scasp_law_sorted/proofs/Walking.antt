-- Each step from a state in which no variable is universal asks sorted lists, and what is given stays sorted.
use Rattle.std.specs.Prelude.{◌≡◌, ℕ, Bool, true, false, ◌&&◌, ◌||◌, not, max, min, if◌then◌else◌, Option, Some, None, List, [], ◌∷◌, ◌++◌, length, map, filter, reverse, ⊤}
use Rattle.std.specs.List.{flat_map}
use Rattle.std.proofs.Common.{refl, ap, sym, subst, ◌∙◌, inl}
use Rattle.std.proofs.lemmas.Bool.{true≢false}
use Rattle.std.proofs.lemmas.List.{append-nil, reverse-append}
use Rattle.scasp_list.specs.Each.{Each}
use Rattle.scasp_list.proofs.EachLemmas.{Each-append}
use Rattle.scasp_num.specs.Number.{Number}
use Rattle.scasp_search_rules.specs.declared.states.covers.Cover.{Cover}
use Rattle.scasp_search_rules.specs.declared.states.covers.Remainder.{Remainder}
use Rattle.scasp_search_rules.specs.declared.states.lines.Line.TheVariants as line
use Rattle.scasp_search_rules.specs.declared.states.outcomes.Repeated.{Repeated}
use Rattle.scasp_search_rules.specs.declared.states.outcomes.Status.{Status}
use Rattle.scasp_search_rules.specs.declared.states.outcomes.Status.TheVariants.{Entailed, Impossible, Added, Parts}
use Rattle.scasp_search_rules.specs.declared.states.state.Kind.TheVariants.{Existential, Matched, Universal}
use Rattle.scasp_search_rules.specs.declared.states.state.Literal.{Literal}
use Rattle.scasp_search_rules.specs.declared.states.state.State.{State}
use Rattle.scasp_search_rules.specs.declared.states.tasks.Aim.{Aim}
use Rattle.scasp_search_rules.specs.declared.states.tasks.Aim.TheVariants as aims
use Rattle.scasp_search_rules.specs.declared.states.tasks.Pair.{Pair}
use Rattle.scasp_search_rules.specs.declared.states.tasks.Task.{Task}
use Rattle.scasp_search_rules.specs.declared.states.tasks.Task.TheVariants as task
use Rattle.scasp_search_rules.specs.Successors.Assumptions.{assume, assume_all, status}
use Rattle.scasp_search_rules.specs.Successors.Calls.{ancestors, at_number, by_no_rule, by_rule, call, can_be_seen, differing, entered, finished, judged, leave_literal, left, looped, marked, moved, nearest, opposites, unrepeated, vars_of_clause}
use Rattle.scasp_search_rules.specs.Successors.Cases.{after_case, begin_cases, cases_of, cases_where, close_case, cover_for, ended_case, head_call, leaf_at, unbound, unbound_of, with_cover, with_head}
use Rattle.scasp_search_rules.specs.Successors.Differences.{alternatives, at_part, differ_first, differ_number, differ_pair, differ_pairs, differ_shape, differ_variables, is_matched, part_of_variables, stands_first, take_up, when_apart, when_same}
use Rattle.scasp_search_rules.specs.Successors.Equations.{becomes_number, becomes_shape, bound_if, equate_pairs, equated, equations, equations_of, replaced_if, two_variables, variable_app, variable_number}
use Rattle.scasp_search_rules.specs.Successors.Falls.{EachState}
use Rattle.scasp_search_rules.specs.Successors.Items.{body_of, number_tests, test_item, with_line}
use Rattle.scasp_search_rules.specs.Successors.Pairs.{from_first, pairs, pairs_of}
use Rattle.scasp_search_rules.specs.Successors.Reading.{among, count_from}
use Rattle.scasp_search_rules.specs.Successors.Regions.{asked_with, before, context}
use Rattle.scasp_search_rules.specs.Successors.Search.{done, step_at}
use Rattle.scasp_search_rules.specs.Successors.Steps.{each, fails, gives, goes}
use Rattle.scasp_search_rules.specs.Successors.Variables.{bind, depth_of, is_empty, is_universal, meaning, next_variable, universals_of, with_new}
use Rattle.scasp_syntax.specs.Programs.{numbered, rules_of, pred_of}
use Rattle.scasp_syntax.specs.Tm.{Tm, Tms, var, num, app, items}
use Rattle.scasp_syntax.specs.Values.{under}
use Rattle.scasp_syntax.specs.View.{tm_of}
use Rattle.scasp_syntax.specs.declared.atom.Lit.{Lit}
use Rattle.scasp_syntax.specs.declared.clause.FlatItem.{FlatItem}
use Rattle.scasp_syntax.specs.declared.clause.FlatItem.TheVariants as flat
use Rattle.scasp_syntax.specs.declared.con.Con.{Con}
use Rattle.scasp_syntax.specs.declared.con.Con.TheVariants as con
use Rattle.scasp_syntax.specs.declared.program.Program.{Program}
use Rattle.scasp_syntax.specs.declared.term.Term.TheVariants.{Var}
use Rattle.scasp_unify.specs.Negations.{new_parts}
use Rattle.scasp_unify.specs.Parts.{occurs_among}
use Rattle.scasp_unify.specs.SimpleForm.{differ, term_with}
use Rattle.scasp_unify.specs.Sorted.{Sorted}
use Rattle.scasp_unify.specs.declared.bindings.Binding.{Binding}
use Rattle.scasp_hint.specs.Satisfying.{sat}
use Rattle.scasp_law_first_event.proofs.Calls.{each-of}
use Rattle.scasp_law_first_event.proofs.EachStates.{each_append}
use Rattle.scasp_law_sorted.proofs.Assuming.{all-assumed, plain-asked, plain-assumed, row-item}
use Rattle.scasp_law_sorted.proofs.Evenness.{Bare, Even, EvenAt, Settled, SettledAt, quiet, tame-at, even-new, even-binding, even-bind, Asks, asks-goes, asks-fails, asks-gives, asks-each, asks-followed, asks-weaker, asks-bound}
use Rattle.scasp_law_no_circle.proofs.Tasks.{NoRow}

-- ---- equations

module _ (s : State) (e : Even s) where
  variables-equated : (x y : ℕ) → Asks Even (two_variables sat s x y (is_universal s x) (is_universal s y))
  variables-equated x y = by (is_universal s x) (is_universal s y) (tame-at s.made e.kinds x) (tame-at s.made e.kinds y)
    where
      by : (i j : Bool) → i ≡ false → j ≡ false → Asks Even (two_variables sat s x y i j)
      by false false f g = asks-bound (bind s (max x y) (var (min x y))) (even-bind s (max x y) (var (min x y)) e)
      by false true f g = absurd (true≢false g)
      by true j f g = absurd (true≢false f)

  number-equated : (x : ℕ) (q : Number) → Asks Even (variable_number sat s x q)
  number-equated x q = asks-followed Even Even (assume sat s (con.Num (Var x))) (becomes_number sat x q) (plain-assumed s e (con.Num (Var x)) tt) (λ r k. by r k (is_universal r x) (tame-at r.made k.kinds x))
    where
      by : (r : State) → Even r → (b : Bool) → b ≡ false → Asks Even (if b then replaced_if sat r x (num q) else bound_if sat (bind r x (num q)))
      by r k true f = absurd (true≢false f)
      by r k false f = asks-bound (bind r x (num q)) (even-bind r x (num q) k)

  shape-equated : (x f n : ℕ) → Asks Even (becomes_shape sat s x f n)
  shape-equated x f n = by (is_universal s x) (tame-at s.made e.kinds x)
    where
      t : Tm
      t = app f (new_parts (next_variable s) n)

      by : (b : Bool) → b ≡ false → Asks Even (if b then replaced_if sat (with_new s Universal (depth_of s x) n) x (app f (new_parts (next_variable s) n)) else bound_if sat (bind (with_new s Existential (depth_of s x) n) x (app f (new_parts (next_variable s) n))))
      by true g = absurd (true≢false g)
      by false g = asks-bound (bind (with_new s Existential (depth_of s x) n) x t) (even-bind (with_new s Existential (depth_of s x) n) x t (even-new s Existential (depth_of s x) n refl e))

  app-equated : (x f : ℕ) (ts : Tms) → Asks Even (variable_app sat s x f ts)
  app-equated x f ts = by (occurs_among x ts)
    where
      by : (b : Bool) → Asks Even (if b then fails else each (before (equations (new_parts (next_variable s) (length (items ts))) ts)) (becomes_shape sat s x f (length (items ts))))
      by true = asks-fails Even
      by false = asks-each Even Even (before (equations (new_parts (next_variable s) (length (items ts))) ts)) (becomes_shape sat s x f (length (items ts))) (λ r k. k) (shape-equated x f (length (items ts)))

  terms-equated : (t u : Tm) → Asks Even (equated sat s t u)
  terms-equated (var x) (var y) = variables-equated x y
  terms-equated (var x) (num q) = number-equated x q
  terms-equated (var x) (app f ts) = app-equated x f ts
  terms-equated (num q) (var y) = number-equated y q
  terms-equated (num q) (num r) = asks-fails Even
  terms-equated (num q) (app f ts) = asks-fails Even
  terms-equated (app f ts) (var y) = app-equated y f ts
  terms-equated (app f ts) (num r) = asks-fails Even
  terms-equated (app f ts) (app g us) = asks-fails Even

pairs-equated : (s : State) → Even s → (ps : List Pair) → Asks Even (equate_pairs sat s ps)
pairs-equated s e [] = asks-goes Even s e
pairs-equated s e (o ∷ ps) = terms-equated (before (equations_of ps) s) e (tm_of o.left) (tm_of o.right)

-- ---- telling apart

module _ (s : State) (e : Even s) where
  part-told : (c : Con) → NoRow c → (aim : Aim) (other : List Task) → Asks Even (at_part sat s c aim other)
  part-told c n aim other = record { asked = plain-asked s e c n; states = by (status sat s c) }
    where
      by : (o : Status) → EachState Even (alternatives s (task.Assume c ∷ when_apart aim) other o)
      by Entailed = (e, (e, tt))
      by Impossible = (e, tt)
      by Added = (e, (e, tt))
      by Parts = (e, tt)

  module _ (rest : List Pair) (aim : Aim) where
    variables-told : (x y : ℕ) → Asks Even (differ_variables sat s x y rest aim)
    variables-told x y = by (stands_first s x y)
      where
        by : (b : Bool) → Asks Even (if b then part_of_variables sat s x y rest aim else part_of_variables sat s y x rest aim)
        by true = part-told (differ (var x) (var y)) tt aim (task.Become x (Var y) rest aim ∷ [])
        by false = part-told (differ (var y) (var x)) tt aim (task.Become y (Var x) rest aim ∷ [])

    number-told : (x : ℕ) (q : Number) → Asks Even (differ_number sat s x q rest aim)
    number-told x q = part-told (con.NotNum (Var x)) tt aim (task.Assume (con.Num (Var x)) ∷ task.Avoid x q rest aim ∷ [])

    shape-told : (x f : ℕ) (ts : Tms) → Asks Even (differ_shape sat s x f ts rest aim)
    shape-told x f ts = by (occurs_among x ts)
      where
        by : (b : Bool) → Asks Even (if b then goes (before (when_apart aim) s) else at_part sat s (con.NotShape x f (length (items ts))) aim (task.Shape x f ts rest aim ∷ []))
        by true = asks-goes Even (before (when_apart aim) s) e
        by false = part-told (con.NotShape x f (length (items ts))) tt aim (task.Shape x f ts rest aim ∷ [])

    apart : Asks Even (goes (before (when_apart aim) s))
    apart = asks-goes Even (before (when_apart aim) s) e

    pair-told : (t u : Tm) → Asks Even (differ_pair sat s t u rest aim)
    pair-told (var x) (var y) = variables-told x y
    pair-told (var x) (num q) = number-told x q
    pair-told (var x) (app f ts) = shape-told x f ts
    pair-told (num q) (var y) = number-told y q
    pair-told (num q) (num r) = apart
    pair-told (num q) (app f ts) = apart
    pair-told (app f ts) (var y) = shape-told y f ts
    pair-told (app f ts) (num r) = apart
    pair-told (app f ts) (app g us) = apart

    taken-up : (t u : Tm) → Even (take_up s t u)
    taken-up t (var x) = even-binding s x t e
    taken-up t (num q) = e
    taken-up t (app f us) = e

    first-told : (t u : Tm) → Asks Even (differ_first sat s t u rest aim)
    first-told t u = by (is_matched s u)
      where
        by : (b : Bool) → Asks Even (if b then goes (before (task.Differ rest aim ∷ []) (take_up s t u)) else differ_pair sat s t u rest aim)
        by true = asks-goes Even (before (task.Differ rest aim ∷ []) (take_up s t u)) (taken-up t u)
        by false = pair-told t u

  same-told : (aim : Aim) → EachState Even (when_same aim s)
  same-told aims.Test = tt
  same-told (aims.Head k first) = (e, tt)

  pairs-told : (ps : List Pair) (aim : Aim) → Asks Even (differ_pairs sat s ps aim)
  pairs-told [] aim = asks-gives Even (when_same aim s) (same-told aim)
  pairs-told (o ∷ rest) aim = first-told rest aim (tm_of o.left) (tm_of o.right)

  -- ---- tests

  item-shown : (c : Con) → Asks Even (test_item sat s c)
  item-shown (con.Eq t u) = asks-goes Even (before (task.Equate t u ∷ []) s) e
  item-shown (con.Neq t u) = by (is_empty (universals_of s (con.Neq t u)))
    where
      by : (b : Bool) → Asks Even (if b then assume sat s (con.Neq t u) else goes (before (task.Differ (record { left = t; right = u } ∷ []) aims.Test ∷ []) s))
      by true = plain-assumed s e (con.Neq t u) tt
      by false = asks-goes Even (before (task.Differ (record { left = t; right = u } ∷ []) aims.Test ∷ []) s) e
  item-shown (con.NotShape x f n) = plain-assumed s e (con.NotShape x f n) tt
  item-shown (con.Num t) = plain-assumed s e (con.Num t) tt
  item-shown (con.NotNum t) = plain-assumed s e (con.NotNum t) tt
  item-shown (con.Row r) = by (is_empty (universals_of s (con.Row r))) (quiet s e (con.Row r))
    where
      by : (b : Bool) → b ≡ true → Asks Even (if b then assume_all sat (number_tests r ++ con.Row r ∷ []) s else assume sat s (con.Row r))
      by true f = row-item r r.coeffs s e (λ k i. inl i)
      by false f = absurd (true≢false (sym f))

-- ---- calls

module _ (p : Program) (s : State) (e : Even s) where
  marked-even : (as_open : List Literal) (ls : List Literal) → Even (marked as_open (record s { literals = ls }))
  marked-even [] ls = e
  marked-even (a ∷ rest) ls = e

  looped-even : (l : Lit) (r : Repeated) → EachState Even (looped s l r)
  looped-even l r = by (not l.positive) r.is_behind_negation
    where
      marks : (as_open : List Literal) → Even (marked as_open (with_line s (line.Loop l r.number)))
      marks [] = e
      marks (a ∷ rest) = e

      by : (a b : Bool) → EachState Even (if a then with_line s (line.Loop l r.number) ∷ [] else (if b then marked (ancestors s) (with_line s (line.Loop l r.number)) ∷ [] else []))
      by true b = (e, tt)
      by false true = (marks (ancestors s), tt)
      by false false = tt

  entered-even : (l : Lit) → EachState Even (entered p s l)
  entered-even l = by l.positive
    where
      by : (b : Bool) → EachState Even (if b then map (by_rule p s l) (rules_of p (pred_of l.atom)) else by_no_rule p s l ∷ [])
      by true = each-of Even (by_rule p s l) (λ k. even-new s Existential (length s.covers) (vars_of_clause p k) refl e) (rules_of p (pred_of l.atom))
      by false = (e, tt)

  moved-even : (a : Literal) (bs ls : List Literal) → Even (moved a bs (record s { literals = ls }))
  moved-even a [] ls = e
  moved-even a (b ∷ bs) ls = by (a.loops && a.lit.positive && b.lit.positive)
    where
      by : (d : Bool) → Even (if d then marked (b ∷ bs) (record s { literals = ls }) else record s { literals = ls })
      by true = e
      by false = e

  left-even : (ls : List Literal) → Even (left ls s)
  left-even [] = e
  left-even (a ∷ rest) = moved-even a rest (at_number a.number finished s.literals)

  all-plain : (l : Lit) (ls : List Literal) → Each NoRow (map (differing l) ls)
  all-plain l [] = tt
  all-plain l (a ∷ ls) = (tt, all-plain l ls)

call-asks : (p : Program) (s : State) → Even s → (l : Lit) → Asks Even (call p sat s l)
call-asks p s e l = by (nearest s l false (ancestors s))
  where
    fresh : (ls : List Literal) → Asks Even (unrepeated p sat s l ls)
    fresh [] =
        asks-followed Even Even (assume_all sat (map (differing l) (opposites s l)) s) (λ t. gives (entered p t l)) (all-assumed (map (differing l) (opposites s l)) (all-plain p s e l (opposites s l)) s e)
        (λ t k. asks-gives Even (entered p t l) (entered-even p t k l))
    fresh (a ∷ ls) = asks-goes Even (with_line s (line.Seen l a.number)) e

    by : (o : Option Repeated) → Asks Even (judged p sat s l o)
    by (Some r) = asks-gives Even (looped s l r) (looped-even p s e l r)
    by None = fresh (filter (can_be_seen s l) s.literals)

-- ---- cases

bare-regions : (cs : List Cover) → Each Bare cs → flat_map (λ c. c.region) cs ≡ []
bare-regions [] h = refl
bare-regions (c ∷ cs) h = ap (λ (xs : List Con). xs ++ flat_map (λ c. c.region) cs) h.0.0 ∙ bare-regions cs h.1

bare-reverse : (cs : List Cover) → Each Bare cs → Each Bare (reverse cs)
bare-reverse [] h = tt
bare-reverse (c ∷ cs) h = subst (Each Bare) (sym (reverse-append (c ∷ []) cs)) (Each-append Bare (reverse cs) (c ∷ []) (bare-reverse cs h.1) (h.0, tt))

module _ (p : Program) (s : State) (e : Settled s) where
  context-sorted : Sorted (asked_with s (context s))
  context-sorted =
      subst (λ (cs : List Con). Sorted (asked_with s cs)) (sym (ap (λ (rs : List Con). s.given ++ rs) (bare-regions (reverse s.covers) (bare-reverse s.covers e.bare)) ∙ append-nil s.given)) e.sorted

  cases-ask : (c : Cover) → Asks Settled (cases_of p sat s c)
  cases-ask c = record { asked = (context-sorted, tt); states = by (sat (asked_with s (context s))) }
    where
      body : List FlatItem
      body = body_of p c.clause c.first

      head-even : (is : List FlatItem) → EachState Settled (with_head s (body_of p c.clause c.first) is)
      head-even [] = tt
      head-even (i ∷ is) = (e, tt)

      ahead : (b : Bool) → EachState Settled (if b then with_head s (body_of p c.clause c.first) (head_call (numbered p.clauses c.clause) c.first) else [])
      ahead true = head-even (head_call (numbered p.clauses c.clause) c.first)
      ahead false = tt

      by : (b : Bool) → EachState Settled (cases_where b p s c)
      by true =
          each_append Settled (map (leaf_at s (body_of p c.clause c.first)) (count_from 0 (length (body_of p c.clause c.first)))) _
          (each-of Settled (leaf_at s (body_of p c.clause c.first)) (λ k. e) (count_from 0 (length (body_of p c.clause c.first)))) (ahead c.checks_head)
      by false = (e, tt)

begin-asks : (p : Program) (s : State) → Settled s → (k first : ℕ) (checks_head : Bool) → Asks Settled (begin_cases p sat s k first checks_head)
begin-asks p s e k first checks_head =
    let c : Cover = cover_for p s k first checks_head (unbound_of s first (vars_of_clause p k)) in
    cases-ask p (with_cover s c) (record { sorted = e.sorted; bare = ((refl, refl), e.bare) }) c

-- ---- the end of a case

-- no cover has a universal variable
abbrev pub Unowned : List Cover → Type 0
Unowned cs = Each (λ c. (u : ℕ) → among u c.universals ≡ true → ⊥) cs

all-left : (us : List ℕ) → ((u : ℕ) → among u us ≡ true → ⊥) → (bs : List Binding) → unbound us [] bs ≡ bs
all-left us none [] = refl
all-left us none (b ∷ bs) = by (among b.x us) refl (all-left us none bs)
  where
    by : (i : Bool) → among b.x us ≡ i → unbound us [] bs ≡ bs → (if not i || false then b ∷ unbound us [] bs else unbound us [] bs) ≡ b ∷ bs
    by true f rest = absurd (none b.x f)
    by false f rest = ap (λ (xs : List Binding). b ∷ xs) rest

close-asks : (p : Program) (s : State) → Even s → (cs : List Cover) → s.covers ≡ cs → Unowned cs → Asks Even (close_case p sat s cs)
close-asks p s e [] f none = asks-fails Even
close-asks p s e (c ∷ cs) f none = subst (λ (rs : List Remainder). Asks Even (after_case p sat s c cs rs)) (sym bare.0.1) (asks-goes Even (record (ended_case s c []) { covers = cs }) left-over)
  where
    bare : Each Bare (c ∷ cs)
    bare = subst (Each Bare) f e.settled.bare

    left-over : EvenAt s.made (unbound c.universals [] s.bound) s.given cs
    left-over = record {
      kinds = e.kinds;
      settled = subst (λ (bs : List Binding). SettledAt bs s.given cs) (sym (all-left c.universals none.0 s.bound)) record { sorted = e.settled.sorted; bare = bare.1 };
    }

-- ---- tasks

-- no cover begins
abbrev pub NoBeginning : Task → Type 0
NoBeginning (task.Check k checks_head) = ⊥
NoBeginning (task.Begin k first checks_head) = ⊥
NoBeginning (task.Show i) = ⊤
NoBeginning (task.Equate t u) = ⊤
NoBeginning (task.Assume c) = NoRow c
NoBeginning (task.Differ ps aim) = ⊤
NoBeginning (task.Become x t ps aim) = ⊤
NoBeginning (task.Avoid x q ps aim) = ⊤
NoBeginning (task.Shape x f ts ps aim) = ⊤
NoBeginning (task.Cover a k) = ⊤
NoBeginning task.Void = ⊤
NoBeginning task.Leave = ⊤
NoBeginning task.Close = ⊤

done-even : (p : Program) (s : State) → Even s → Unowned s.covers → (t : Task) → NoBeginning t → Asks Even (done p sat s t)
done-even p s e none (task.Show (flat.Call l)) n = call-asks p s e l
done-even p s e none (task.Show (flat.Test c)) n = item-shown (with_line s (line.Test c)) e c
done-even p s e none (task.Equate t u) n = pairs-equated s e (pairs_of (under (meaning s) (tm_of t)) (under (meaning s) (tm_of u)))
done-even p s e none (task.Assume c) n = plain-assumed s e c n
done-even p s e none (task.Differ ps aim) n = pairs-told s e (from_first (meaning s) ps) aim
done-even p s e none (task.Become x t ps aim) n = asks-each Even Even (before (task.Differ ps aim ∷ [])) (equated sat s (var x) (tm_of t)) (λ r k. k) (terms-equated s e (var x) (tm_of t))
done-even p s e none (task.Avoid x q ps aim) n = part-told s e (differ (var x) (num q)) tt aim (task.Become x (term_with (num q)) ps aim ∷ [])
done-even p s e none (task.Shape x f ts ps aim) n =
    asks-each Even Even (before (task.Differ (pairs (new_parts (next_variable s) (length (items ts))) ts ++ ps) aim ∷ [])) (becomes_shape sat s x f (length (items ts))) (λ r k. k)
    (shape-equated s e x f (length (items ts)))
done-even p s e none (task.Cover a k) n = asks-goes Even _ (even-new s Matched 0 (vars_of_clause p k) refl e)
done-even p s e none (task.Check k checks_head) n = absurd n
done-even p s e none (task.Begin k first checks_head) n = absurd n
done-even p s e none task.Void n = asks-goes Even (with_line s line.Void) e
done-even p s e none task.Leave n = asks-goes Even (leave_literal s) (left-even p s e (ancestors s))
done-even p s e none task.Close n = close-asks p s e s.covers refl none

-- no row is assumed without its number tests
abbrev pub Tested : Task → Type 0
Tested (task.Assume c) = NoRow c
Tested (task.Check k checks_head) = ⊤
Tested (task.Begin k first checks_head) = ⊤
Tested (task.Show i) = ⊤
Tested (task.Equate t u) = ⊤
Tested (task.Differ ps aim) = ⊤
Tested (task.Become x t ps aim) = ⊤
Tested (task.Avoid x q ps aim) = ⊤
Tested (task.Shape x f ts ps aim) = ⊤
Tested (task.Cover a k) = ⊤
Tested task.Void = ⊤
Tested task.Leave = ⊤
Tested task.Close = ⊤

only-settled : (r : State) → Even r → Settled r
only-settled r e = e.settled

weaker : (p : Program) (s : State) → Even s → Unowned s.covers → (t : Task) → NoBeginning t → Asks Settled (done p sat s t)
weaker p s e none t n = asks-weaker Even Settled (done p sat s t) only-settled (done-even p s e none t n)

done-settled : (p : Program) (s : State) → Even s → Unowned s.covers → (t : Task) → Tested t → Asks Settled (done p sat s t)
done-settled p s e none (task.Check k checks_head) n =
    begin-asks p (with_line (with_new s Matched 0 (vars_of_clause p k)) (line.Check k (next_variable s))) e.settled k (next_variable s) checks_head
done-settled p s e none (task.Begin k first checks_head) n = begin-asks p s e.settled k first checks_head
done-settled p s e none (task.Show i) n = weaker p s e none (task.Show i) tt
done-settled p s e none (task.Equate t u) n = weaker p s e none (task.Equate t u) tt
done-settled p s e none (task.Assume c) n = weaker p s e none (task.Assume c) n
done-settled p s e none (task.Differ ps aim) n = weaker p s e none (task.Differ ps aim) tt
done-settled p s e none (task.Become x t ps aim) n = weaker p s e none (task.Become x t ps aim) tt
done-settled p s e none (task.Avoid x q ps aim) n = weaker p s e none (task.Avoid x q ps aim) tt
done-settled p s e none (task.Shape x f ts ps aim) n = weaker p s e none (task.Shape x f ts ps aim) tt
done-settled p s e none (task.Cover a k) n = weaker p s e none (task.Cover a k) tt
done-settled p s e none task.Void n = weaker p s e none task.Void tt
done-settled p s e none task.Leave n = weaker p s e none task.Leave tt
done-settled p s e none task.Close n = weaker p s e none task.Close tt

abbrev pub FirstTested : List Task → Type 0
FirstTested [] = ⊤
FirstTested (t ∷ ts) = Tested t

pub step-settled : (p : Program) (s : State) → Even s → Unowned s.covers → (ts : List Task) → FirstTested ts → Asks Settled (step_at p sat s ts)
step-settled p s e none [] n = asks-fails Settled
step-settled p s e none (t ∷ ts) n = done-settled p (record s { work = ts }) e none t n

abbrev pub FirstNoBeginning : List Task → Type 0
FirstNoBeginning [] = ⊤
FirstNoBeginning (t ∷ ts) = NoBeginning t

pub step-even : (p : Program) (s : State) → Even s → Unowned s.covers → (ts : List Task) → FirstNoBeginning ts → Asks Even (step_at p sat s ts)
step-even p s e none [] n = asks-fails Even
step-even p s e none (t ∷ ts) n = done-even p (record s { work = ts }) e none t n
