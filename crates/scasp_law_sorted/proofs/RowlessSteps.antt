-- Each step from a state without rows asks lists without rows, and gives states without rows.
use Rattle.std.specs.Prelude.{◌≡◌, ℕ, zero, suc, Bool, true, false, ◌&&◌, not, max, min, nat_le, if◌then◌else◌, Option, Some, None, List, [], ◌∷◌, ◌++◌, length, map, filter}
use Rattle.std.specs.List.{list_all}
use Rattle.std.proofs.Common.{refl, sym}
use Rattle.scasp_list.specs.Each.{Each}
use Rattle.scasp_list.proofs.EachLemmas.{Each-append, Each-at}
use Rattle.scasp_num.specs.Number.{Number}
use Rattle.scasp_search_rules.specs.declared.states.covers.Cover.{Cover}
use Rattle.scasp_search_rules.specs.declared.states.covers.Remainder.{Remainder}
use Rattle.scasp_search_rules.specs.declared.states.lines.Line.{Line}
use Rattle.scasp_search_rules.specs.declared.states.lines.Line.TheVariants as line
use Rattle.scasp_search_rules.specs.declared.states.outcomes.Repeated.{Repeated}
use Rattle.scasp_search_rules.specs.declared.states.outcomes.Status.{Status}
use Rattle.scasp_search_rules.specs.declared.states.outcomes.Status.TheVariants.{Entailed, Impossible, Added, Parts}
use Rattle.scasp_search_rules.specs.declared.states.state.Kind.TheVariants.{Existential, Matched, Universal}
use Rattle.scasp_search_rules.specs.declared.states.state.Literal.{Literal}
use Rattle.scasp_search_rules.specs.declared.states.state.State.{State}
use Rattle.scasp_search_rules.specs.declared.states.tasks.Aim.{Aim}
use Rattle.scasp_search_rules.specs.declared.states.tasks.Aim.TheVariants as aims
use Rattle.scasp_search_rules.specs.declared.states.tasks.Pair.{Pair}
use Rattle.scasp_search_rules.specs.declared.states.tasks.Task.{Task}
use Rattle.scasp_search_rules.specs.declared.states.tasks.Task.TheVariants as task
use Rattle.scasp_search_rules.specs.Successors.Assumptions.{assume, assume_all, status}
use Rattle.scasp_search_rules.specs.Successors.Calls.{ancestors, at_number, by_no_rule, by_rule, call, can_be_seen, differing, entered, finished, head_args, judged, left, looped, marked, moved, nearest, opposites, unrepeated, vars_of_clause}
use Rattle.scasp_search_rules.specs.Successors.Cases.{after_case, begin_cases, cases_of, cases_where, close_case, cover_for, ended_case, failing_at, head_call, leaf_at, line_under, remaining, taken_up, unbound_of, with_cover, with_head, with_items}
use Rattle.scasp_search_rules.specs.Successors.Differences.{alternatives, at_part, differ_first, differ_number, differ_pair, differ_pairs, differ_shape, differ_variables, is_matched, part_of_variables, stands_first, take_up, when_apart, when_same}
use Rattle.scasp_search_rules.specs.Successors.Equations.{becomes_number, becomes_shape, bound_if, equate_pairs, equated, equations, equations_of, is_inside, mixed, replaced_if, two_universals, two_variables, variable_app, variable_number}
use Rattle.scasp_search_rules.specs.Successors.Falls.{EachState}
use Rattle.scasp_search_rules.specs.Successors.Items.{body_of, item_raised, items_of, opposite_item, test_item, with_line}
use Rattle.scasp_search_rules.specs.Successors.Pairs.{from_first, pairs, pairs_of}
use Rattle.scasp_search_rules.specs.Successors.Reading.{con_under, count_from}
use Rattle.scasp_search_rules.specs.Successors.Regions.{asked_with, before, context, is_constrained}
use Rattle.scasp_search_rules.specs.Successors.Search.{done, step_at}
use Rattle.scasp_search_rules.specs.Successors.Splits.{split_at}
use Rattle.scasp_search_rules.specs.Successors.Steps.{each, fails, gives, goes}
use Rattle.scasp_search_rules.specs.Successors.Variables.{bind, depth_of, is_empty, is_universal, meaning, next_variable, universals_of, with_new}
use Rattle.scasp_syntax.specs.Flat.{flat_after, flat_body}
use Rattle.scasp_syntax.specs.Programs.{numbered, rules_of, pred_of}
use Rattle.scasp_syntax.specs.Tm.{Tm, Tms, var, num, app, items}
use Rattle.scasp_syntax.specs.Values.{Sub, under}
use Rattle.scasp_syntax.specs.View.{tm_of}
use Rattle.scasp_syntax.specs.declared.atom.Atom.{Atom}
use Rattle.scasp_syntax.specs.declared.atom.Lit.{Lit}
use Rattle.scasp_syntax.specs.declared.clause.Clause.{Clause}
use Rattle.scasp_syntax.specs.declared.clause.FlatItem.{FlatItem}
use Rattle.scasp_syntax.specs.declared.clause.FlatItem.TheVariants as flat
use Rattle.scasp_syntax.specs.declared.clause.Item.{Item}
use Rattle.scasp_syntax.specs.declared.clause.Item.TheVariants as item
use Rattle.scasp_syntax.specs.declared.con.Con.{Con}
use Rattle.scasp_syntax.specs.declared.con.Con.TheVariants as con
use Rattle.scasp_syntax.specs.declared.program.Program.{Program}
use Rattle.scasp_syntax.specs.declared.term.Term.TheVariants.{Var}
use Rattle.scasp_unify.specs.Negations.{new_parts}
use Rattle.scasp_unify.specs.Parts.{occurs_among}
use Rattle.scasp_unify.specs.SimpleForm.{differ, term_with}
use Rattle.scasp_law_first_event.proofs.Calls.{each-of}
use Rattle.scasp_law_first_event.proofs.EachStates.{each_append, each_only_if}
use Rattle.scasp_law_no_circle.proofs.Tasks.{NoRow}
use Rattle.scasp_law_sorted.specs.Asking.{is_item_rowless}
use Rattle.scasp_law_sorted.proofs.Assuming.{plain-negated, plain-shaped}
use Rattle.scasp_law_sorted.proofs.Evenness.{Asks, asks-goes, asks-fails, asks-gives, asks-each, asks-followed}
use Rattle.scasp_law_sorted.proofs.Rowless.{CoverRowless, GivenPlain, ItemRowless, LineRowless, all-no_row, lined, TaskRowless, Rowless, RowlessAt, front, rowless-sorted, context-rowless, split-at-rowless, rowless-asked, rowless-assumed, all-rowless}

-- ---- tasks

equations-rowless : (ps : List Pair) → Each TaskRowless (equations_of ps)
equations-rowless [] = tt
equations-rowless (o ∷ ps) = (tt, equations-rowless ps)

pub shows-rowless : (is : List FlatItem) → Each ItemRowless is → Each TaskRowless (map task.Show is)
shows-rowless [] h = tt
shows-rowless (i ∷ is) h = (h.0, shows-rowless is h.1)

covers-rowless : (a : Atom) (ks : List ℕ) → Each TaskRowless (map (task.Cover a) ks)
covers-rowless a [] = tt
covers-rowless a (k ∷ ks) = (tt, covers-rowless a ks)

-- ---- bodies

pub flat-rowless : (seen : List ℕ) (is : List Item) → list_all is_item_rowless is ≡ true → Each ItemRowless (flat_after seen is)
flat-rowless seen [] e = tt
flat-rowless seen (item.Call l ∷ is) e = (tt, flat-rowless seen is e)
flat-rowless seen (item.Equal t u ∷ is) e = (tt, flat-rowless seen is e)
flat-rowless seen (item.Differ t u ∷ is) e = (tt, flat-rowless seen is e)
flat-rowless seen (item.Linear l ∷ is) e = absurd (cc e)

raised-rowless : (first : ℕ) (is : List FlatItem) → Each ItemRowless is → Each ItemRowless (map (item_raised first) is)
raised-rowless first [] h = tt
raised-rowless first (flat.Call l ∷ is) h = (tt, raised-rowless first is h.1)
raised-rowless first (flat.Test (con.Row r) ∷ is) h = absurd h.0
raised-rowless first (flat.Test (con.Eq t u) ∷ is) h = (tt, raised-rowless first is h.1)
raised-rowless first (flat.Test (con.Neq t u) ∷ is) h = (tt, raised-rowless first is h.1)
raised-rowless first (flat.Test (con.NotShape x f n) ∷ is) h = (tt, raised-rowless first is h.1)
raised-rowless first (flat.Test (con.Num t) ∷ is) h = (tt, raised-rowless first is h.1)
raised-rowless first (flat.Test (con.NotNum t) ∷ is) h = (tt, raised-rowless first is h.1)

opposite-rowless : (i : FlatItem) → ItemRowless i → ItemRowless (opposite_item i)
opposite-rowless (flat.Call l) h = tt
opposite-rowless (flat.Test c) h = plain-negated 0 c h

failing-rowless : (k : ℕ) (is : List FlatItem) → Each ItemRowless is → Each ItemRowless (failing_at k is)
failing-rowless k [] h = tt
failing-rowless zero (i ∷ is) h = (opposite-rowless i h.0, tt)
failing-rowless (suc k) (i ∷ is) h = (h.0, failing-rowless k is h.1)

-- each clause is without rows
abbrev pub AllRowless : Program → Type 0
AllRowless p = Each (λ c. list_all is_item_rowless c.body ≡ true) p.clauses

numbered-rowless : (cs : List Clause) → Each (λ c. list_all is_item_rowless c.body ≡ true) cs → (k : ℕ) (c : Clause) → numbered cs k ≡ Some c → list_all is_item_rowless c.body ≡ true
numbered-rowless cs h zero c e = absurd (cc e)
numbered-rowless cs h (suc n) c e = Each-at (λ (d : Clause). list_all is_item_rowless d.body ≡ true) cs n c h (sym e)

items-rowless : (o : Option Clause) (first : ℕ) → ((c : Clause) → o ≡ Some c → list_all is_item_rowless c.body ≡ true) → Each ItemRowless (items_of o first)
items-rowless None first h = tt
items-rowless (Some c) first h = raised-rowless first (flat_body c.body) (flat-rowless [] c.body (h c refl))

head-rowless : (o : Option Clause) (first : ℕ) → Each ItemRowless (head_call o first)
head-rowless None first = tt
head-rowless (Some c) first = by c.head
  where
    by : (o : Option Atom) → Each ItemRowless (head_call (Some (record c { head = o })) first)
    by None = tt
    by (Some a) = (tt, tt)

-- ---- lines

pub plain-under : (v : Sub) (c : Con) → NoRow c → NoRow (con_under v c)
plain-under v (con.Row r) n = absurd n
plain-under v (con.Eq t u) n = tt
plain-under v (con.Neq t u) n = tt
plain-under v (con.NotShape x f k) n = plain-shaped (v x) f k
plain-under v (con.Num t) n = tt
plain-under v (con.NotNum t) n = tt

line-under : (s : State) (l : Line) → LineRowless l → LineRowless (line_under s l)
line-under s (line.Test c) h = plain-under (meaning s) c h
line-under s (line.Split c parts) h = plain-under (meaning s) c h
line-under s (line.Pos a k ts n) h = tt
line-under s (line.Neg a n) h = tt
line-under s (line.Loop l at) h = tt
line-under s (line.Seen l at) h = tt
line-under s (line.Rule a k first) h = tt
line-under s (line.Check k first) h = tt
line-under s line.Void h = tt
line-under s (line.Leaf k) h = tt
line-under s (line.Head n) h = tt

pub lines-under : (s : State) (ls : List Line) → Each LineRowless ls → Each LineRowless (map (line_under s) ls)
lines-under s [] h = tt
lines-under s (l ∷ ls) h = (line-under s l h.0, lines-under s ls h.1)

-- ---- equations

module _ (sat : List Con → Bool) (s : State) (e : Rowless s) where
  -- whatever it is bound to
  bound-rowless : (x : ℕ) (t : Tm) → Asks Rowless (bound_if sat (bind s x t))
  bound-rowless x t = record {
    asked = (rowless-sorted (bind s x t).bound s.given (all-no_row s.given e.given), tt);
    states = each_only_if Rowless (sat (asked_with (bind s x t) s.given)) (bind s x t) e;
  }

  replaced-rowless : (x : ℕ) (t : Tm) → Asks Rowless (replaced_if sat s x t)
  replaced-rowless x t =
      let c : Con = con.Eq (Var x) (term_with t) in
      record {
        asked = (rowless-sorted s.bound (context s ++ c ∷ []) (Each-append NoRow (context s) (c ∷ []) (context-rowless s e) (tt, tt)), tt);
        states = each_only_if Rowless (sat (asked_with s (context s ++ c ∷ []))) (split_at s (depth_of s x) c) (split-at-rowless s (depth_of s x) c tt e);
      }

  mixed-rowless : (x u : ℕ) → Asks Rowless (mixed sat s x u)
  mixed-rowless x u = by (nat_le (depth_of s u) (depth_of s x) && not (is_constrained s x))
    where
      by : (b : Bool) → Asks Rowless (if b then goes (bind s x (var u)) else replaced_if sat s u (var x))
      by true = asks-goes Rowless (bind s x (var u)) e
      by false = replaced-rowless u (var x)

  universals-rowless : (x y : ℕ) → Asks Rowless (two_universals sat s x y)
  universals-rowless x y = by (is_inside s x y)
    where
      by : (b : Bool) → Asks Rowless (if b then replaced_if sat s x (var y) else replaced_if sat s y (var x))
      by true = replaced-rowless x (var y)
      by false = replaced-rowless y (var x)

  variables-rowless : (x y : ℕ) (i j : Bool) → Asks Rowless (two_variables sat s x y i j)
  variables-rowless x y false false = bound-rowless (max x y) (var (min x y))
  variables-rowless x y false true = mixed-rowless x y
  variables-rowless x y true false = mixed-rowless y x
  variables-rowless x y true true = universals-rowless x y

becomes-rowless : (sat : List Con → Bool) (s : State) → Rowless s → (x : ℕ) (q : Number) → Asks Rowless (becomes_number sat x q s)
becomes-rowless sat s e x q = by (is_universal s x)
  where
    by : (b : Bool) → Asks Rowless (if b then replaced_if sat s x (num q) else bound_if sat (bind s x (num q)))
    by true = replaced-rowless sat s e x (num q)
    by false = bound-rowless sat s e x (num q)

module _ (sat : List Con → Bool) (s : State) (e : Rowless s) where
  number-rowless : (x : ℕ) (q : Number) → Asks Rowless (variable_number sat s x q)
  number-rowless x q = asks-followed Rowless Rowless (assume sat s (con.Num (Var x))) (becomes_number sat x q) (rowless-assumed sat s e (con.Num (Var x)) tt) (λ r k. becomes-rowless sat r k x q)

  shape-rowless : (x f n : ℕ) → Asks Rowless (becomes_shape sat s x f n)
  shape-rowless x f n = by (is_universal s x)
    where
      by : (b : Bool)
          → Asks Rowless (if b then replaced_if sat (with_new s Universal (depth_of s x) n) x (app f (new_parts (next_variable s) n)) else bound_if sat (bind (with_new s Existential (depth_of s x) n) x (app f (new_parts (next_variable s) n))))
      by true = replaced-rowless sat (with_new s Universal (depth_of s x) n) e x (app f (new_parts (next_variable s) n))
      by false = bound-rowless sat (with_new s Existential (depth_of s x) n) e x (app f (new_parts (next_variable s) n))

  app-rowless : (x f : ℕ) (ts : Tms) → Asks Rowless (variable_app sat s x f ts)
  app-rowless x f ts = by (occurs_among x ts)
    where
      parts : Tms
      parts = new_parts (next_variable s) (length (items ts))

      by : (b : Bool) → Asks Rowless (if b then fails else each (before (equations (new_parts (next_variable s) (length (items ts))) ts)) (becomes_shape sat s x f (length (items ts))))
      by true = asks-fails Rowless
      by false =
          asks-each Rowless Rowless (before (equations parts ts)) (becomes_shape sat s x f (length (items ts)))
          (λ r k. front (equations parts ts) (equations-rowless (pairs parts ts)) r.given r.covers r.work r.lines k) (shape-rowless x f (length (items ts)))

  terms-rowless : (t u : Tm) → Asks Rowless (equated sat s t u)
  terms-rowless (var x) (var y) = variables-rowless sat s e x y (is_universal s x) (is_universal s y)
  terms-rowless (var x) (num q) = number-rowless x q
  terms-rowless (var x) (app f ts) = app-rowless x f ts
  terms-rowless (num q) (var y) = number-rowless y q
  terms-rowless (num q) (num r) = asks-fails Rowless
  terms-rowless (num q) (app f ts) = asks-fails Rowless
  terms-rowless (app f ts) (var y) = app-rowless y f ts
  terms-rowless (app f ts) (num r) = asks-fails Rowless
  terms-rowless (app f ts) (app g us) = asks-fails Rowless

pairs-rowless : (sat : List Con → Bool) (s : State) → Rowless s → (ps : List Pair) → Asks Rowless (equate_pairs sat s ps)
pairs-rowless sat s e [] = asks-goes Rowless s e
pairs-rowless sat s e (o ∷ ps) = terms-rowless sat (before (equations_of ps) s) (front (equations_of ps) (equations-rowless ps) s.given s.covers s.work s.lines e) (tm_of o.left) (tm_of o.right)

-- ---- telling apart

module _ (sat : List Con → Bool) (s : State) (e : Rowless s) where
  ahead : (ts : List Task) → Each TaskRowless ts → Rowless (before ts s)
  ahead ts h = front ts h s.given s.covers s.work s.lines e

  apart-rowless : (aim : Aim) → Each TaskRowless (when_apart aim)
  apart-rowless aims.Test = tt
  apart-rowless (aims.Head k first) = (tt, tt)

  part-rowless : (c : Con) → GivenPlain c → (aim : Aim) (other : List Task) → Each TaskRowless other → Asks Rowless (at_part sat s c aim other)
  part-rowless c n aim other h = record { asked = rowless-asked sat s e c n; states = by (status sat s c) }
    where
      one : Rowless (before (task.Assume c ∷ when_apart aim) s)
      one = ahead (task.Assume c ∷ when_apart aim) (n, apart-rowless aim)

      by : (o : Status) → EachState Rowless (alternatives s (task.Assume c ∷ when_apart aim) other o)
      by Entailed = (one, (ahead other h, tt))
      by Impossible = (ahead other h, tt)
      by Added = (one, (ahead other h, tt))
      by Parts = (one, tt)

  module _ (rest : List Pair) (aim : Aim) where
    apart-goes : Asks Rowless (goes (before (when_apart aim) s))
    apart-goes = asks-goes Rowless (before (when_apart aim) s) (ahead (when_apart aim) (apart-rowless aim))

    two-rowless : (x y : ℕ) → Asks Rowless (differ_variables sat s x y rest aim)
    two-rowless x y = by (stands_first s x y)
      where
        by : (b : Bool) → Asks Rowless (if b then part_of_variables sat s x y rest aim else part_of_variables sat s y x rest aim)
        by true = part-rowless (differ (var x) (var y)) tt aim (task.Become x (Var y) rest aim ∷ []) (tt, tt)
        by false = part-rowless (differ (var y) (var x)) tt aim (task.Become y (Var x) rest aim ∷ []) (tt, tt)

    value-rowless : (x : ℕ) (q : Number) → Asks Rowless (differ_number sat s x q rest aim)
    value-rowless x q = part-rowless (con.NotNum (Var x)) tt aim (task.Assume (con.Num (Var x)) ∷ task.Avoid x q rest aim ∷ []) (tt, (tt, tt))

    name-rowless : (x f : ℕ) (ts : Tms) → Asks Rowless (differ_shape sat s x f ts rest aim)
    name-rowless x f ts = by (occurs_among x ts)
      where
        by : (b : Bool) → Asks Rowless (if b then goes (before (when_apart aim) s) else at_part sat s (con.NotShape x f (length (items ts))) aim (task.Shape x f ts rest aim ∷ []))
        by true = apart-goes
        by false = part-rowless (con.NotShape x f (length (items ts))) tt aim (task.Shape x f ts rest aim ∷ []) (tt, tt)

    pair-rowless : (t u : Tm) → Asks Rowless (differ_pair sat s t u rest aim)
    pair-rowless (var x) (var y) = two-rowless x y
    pair-rowless (var x) (num q) = value-rowless x q
    pair-rowless (var x) (app f ts) = name-rowless x f ts
    pair-rowless (num q) (var y) = value-rowless y q
    pair-rowless (num q) (num r) = apart-goes
    pair-rowless (num q) (app f ts) = apart-goes
    pair-rowless (app f ts) (var y) = name-rowless y f ts
    pair-rowless (app f ts) (num r) = apart-goes
    pair-rowless (app f ts) (app g us) = apart-goes

    taken-rowless : (t u : Tm) → Rowless (before (task.Differ rest aim ∷ []) (take_up s t u))
    taken-rowless t (var x) = ahead (task.Differ rest aim ∷ []) (tt, tt)
    taken-rowless t (num q) = ahead (task.Differ rest aim ∷ []) (tt, tt)
    taken-rowless t (app f us) = ahead (task.Differ rest aim ∷ []) (tt, tt)

    first-rowless : (t u : Tm) → Asks Rowless (differ_first sat s t u rest aim)
    first-rowless t u = by (is_matched s u)
      where
        by : (b : Bool) → Asks Rowless (if b then goes (before (task.Differ rest aim ∷ []) (take_up s t u)) else differ_pair sat s t u rest aim)
        by true = asks-goes Rowless (before (task.Differ rest aim ∷ []) (take_up s t u)) (taken-rowless t u)
        by false = pair-rowless t u

  same-rowless : (aim : Aim) → EachState Rowless (when_same aim s)
  same-rowless aims.Test = tt
  same-rowless (aims.Head k first) = (ahead (task.Begin k first false ∷ []) (tt, tt), tt)

  differ-rowless : (ps : List Pair) (aim : Aim) → Asks Rowless (differ_pairs sat s ps aim)
  differ-rowless [] aim = asks-gives Rowless (when_same aim s) (same-rowless aim)
  differ-rowless (o ∷ rest) aim = first-rowless rest aim (tm_of o.left) (tm_of o.right)

  -- ---- tests

  item-rowless : (c : Con) → NoRow c → Asks Rowless (test_item sat s c)
  item-rowless (con.Row r) n = absurd n
  item-rowless (con.Eq t u) n = asks-goes Rowless (before (task.Equate t u ∷ []) s) (ahead (task.Equate t u ∷ []) (tt, tt))
  item-rowless (con.Neq t u) n = by (is_empty (universals_of s (con.Neq t u)))
    where
      by : (b : Bool) → Asks Rowless (if b then assume sat s (con.Neq t u) else goes (before (task.Differ (record { left = t; right = u } ∷ []) aims.Test ∷ []) s))
      by true = rowless-assumed sat s e (con.Neq t u) tt
      by false = asks-goes Rowless (before (task.Differ (record { left = t; right = u } ∷ []) aims.Test ∷ []) s) (ahead (task.Differ (record { left = t; right = u } ∷ []) aims.Test ∷ []) (tt, tt))
  item-rowless (con.NotShape x f n) h = rowless-assumed sat s e (con.NotShape x f n) tt
  item-rowless (con.Num t) n = rowless-assumed sat s e (con.Num t) tt
  item-rowless (con.NotNum t) n = rowless-assumed sat s e (con.NotNum t) tt

-- ---- calls

module _ (p : Program) (all : AllRowless p) where
  body-rowless : (k first : ℕ) → Each ItemRowless (body_of p k first)
  body-rowless k first = items-rowless (numbered p.clauses k) first (numbered-rowless p.clauses all k)

  module _ (s : State) (e : Rowless s) where
    rule-rowless : (l : Lit) (k : ℕ) → Rowless (by_rule p s l k)
    rule-rowless l k =
        front (equations l.atom.args (head_args p k (next_variable s)) ++ map task.Show (body_of p k (next_variable s)) ++ task.Leave ∷ [])
        (Each-append TaskRowless (equations l.atom.args (head_args p k (next_variable s)) ++ map task.Show (body_of p k (next_variable s))) (task.Leave ∷ [])
        (Each-append TaskRowless (equations l.atom.args (head_args p k (next_variable s))) (map task.Show (body_of p k (next_variable s))) (equations-rowless (pairs l.atom.args (head_args p k (next_variable s))))
        (shows-rowless (body_of p k (next_variable s)) (body-rowless k (next_variable s))))
        (tt, tt)) s.given s.covers s.work (s.lines ++ line.Pos l.atom k (new_parts (next_variable s) (vars_of_clause p k)) (length (body_of p k (next_variable s))) ∷ [])
        (lined (line.Pos l.atom k (new_parts (next_variable s) (vars_of_clause p k)) (length (body_of p k (next_variable s)))) tt s.given s.covers s.work s.lines e)

    no-rule-rowless : (l : Lit) → Rowless (by_no_rule p s l)
    no-rule-rowless l =
        front (map (task.Cover l.atom) (rules_of p (pred_of l.atom)) ++ task.Leave ∷ [])
        (Each-append TaskRowless (map (task.Cover l.atom) (rules_of p (pred_of l.atom))) (task.Leave ∷ []) (covers-rowless l.atom (rules_of p (pred_of l.atom))) (tt, tt)) s.given s.covers s.work (s.lines ++ line.Neg l.atom (length (rules_of p (pred_of l.atom))) ∷ []) (lined (line.Neg l.atom (length (rules_of p (pred_of l.atom)))) tt s.given s.covers s.work s.lines e)

    entered-rowless : (l : Lit) → EachState Rowless (entered p s l)
    entered-rowless l = by l.positive
      where
        by : (b : Bool) → EachState Rowless (if b then map (by_rule p s l) (rules_of p (pred_of l.atom)) else by_no_rule p s l ∷ [])
        by true = each-of Rowless (by_rule p s l) (rule-rowless l) (rules_of p (pred_of l.atom))
        by false = (no-rule-rowless l, tt)

    looped-rowless : (l : Lit) (r : Repeated) → EachState Rowless (looped s l r)
    looped-rowless l r = by (not l.positive) r.is_behind_negation
      where
        told : Rowless (with_line s (line.Loop l r.number))
        told = lined (line.Loop l r.number) tt s.given s.covers s.work s.lines e

        marks : (as_open : List Literal) → Rowless (marked as_open (with_line s (line.Loop l r.number)))
        marks [] = lined (line.Loop l r.number) tt s.given s.covers s.work s.lines e
        marks (a ∷ rest) = lined (line.Loop l r.number) tt s.given s.covers s.work s.lines e

        by : (a b : Bool) → EachState Rowless (if a then with_line s (line.Loop l r.number) ∷ [] else (if b then marked (ancestors s) (with_line s (line.Loop l r.number)) ∷ [] else []))
        by true b = (told, tt)
        by false true = (marks (ancestors s), tt)
        by false false = tt

    moved-rowless : (a : Literal) (bs ls : List Literal) → Rowless (moved a bs (record s { literals = ls }))
    moved-rowless a [] ls = e
    moved-rowless a (b ∷ bs) ls = by (a.loops && a.lit.positive && b.lit.positive)
      where
        by : (d : Bool) → Rowless (if d then marked (b ∷ bs) (record s { literals = ls }) else record s { literals = ls })
        by true = e
        by false = e

    left-rowless : (ls : List Literal) → Rowless (left ls s)
    left-rowless [] = e
    left-rowless (a ∷ rest) = moved-rowless a rest (at_number a.number finished s.literals)

  all-plain : (l : Lit) (ls : List Literal) → Each GivenPlain (map (differing l) ls)
  all-plain l [] = tt
  all-plain l (a ∷ ls) = (tt, all-plain l ls)

  module _ (sat : List Con → Bool) (s : State) (e : Rowless s) where
    call-rowless : (l : Lit) → Asks Rowless (call p sat s l)
    call-rowless l = by (nearest s l false (ancestors s))
      where
        fresh : (ls : List Literal) → Asks Rowless (unrepeated p sat s l ls)
        fresh [] =
            asks-followed Rowless Rowless (assume_all sat (map (differing l) (opposites s l)) s) (λ t. gives (entered p t l)) (all-rowless sat (map (differing l) (opposites s l)) (all-plain l (opposites s l)) s e)
            (λ t k. asks-gives Rowless (entered p t l) (entered-rowless t k l))
        fresh (a ∷ ls) = asks-goes Rowless (with_line s (line.Seen l a.number)) (lined (line.Seen l a.number) tt s.given s.covers s.work s.lines e)

        by : (o : Option Repeated) → Asks Rowless (judged p sat s l o)
        by (Some r) = asks-gives Rowless (looped s l r) (looped-rowless s e l r)
        by None = fresh (filter (can_be_seen s l) s.literals)

    -- ---- cases

    items-shown : (l : Line) → LineRowless l → (is : List FlatItem) → Each ItemRowless is → Rowless (with_items s l is)
    items-shown l n is h =
        front (map task.Show is ++ task.Close ∷ []) (Each-append TaskRowless (map task.Show is) (task.Close ∷ []) (shows-rowless is h) (tt, tt)) s.given s.covers s.work (s.lines ++ l ∷ [])
        (lined l n s.given s.covers s.work s.lines e)

    head-shown : (body is : List FlatItem) → Each ItemRowless body → Each ItemRowless is → EachState Rowless (with_head s body is)
    head-shown body [] b h = tt
    head-shown body (i ∷ is) b h = (items-shown (line.Head (suc (length body))) tt (body ++ i ∷ []) (Each-append ItemRowless body (i ∷ []) b (h.0, tt)), tt)

    cases-rowless : (c : Cover) → Asks Rowless (cases_of p sat s c)
    cases-rowless c = record { asked = (rowless-sorted s.bound (context s) (context-rowless s e), tt); states = by (sat (asked_with s (context s))) }
      where
        b : Each ItemRowless (body_of p c.clause c.first)
        b = body-rowless c.clause c.first

        last : (h : Bool) → EachState Rowless (if h then with_head s (body_of p c.clause c.first) (head_call (numbered p.clauses c.clause) c.first) else [])
        last true = head-shown (body_of p c.clause c.first) (head_call (numbered p.clauses c.clause) c.first) b (head-rowless (numbered p.clauses c.clause) c.first)
        last false = tt

        by : (d : Bool) → EachState Rowless (cases_where d p s c)
        by true =
            each_append Rowless (map (leaf_at s (body_of p c.clause c.first)) (count_from 0 (length (body_of p c.clause c.first)))) _
            (each-of Rowless (leaf_at s (body_of p c.clause c.first)) (λ k. items-shown (line.Leaf (suc k)) tt (failing_at k (body_of p c.clause c.first)) (failing-rowless k (body_of p c.clause c.first) b))
            (count_from 0 (length (body_of p c.clause c.first)))) (last c.checks_head)
        by false = (front (task.Close ∷ []) (tt, tt) s.given s.covers s.work (s.lines ++ line.Void ∷ []) (lined line.Void tt s.given s.covers s.work s.lines e), tt)

  begin-rowless : (sat : List Con → Bool) (s : State) → Rowless s → (k first : ℕ) (checks_head : Bool) → Asks Rowless (begin_cases p sat s k first checks_head)
  begin-rowless sat s e k first checks_head =
      let c : Cover = cover_for p s k first checks_head (unbound_of s first (vars_of_clause p k)) in
      cases-rowless sat (with_cover s c) (record { given = e.given; covers = ((tt, tt, e.lines), e.covers); work = e.work; lines = tt }) c

  close-rowless : (sat : List Con → Bool) (s : State) → Rowless s → Asks Rowless (close_case p sat s s.covers)
  close-rowless sat s e = by s.covers e.covers
    where
      by : (cs : List Cover) → Each CoverRowless cs → Asks Rowless (close_case p sat s cs)
      by [] h = asks-fails Rowless
      by (c ∷ cs) h = after c.waiting h.0.1
        where
          kept : Each LineRowless (c.before ++ map (line_under s) s.lines)
          kept = Each-append LineRowless c.before (map (line_under s) s.lines) h.0.2 (lines-under s s.lines e.lines)

          after : (rs : List Remainder) → Each (λ r. Each NoRow r.region) rs → Asks Rowless (after_case p sat s c cs rs)
          after [] k = asks-goes Rowless (record (ended_case s c []) { covers = cs }) record { given = e.given; covers = h.1; work = e.work; lines = kept }
          after (r ∷ rs) k =
              let t : State = ended_case s c r.replaced in
              let d : Cover = remaining c r rs t.cases t.lines in
              cases-rowless sat (taken_up t r d cs) (record { given = e.given; covers = ((k.0, k.1, kept), h.1); work = e.work; lines = tt }) d

  -- ---- tasks

  done-rowless : (sat : List Con → Bool) (s : State) → Rowless s → (t : Task) → TaskRowless t → Asks Rowless (done p sat s t)
  done-rowless sat s e (task.Show (flat.Call l)) n = call-rowless sat s e l
  done-rowless sat s e (task.Show (flat.Test c)) n = item-rowless sat (with_line s (line.Test c)) (lined (line.Test c) n s.given s.covers s.work s.lines e) c n
  done-rowless sat s e (task.Equate t u) n = pairs-rowless sat s e (pairs_of (under (meaning s) (tm_of t)) (under (meaning s) (tm_of u)))
  done-rowless sat s e (task.Assume c) n = rowless-assumed sat s e c n
  done-rowless sat s e (task.Differ ps aim) n = differ-rowless sat s e (from_first (meaning s) ps) aim
  done-rowless sat s e (task.Become x t ps aim) n =
      asks-each Rowless Rowless (before (task.Differ ps aim ∷ [])) (equated sat s (var x) (tm_of t)) (λ r k. front (task.Differ ps aim ∷ []) (tt, tt) r.given r.covers r.work r.lines k) (terms-rowless sat s e (var x) (tm_of t))
  done-rowless sat s e (task.Avoid x q ps aim) n = part-rowless sat s e (differ (var x) (num q)) tt aim (task.Become x (term_with (num q)) ps aim ∷ []) (tt, tt)
  done-rowless sat s e (task.Shape x f ts ps aim) n =
      asks-each Rowless Rowless (before (task.Differ (pairs (new_parts (next_variable s) (length (items ts))) ts ++ ps) aim ∷ [])) (becomes_shape sat s x f (length (items ts)))
      (λ r k. front (task.Differ (pairs (new_parts (next_variable s) (length (items ts))) ts ++ ps) aim ∷ []) (tt, tt) r.given r.covers r.work r.lines k) (shape-rowless sat s e x f (length (items ts)))
  done-rowless sat s e (task.Cover a k) n =
      asks-goes Rowless _
      (front (task.Differ (pairs a.args (head_args p k (next_variable s))) (aims.Head k (next_variable s)) ∷ []) (tt, tt) s.given s.covers s.work (s.lines ++ line.Rule a k (next_variable s) ∷ [])
      (lined (line.Rule a k (next_variable s)) tt s.given s.covers s.work s.lines e))
  done-rowless sat s e (task.Check k checks_head) n = begin-rowless sat (with_line (with_new s Matched 0 (vars_of_clause p k)) (line.Check k (next_variable s))) (lined (line.Check k (next_variable s)) tt s.given s.covers s.work s.lines e) k (next_variable s) checks_head
  done-rowless sat s e (task.Begin k first checks_head) n = begin-rowless sat s e k first checks_head
  done-rowless sat s e task.Void n = asks-goes Rowless (with_line s line.Void) (lined line.Void tt s.given s.covers s.work s.lines e)
  done-rowless sat s e task.Leave n = asks-goes Rowless (left (ancestors s) s) (left-rowless s e (ancestors s))
  done-rowless sat s e task.Close n = close-rowless sat s e

  pub step-rowless : (sat : List Con → Bool) (s : State) (ts : List Task) → RowlessAt s.given s.covers ts s.lines → Asks Rowless (step_at p sat s ts)
  step-rowless sat s [] e = asks-fails Rowless
  step-rowless sat s (t ∷ ts) e = done-rowless sat (record s { work = ts }) (record { given = e.given; covers = e.covers; work = e.work.1; lines = e.lines }) t e.work.0
