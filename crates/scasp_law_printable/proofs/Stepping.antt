-- Each step from a state within the table gives states within it.
use Rattle.std.specs.Prelude.{ℕ, suc, ◌<◌, Bool, true, false, ◌||◌, not, if◌then◌else◌, Option, Some, None, List, [], ◌∷◌, ◌++◌, length, map, filter}
use Rattle.scasp_list.specs.Each.{Each}
use Rattle.scasp_list.proofs.EachLemmas.{Each-append, Each-filter}
use Rattle.scasp_num.specs.declared.linear.Coeff.{Coeff}
use Rattle.scasp_search_rules.specs.declared.states.covers.Cover.{Cover}
use Rattle.scasp_search_rules.specs.declared.states.covers.Remainder.{Remainder}
use Rattle.scasp_search_rules.specs.declared.states.lines.Line.{Line}
use Rattle.scasp_search_rules.specs.declared.states.lines.Line.TheVariants as line
use Rattle.scasp_search_rules.specs.declared.states.outcomes.Repeated.{Repeated}
use Rattle.scasp_search_rules.specs.declared.states.state.Kind.TheVariants.{Existential, Matched}
use Rattle.scasp_search_rules.specs.declared.states.state.Literal.{Literal}
use Rattle.scasp_search_rules.specs.declared.states.state.State.{State}
use Rattle.scasp_search_rules.specs.declared.states.tasks.Aim.{Aim}
use Rattle.scasp_search_rules.specs.declared.states.tasks.Aim.TheVariants as aims
use Rattle.scasp_search_rules.specs.declared.states.tasks.Pair.{Pair}
use Rattle.scasp_search_rules.specs.declared.states.tasks.Task.{Task}
use Rattle.scasp_search_rules.specs.declared.states.tasks.Task.TheVariants as task
use Rattle.scasp_search_rules.specs.Successors.Assumptions.{assume, assume_all}
use Rattle.scasp_search_rules.specs.Successors.Calls.{ancestors, by_no_rule, by_rule, call, can_be_seen, covered, differing, entered, head_args, is_free, is_opposite, judged, looped, marked, nearest, opposites, unrepeated, vars_of_clause, with_literal}
use Rattle.scasp_search_rules.specs.Successors.Differences.{same_shape, same_value}
use Rattle.scasp_search_rules.specs.Successors.Cases.{after_case, begin_cases, cases_of, cases_where, close_case, cover_for, ended_case, failing_at, head_call, leaf_at, line_under, remaining, replaced_now, taken_up, unbound_of, with_cover, with_head, with_items}
use Rattle.scasp_search_rules.specs.Successors.Equations.{becomes_shape, equated, equations}
use Rattle.scasp_search_rules.specs.Successors.Items.{body_of, number_tests, test_item, with_line}
use Rattle.scasp_search_rules.specs.Successors.Pairs.{from_first, pairs, pairs_of}
use Rattle.scasp_search_rules.specs.Successors.Reading.{among, count_from}
use Rattle.scasp_search_rules.specs.Successors.Regions.{asked_with, before, context}
use Rattle.scasp_search_rules.specs.Successors.Search.{done, step_at}
use Rattle.scasp_search_rules.specs.Successors.Steps.{goes}
use Rattle.scasp_search_rules.specs.Successors.Variables.{is_empty, meaning, next_variable, universals_of, with_new}
use Rattle.scasp_syntax.specs.Programs.{numbered, rules_of, pred_of}
use Rattle.scasp_syntax.specs.Tm.{Tms, var, num, app, items}
use Rattle.scasp_syntax.specs.Values.{raised, under}
use Rattle.scasp_syntax.specs.View.{tm_of}
use Rattle.scasp_syntax.specs.declared.atom.Atom.{Atom}
use Rattle.scasp_syntax.specs.declared.atom.Lit.{Lit}
use Rattle.scasp_syntax.specs.declared.clause.FlatItem.{FlatItem}
use Rattle.scasp_syntax.specs.declared.clause.FlatItem.TheVariants as flat
use Rattle.scasp_syntax.specs.declared.con.Con.{Con}
use Rattle.scasp_syntax.specs.declared.con.Con.TheVariants as con
use Rattle.scasp_syntax.specs.declared.program.Program.{Program}
use Rattle.scasp_syntax.specs.declared.term.Term.{Term}
use Rattle.scasp_syntax.specs.declared.term.Term.TheVariants.{Var}
use Rattle.scasp_unify.specs.Negations.{new_parts}
use Rattle.scasp_unify.specs.SimpleForm.{differ, list_term, term_with}
use Rattle.scasp_unify.specs.declared.bindings.Binding.{Binding}
use Rattle.scasp_law_outcomes.proofs.Standing.{each-followed, each-made, each-mapped}
use Rattle.scasp_law_printable.specs.Within.{AllWithin, AtomWithin, ClauseWithin, ConWithin, Within}
use Rattle.scasp_law_printable.proofs.Bodies.{args-within, covers-within, failing-within, head-within, items-within, kept-within, left-held, lines-under-within, marked-held, numbered-within, shows-within, terms-of}
use Rattle.scasp_law_printable.proofs.Equating.{ahead, differ-held, equated-held, equations-within, part-held, shape-held, terms-held}
use Rattle.scasp_law_printable.proofs.Standing.{CoverWithin, EquationWithin, FlatWithin, Held, HeldAt, LineWithin, LiteralWithin, RemainderWithin, TaskWithin, all-assumed-held, assumed-held, front, lined, reads}
use Rattle.scasp_law_printable.proofs.Terms.{BindingWithin, PairWithin, all-under-within, differ-within, first-within, list-within, new-within, pairs-within, seen, taken-within, under-within}

module _ (count : ℕ) (two : 1 < count) (p : Program) (all : Each (ClauseWithin count) p.clauses) where
  body-within : (k first : ℕ) → Each (FlatWithin count) (body_of p k first)
  body-within k first = items-within count (numbered p.clauses k) first (numbered-within count p.clauses all k)

  heads-within : (k first : ℕ) → AllWithin count (head_args p k first)
  heads-within k first = all-under-within count (raised first) (λ x. tt) _ (args-within count (numbered p.clauses k) (numbered-within count p.clauses all k))

  -- ---- calls

  literal-held : (l : Lit) → AtomWithin count l.atom → (t : State) → Held count t → Held count (with_literal t l)
  literal-held l h t e = record { bound = e.bound; given = e.given; covers = e.covers; literals = Each-append (LiteralWithin count) t.literals _ e.literals (h, tt); work = e.work; lines = e.lines }

  module _ (s : State) (e : Held count s) where
    line-held : (l : Line) → LineWithin count l → Held count (with_line s l)
    line-held l h = lined count l h s.bound s.given s.covers s.literals s.work s.lines e

    rule-held : (l : Lit) → AtomWithin count l.atom → (k : ℕ) → Held count (by_rule p s l k)
    rule-held l h k =
        let first : ℕ = next_variable s in
        let m : Line = line.Pos l.atom k (new_parts first (vars_of_clause p k)) (length (body_of p k first)) in
        let t : State = with_line (with_new s Existential (length s.covers) (vars_of_clause p k)) m in
        let u : State = with_literal t l in
        front count (equations l.atom.args (head_args p k first) ++ map task.Show (body_of p k first) ++ task.Leave ∷ [])
        (Each-append (TaskWithin count) (equations l.atom.args (head_args p k first) ++ map task.Show (body_of p k first)) (task.Leave ∷ [])
        (Each-append (TaskWithin count) (equations l.atom.args (head_args p k first)) (map task.Show (body_of p k first))
        (equations-within count (pairs l.atom.args (head_args p k first)) (pairs-within count l.atom.args (head_args p k first) h.2 (heads-within k first)))
        (shows-within count (body_of p k first) (body-within k first)))
        (tt, tt)) u.bound u.given u.covers u.literals u.work u.lines (literal-held l h t (line-held m (h, new-within count first (vars_of_clause p k))))

    no-rule-held : (l : Lit) → AtomWithin count l.atom → Held count (by_no_rule p s l)
    no-rule-held l h =
        let m : Line = line.Neg l.atom (length (rules_of p (pred_of l.atom))) in
        let t : State = with_line s m in
        let u : State = with_literal t l in
        front count (map (task.Cover l.atom) (rules_of p (pred_of l.atom)) ++ task.Leave ∷ [])
        (Each-append (TaskWithin count) (map (task.Cover l.atom) (rules_of p (pred_of l.atom))) (task.Leave ∷ []) (covers-within count l.atom h (rules_of p (pred_of l.atom))) (tt, tt))
        u.bound u.given u.covers u.literals u.work u.lines (literal-held l h t (line-held m h))

    entered-held : (l : Lit) → AtomWithin count l.atom → Each (Held count) (entered p s l)
    entered-held l h = by l.positive
      where
        by : (b : Bool) → Each (Held count) (if b then map (by_rule p s l) (rules_of p (pred_of l.atom)) else by_no_rule p s l ∷ [])
        by true = each-made (Held count) (by_rule p s l) (rule-held l h) (rules_of p (pred_of l.atom))
        by false = (no-rule-held l h, tt)

    looped-held : (l : Lit) → AtomWithin count l.atom → (r : Repeated) → Each (Held count) (looped s l r)
    looped-held l h r = by (not l.positive) r.is_behind_negation
      where
        by : (a b : Bool) → Each (Held count) (if a then with_line s (line.Loop l r.number) ∷ [] else (if b then marked (ancestors s) (with_line s (line.Loop l r.number)) ∷ [] else []))
        by true b = (line-held (line.Loop l r.number) h, tt)
        by false true = (marked-held count (ancestors s) (with_line s (line.Loop l r.number)) (line-held (line.Loop l r.number) h), tt)
        by false false = tt

  -- the arguments of literals of other signs, as lists
  differing-within : (l : Lit) → AtomWithin count l.atom → (lits : List Literal) → Each (LiteralWithin count) lits → Each (ConWithin count) (map (differing l) lits)
  differing-within l h [] k = tt
  differing-within l h (a ∷ lits) k = (
    differ-within count (list_term (items l.atom.args)) (list_term (items a.lit.atom.args)) (list-within count two (items l.atom.args) (terms-of count l.atom.args h.2))
        (list-within count two (items a.lit.atom.args) (terms-of count a.lit.atom.args k.0.2)),
    differing-within l h lits k.1,
  )

  module _ (sat : List Con → Bool) (s : State) (e : Held count s) where
    opposites-within : (l : Lit) → Each (LiteralWithin count) (opposites s l)
    opposites-within l = by (is_free s l)
      where
        by : (b : Bool) → Each (LiteralWithin count) (if b then filter (is_opposite s l) s.literals else [])
        by true = Each-filter (LiteralWithin count) (is_opposite s l) s.literals e.literals
        by false = tt

    call-held : (l : Lit) → AtomWithin count l.atom → Each (Held count) (call p sat s l).states
    call-held l h = by (nearest s l false (ancestors s))
      where
        fresh : (lits : List Literal) → Each (Held count) (unrepeated p sat s l lits).states
        fresh [] =
            each-followed (Held count) (λ t. record { asked = []; states = entered p t l }) (λ t k. entered-held t k l h) (assume_all sat (map (differing l) (opposites s l)) s).states
            (all-assumed-held count two sat (map (differing l) (opposites s l)) (differing-within l h (opposites s l) (opposites-within l)) s e)
        fresh (a ∷ lits) = (line-held s e (line.Seen l a.number) h, tt)

        by : (o : Option Repeated) → Each (Held count) (judged p sat s l o).states
        by (Some r) = looped-held s e l h r
        by None = fresh (filter (can_be_seen s l) s.literals)

    -- ---- cases

    items-shown : (l : Line) → LineWithin count l → (is : List FlatItem) → Each (FlatWithin count) is → Held count (with_items s l is)
    items-shown l n is h =
        front count (map task.Show is ++ task.Close ∷ []) (Each-append (TaskWithin count) (map task.Show is) (task.Close ∷ []) (shows-within count is h) (tt, tt))
        s.bound s.given s.covers s.literals s.work (s.lines ++ l ∷ []) (line-held s e l n)

    head-shown : (body is : List FlatItem) → Each (FlatWithin count) body → Each (FlatWithin count) is → Each (Held count) (with_head s body is)
    head-shown body [] b h = tt
    head-shown body (i ∷ is) b h = (items-shown (line.Head (suc (length body))) tt (body ++ i ∷ []) (Each-append (FlatWithin count) body (i ∷ []) b (h.0, tt)), tt)

    cases-held : (c : Cover) → Each (Held count) (cases_of p sat s c).states
    cases-held c = by (sat (asked_with s (context s)))
      where
        b : Each (FlatWithin count) (body_of p c.clause c.first)
        b = body-within c.clause c.first

        last : (h : Bool) → Each (Held count) (if h then with_head s (body_of p c.clause c.first) (head_call (numbered p.clauses c.clause) c.first) else [])
        last true = head-shown (body_of p c.clause c.first) (head_call (numbered p.clauses c.clause) c.first) b (head-within count (numbered p.clauses c.clause) c.first (numbered-within count p.clauses all c.clause))
        last false = tt

        by : (d : Bool) → Each (Held count) (cases_where d p s c)
        by true =
            Each-append (Held count) (map (leaf_at s (body_of p c.clause c.first)) (count_from 0 (length (body_of p c.clause c.first)))) _
            (each-made (Held count) (leaf_at s (body_of p c.clause c.first)) (λ k. items-shown (line.Leaf (suc k)) tt (failing_at k (body_of p c.clause c.first)) (failing-within count k (body_of p c.clause c.first) b))
            (count_from 0 (length (body_of p c.clause c.first)))) (last c.checks_head)
        by false = (front count (task.Close ∷ []) (tt, tt) s.bound s.given s.covers s.literals s.work (s.lines ++ line.Void ∷ []) (line-held s e line.Void tt), tt)

  begin-held : (sat : List Con → Bool) (s : State) → Held count s → (k first : ℕ) (checks_head : Bool) → Each (Held count) (begin_cases p sat s k first checks_head).states
  begin-held sat s e k first checks_head =
      let c : Cover = cover_for p s k first checks_head (unbound_of s first (vars_of_clause p k)) in
      cases-held sat (with_cover s c) (record { bound = e.bound; given = e.given; covers = ((tt, tt, e.lines), e.covers); literals = e.literals; work = e.work; lines = tt }) c

  equation-kept : (s : State) → Held count s → (o : Option Binding) → EquationWithin count o → Each (BindingWithin count) (replaced_now s o)
  equation-kept s e None h = tt
  equation-kept s e (Some b) h = (seen count (under (meaning s) (tm_of b.term)) (under-within count (meaning s) (reads count s e) (tm_of b.term) h), tt)

  ended-held : (s : State) → Held count s → (c : Cover) → CoverWithin count c → (but : List ℕ) → Held count (ended_case s c but)
  ended-held s e c h but = record {
    bound = Each-filter (BindingWithin count) (λ b. not (among b.x c.universals) || among b.x but) s.bound e.bound;
    given = e.given;
    covers = e.covers;
    literals = kept-within count s e c.universals s.literals e.literals;
    work = e.work;
    lines = Each-append (LineWithin count) c.before (map (line_under s) s.lines) h.2 (lines-under-within count s e s.lines e.lines);
  }

  close-held : (sat : List Con → Bool) (s : State) → Held count s → Each (Held count) (close_case p sat s s.covers).states
  close-held sat s e = by s.covers e.covers
    where
      by : (cs : List Cover) → Each (CoverWithin count) cs → Each (Held count) (close_case p sat s cs).states
      by [] h = tt
      by (c ∷ cs) h = after c.waiting h.0.1
        where
          after : (rs : List Remainder) → Each (RemainderWithin count) rs → Each (Held count) (after_case p sat s c cs rs).states
          after [] k =
              let t : Held count (ended_case s c []) = ended-held s e c h.0 [] in
              (record { bound = t.bound; given = t.given; covers = h.1; literals = t.literals; work = t.work; lines = t.lines }, tt)
          after (r ∷ rs) k =
              let t : State = ended_case s c r.replaced in
              let d : Cover = remaining c r rs t.cases t.lines in
              let f : Held count t = ended-held s e c h.0 r.replaced in
              cases-held sat (taken_up t r d cs)
              (record {
                bound = Each-append (BindingWithin count) t.bound (replaced_now t r.equation) f.bound (equation-kept t f r.equation k.0.1);
                given = f.given;
                covers = ((k.0.0, k.1, f.lines), h.1);
                literals = f.literals;
                work = f.work;
                lines = tt;
              }) d

  -- ---- tests

  tests-within : (ks : List Coeff) → Each (ConWithin count) (map (λ k. con.Num (Var k.x)) ks)
  tests-within [] = tt
  tests-within (k ∷ ks) = (tt, tests-within ks)

  module _ (sat : List Con → Bool) (s : State) (e : Held count s) where
    item-held : (c : Con) → ConWithin count c → Each (Held count) (test_item sat s c).states
    item-held (con.Row r) n = by (is_empty (universals_of s (con.Row r)))
      where
        by : (b : Bool) → Each (Held count) (if b then assume_all sat (number_tests r ++ con.Row r ∷ []) s else assume sat s (con.Row r)).states
        by true =
            all-assumed-held count two sat (number_tests r ++ con.Row r ∷ []) (Each-append (ConWithin count) (number_tests r) (con.Row r ∷ []) (tests-within r.coeffs) (n, tt)) s e
        by false = assumed-held count two sat s e (con.Row r) n
    item-held (con.Eq t u) n = (ahead count two sat s e (task.Equate t u ∷ []) (n, tt), tt)
    item-held (con.Neq t u) n = by (is_empty (universals_of s (con.Neq t u)))
      where
        by : (b : Bool) → Each (Held count) (if b then assume sat s (con.Neq t u) else goes (before (task.Differ (record { left = t; right = u } ∷ []) aims.Test ∷ []) s)).states
        by true = assumed-held count two sat s e (con.Neq t u) n
        by false = (ahead count two sat s e (task.Differ (record { left = t; right = u } ∷ []) aims.Test ∷ []) ((n, tt), tt), tt)
    item-held (con.NotShape x f n) h = assumed-held count two sat s e (con.NotShape x f n) h
    item-held (con.Num t) n = assumed-held count two sat s e (con.Num t) n
    item-held (con.NotNum t) n = assumed-held count two sat s e (con.NotNum t) n

  -- ---- tasks

  module _ (sat : List Con → Bool) (s : State) (e : Held count s) where
    shape-done : (x f : ℕ) (ts : Tms) (ps : List Pair) (aim : Aim) → Within count (app f ts) → Each (PairWithin count) ps → Each (Held count) (same_shape sat s x f ts ps aim).states
    shape-done x f ts ps aim h k =
        let more : List Pair = pairs (new_parts (next_variable s) (length (items ts))) ts in
        let first : Each (PairWithin count) more = pairs-within count (new_parts (next_variable s) (length (items ts))) ts (new-within count (next_variable s) (length (items ts))) h.2 in
        each-mapped (Held count) (before (task.Differ (more ++ ps) aim ∷ []))
        (λ r g. front count (task.Differ (more ++ ps) aim ∷ []) (Each-append (PairWithin count) more ps first k, tt) r.bound r.given r.covers r.literals r.work r.lines g)
        (becomes_shape sat s x f (length (items ts))).states (shape-held count two sat s e x f (length (items ts)) h.0 h.1)

    value-done : (x : ℕ) (t : Term) (ps : List Pair) (aim : Aim) → Within count (tm_of t) → Each (PairWithin count) ps → Each (Held count) (same_value sat s x (tm_of t) ps aim).states
    value-done x t ps aim h k =
        each-mapped (Held count) (before (task.Differ ps aim ∷ [])) (λ r g. front count (task.Differ ps aim ∷ []) (k, tt) r.bound r.given r.covers r.literals r.work r.lines g)
        (equated sat s (var x) (tm_of t)).states (terms-held count two sat s e (var x) (tm_of t) tt h)

    cover-done : (a : Atom) (k : ℕ) → AtomWithin count a → Held count (covered p s a k)
    cover-done a k h =
        let first : ℕ = next_variable s in
        front count (task.Differ (pairs a.args (head_args p k first)) (aims.Head k first) ∷ []) (pairs-within count a.args (head_args p k first) h.2 (heads-within k first), tt)
        s.bound s.given s.covers s.literals s.work (s.lines ++ line.Rule a k first ∷ []) (line-held s e (line.Rule a k first) tt)

    done-held : (t : Task) → TaskWithin count t → Each (Held count) (done p sat s t).states
    done-held (task.Show (flat.Call l)) n = call-held sat s e l n
    done-held (task.Show (flat.Test c)) n = item-held sat (with_line s (line.Test c)) (line-held s e (line.Test c) n) c n
    done-held (task.Equate t u) n =
        equated-held count two sat s e (pairs_of (under (meaning s) (tm_of t)) (under (meaning s) (tm_of u)))
        (taken-within count (under (meaning s) (tm_of t)) (under (meaning s) (tm_of u)) (under-within count (meaning s) (reads count s e) (tm_of t) n.0) (under-within count (meaning s) (reads count s e) (tm_of u) n.1))
    done-held (task.Assume c) n = assumed-held count two sat s e c n
    done-held (task.Differ ps aim) n = differ-held count two sat s e (from_first (meaning s) ps) (first-within count (meaning s) (reads count s e) ps n) aim
    done-held (task.Become x t ps aim) n = value-done x t ps aim n.0 n.1
    done-held (task.Avoid x q ps aim) n = part-held count two sat s e (differ (var x) (num q)) (tt, n.0) aim (task.Become x (term_with (num q)) ps aim ∷ []) ((n.0, n.1), tt)
    done-held (task.Shape x f ts ps aim) n = shape-done x f ts ps aim n.0 n.1
    done-held (task.Cover a k) n = (cover-done a k n, tt)
    done-held (task.Check k checks_head) n =
        begin-held sat (with_line (with_new s Matched 0 (vars_of_clause p k)) (line.Check k (next_variable s))) (line-held s e (line.Check k (next_variable s)) tt) k (next_variable s) checks_head
    done-held (task.Begin k first checks_head) n = begin-held sat s e k first checks_head
    done-held task.Void n = (line-held s e line.Void tt, tt)
    done-held task.Leave n = (left-held count (ancestors s) s e, tt)
    done-held task.Close n = close-held sat s e

  pub step-held : (sat : List Con → Bool) (s : State) (ts : List Task) → HeldAt count s.bound s.given s.covers s.literals ts s.lines → Each (Held count) (step_at p sat s ts).states
  step-held sat s [] e = tt
  step-held sat s (t ∷ ts) e =
      done-held sat (record s { work = ts }) (record { bound = e.bound; given = e.given; covers = e.covers; literals = e.literals; work = e.work.1; lines = e.lines }) t e.work.0
