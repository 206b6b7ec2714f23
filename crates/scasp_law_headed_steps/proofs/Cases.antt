-- States, with their work, their covers, and what was told; and the steps that open and close a case.
use Rattle.std.specs.List.{Contains, list_all, list_any}
use Rattle.std.specs.Prelude.{Bool, List, None, Option, Some, [], false, if◌then◌else◌, length, map, not, true, zero, ℕ, ◌++◌, ◌+◌, ◌<◌, ◌∷◌, ◌≡◌, ◌≤◌}
use Rattle.std.proofs.Common.{ap, arith, inr, refl, subst, suc, sym, ◌∙◌}
use Rattle.std.proofs.lemmas.Bool.{or_from, true≢false}
use Rattle.std.proofs.lemmas.List.Elements.{Contains-append_left, Contains-push}
use Rattle.scasp_hint.specs.Satisfying.{sat}
use Rattle.scasp_law_first_event.proofs.Calls.{each-of}
use Rattle.scasp_law_first_event.proofs.EachStates.{each_append}
use Rattle.scasp_law_first_event.proofs.Firming.{new-onto}
use Rattle.scasp_law_first_event.proofs.Firmness.{Firm, FirmIn, Onto}
use Rattle.scasp_law_first_event.proofs.Moves.{new-length}
use Rattle.scasp_law_first_event.proofs.Raising.{Each-mapped}
use Rattle.scasp_law_parts.proofs.AgreeLemmas.{join-all, split-all}
use Rattle.scasp_law_parts.proofs.BoundLemmas.{absorbed}
use Rattle.scasp_law_parts.proofs.TriangularLemmas.{solved-self}
use Rattle.scasp_law_parts.specs.Bound.{Triangular}
use Rattle.scasp_law_sorted.proofs.Evenness.{Bare, even-new}
use Rattle.scasp_law_sorted.proofs.Numbers.{reads}
use Rattle.scasp_law_sorted.proofs.Rows.{read-of}
use Rattle.scasp_list.proofs.EachLemmas.{Each-append, Each-map}
use Rattle.scasp_list.specs.Each.{Each}
use Rattle.scasp_num.specs.Linear.{IsNormal, Linear}
use Rattle.scasp_search_rules.specs.Successors.Calls.{head_args, lit_under, vars_of_clause}
use Rattle.scasp_search_rules.specs.Successors.Cases.{after_case, begin_cases, begin_cover, cases_of, cases_where, check_clause, close_case, cover_for, ended_case, failing_at, head_call, kept_literal, leaf_at, line_under, unbound, unbound_of, with_head, with_items}
use Rattle.scasp_search_rules.specs.Successors.Falls.{EachState}
use Rattle.scasp_search_rules.specs.Successors.Items.{body_of, with_line}
use Rattle.scasp_search_rules.specs.Successors.Reading.{among, con_under, count_from, not_shaped, row_or}
use Rattle.scasp_search_rules.specs.Successors.Regions.{asked_with, context}
use Rattle.scasp_search_rules.specs.Successors.Splits.{is_bound_in}
use Rattle.scasp_search_rules.specs.Successors.Variables.{meaning, next_variable, with_new}
use Rattle.scasp_search_rules.specs.declared.states.covers.Cover.{Cover}
use Rattle.scasp_search_rules.specs.declared.states.covers.Remainder.{Remainder}
use Rattle.scasp_search_rules.specs.declared.states.lines.Line.{Line}
use Rattle.scasp_search_rules.specs.declared.states.lines.Line.TheVariants as line
use Rattle.scasp_search_rules.specs.declared.states.state.Kind.TheVariants.{Matched}
use Rattle.scasp_search_rules.specs.declared.states.state.Literal.{Literal}
use Rattle.scasp_search_rules.specs.declared.states.state.Made.{Made}
use Rattle.scasp_search_rules.specs.declared.states.state.State.{State}
use Rattle.scasp_search_rules.specs.declared.states.tasks.Task.{Task}
use Rattle.scasp_search_rules.specs.declared.states.tasks.Task.TheVariants as task
use Rattle.scasp_syntax.specs.Constraints.{Meets, has_shape, holds, is_number}
use Rattle.scasp_syntax.specs.Programs.{numbered}
use Rattle.scasp_syntax.specs.Tm.{Tm, Tms, app, nil, num, var}
use Rattle.scasp_syntax.specs.Values.{Sub, Valuation, all_under, under}
use Rattle.scasp_syntax.specs.declared.atom.Atom.{Atom}
use Rattle.scasp_syntax.specs.declared.clause.Clause.{Clause}
use Rattle.scasp_syntax.specs.declared.clause.FlatItem.{FlatItem}
use Rattle.scasp_syntax.specs.declared.con.Con.{Con}
use Rattle.scasp_syntax.specs.declared.con.Con.TheVariants as con
use Rattle.scasp_syntax.specs.declared.program.Program.{Program}
use Rattle.scasp_unify.proofs.ResolvedRowLemmas.{resolved}
use Rattle.scasp_unify.proofs.UnificationLemmas.{resolved-twice}
use Rattle.scasp_unify.specs.ResolvedRows.{resolved_row}
use Rattle.scasp_unify.specs.SimpleForm.{term_with}
use Rattle.scasp_unify.specs.Solving.{sub_of}
use Rattle.scasp_unify.specs.Unification.{Absorbs, terms_vars}
use Rattle.scasp_unify.specs.declared.bindings.Binding.{Binding}
use Rattle.scasp_law_headed_steps.proofs.Assuming.{Kept}
use Rattle.scasp_law_headed_steps.proofs.Bodies.{ItemOf, SidesOf, body-sides}
use Rattle.scasp_law_headed_steps.proofs.Forms.{ConAll, all-con-weaker}
use Rattle.scasp_law_headed_steps.proofs.Tasks.{Moves, Named, TaskFits, Tells, bound-more, equal-earlier, left-append, meets-before, task-later, tells-more}
use Rattle.scasp_law_headed_steps.proofs.Truths.{RowReads, under-holds}
use Rattle.scasp_law_headed_steps.specs.Calm.{AreBound, HasLine, IsOf, holds_of, left_by, left_of, promised}

-- an open cover has no universal variable, its clause's variables are bound, and its head reads as its literal
abbrev pub CoverFits : Program → List Binding → Cover → Type 0
CoverFits p bs c = (c.universals ≡ []) × AreBound p bs c.clause c.first × HasLine p (sub_of bs) c.clause c.first c.before

pub record Whole (p : Program) (s : State) : Type 0 where
  pub kept : Kept s
  pub covers : Each (CoverFits p s.bound) s.covers
  pub named : Each Named s.literals
  pub work : Each (TaskFits p s.made s.bound s.lines) s.work
  pub lines : Each (Tells (promised s)) s.lines
  pub before : Each (λ c. Each (Tells (promised s)) c.before) s.covers

-- the state is whole, and has these bindings and given constraints
abbrev pub Stays : Program → List Binding → List Con → State → Type 0
Stays p bs gs s = Whole p s × (s.bound ≡ bs) × (s.given ≡ gs)

-- ---- heads that read as literals

abbrev args_of : Tm → Tms
args_of (var x) = nil
args_of (num q) = nil
args_of (app f ts) = ts

-- what reads the same does so later on
is-later : (p : Program) (v w : Sub) → Absorbs w v → (k first : ℕ) (l : Line) → IsOf p v k first l → IsOf p w k first l
is-later p v w a k first (line.Rule b n m) h = (h.0, h.1, sym (on (head_args p k first)) ∙ ap (all_under w) h.2 ∙ on b.args)
  where
    on : (ts : Tms) → all_under w (all_under v ts) ≡ all_under w ts
    on ts = ap args_of (resolved-twice w v (app 0 ts) a)
is-later p v w a k first (line.Check n m) h = h
is-later p v w a k first (line.Test c) h = absurd h
is-later p v w a k first (line.Split c parts) h = absurd h
is-later p v w a k first (line.Pos b n ts m) h = absurd h
is-later p v w a k first (line.Neg b n) h = absurd h
is-later p v w a k first (line.Loop l at) h = absurd h
is-later p v w a k first (line.Seen l at) h = absurd h
is-later p v w a k first line.Void h = absurd h
is-later p v w a k first (line.Leaf n) h = absurd h
is-later p v w a k first (line.Head n) h = absurd h

has-later : (p : Program) (v w : Sub) → Absorbs w v → (k first : ℕ) (ls : List Line) → HasLine p v k first ls → HasLine p w k first ls
has-later p v w a k first ls h = (h.0, h.1, is-later p v w a k first h.0 h.2)

-- ---- steps that open and close no case

tells-each : (cs ds : List Con) → ((v : Valuation) → Meets v.of ds → Meets v.of cs) → (ls : List Line) → Each (Tells cs) ls → Each (Tells ds) ls
tells-each cs ds f ls h = Each-map (Tells cs) (Tells ds) (λ l k. tells-more cs ds f l k) ls h

tells-covers : (cs ds : List Con) → ((v : Valuation) → Meets v.of ds → Meets v.of cs) → (os : List Cover) → Each (λ c. Each (Tells cs) c.before) os → Each (λ c. Each (Tells ds) c.before) os
tells-covers cs ds f os h = Each-map (λ (c : Cover). Each (Tells cs) c.before) (λ c. Each (Tells ds) c.before) (λ c k. tells-each cs ds f c.before k) os h

pub moved-whole : (p : Program) (s : State) (t : Task) (rest : List Task) → s.work ≡ t ∷ rest → Whole p s → (r : State) → Moves p (record s { work = rest }) t r → Whole p r
moved-whole p s t rest e h r m = record {
  kept = m.kept;
  covers = subst (Each (CoverFits p r.bound)) (sym m.covers) (Each-map (CoverFits p s.bound) (CoverFits p r.bound) (λ c k. (k.0, (λ z l n. more z (k.1 z l n)), has-later p (meaning s) (meaning r) absorbs c.clause c.first c.before k.2)) s.covers h.covers);
  named = m.named h.named;
  work = subst (Each (TaskFits p r.made r.bound r.lines)) (sym m.work)
      (Each-append (TaskFits p r.made r.bound r.lines) m.tasks rest m.fit
      (Each-map (TaskFits p s.made s.bound s.lines) (TaskFits p r.made r.bound r.lines) (task-later p u r m.onto more (equal-earlier u r m.more_bound m.bound) longer) rest (subst (Each (TaskFits p s.made s.bound s.lines)) e h.work).1));
  lines = subst (Each (Tells (promised r))) (sym m.lines)
      (Each-append (Tells (promised r)) s.lines m.more_lines (tells-each (promised s) (promised r) older s.lines h.lines) (tells-each (holds_of r ++ left_of m.tasks) (promised r) newer m.more_lines m.told));
  before = subst (λ (cs : List Cover). Each (λ c. Each (Tells (promised r)) c.before) cs) (sym m.covers) (tells-covers (promised s) (promised r) older s.covers h.before);
}
  where
    u : State
    u = record s { work = rest }

    absorbs : Absorbs (meaning r) (meaning s)
    absorbs = absorbed (meaning r) s.bound (equal-earlier u r m.more_bound m.bound (meaning r) (solved-self r.bound m.kept.triangular))

    longer : (l : Line) → Contains s.lines l → Contains r.lines l
    longer l i = subst (λ (ls : List Line). Contains ls l) (sym m.lines) (Contains-append_left s.lines m.more_lines l i)

    more : (z : ℕ) → is_bound_in s.bound z ≡ true → is_bound_in r.bound z ≡ true
    more z b = subst (λ (bs : List Binding). is_bound_in bs z ≡ true) (sym m.bound) (bound-more s.bound m.more_bound z b)

    -- what is promised, in three parts
    parts-of : (v : Valuation) → Meets v.of (promised r) → (Meets v.of (holds_of r)) × (Meets v.of (left_of m.tasks)) × (Meets v.of (left_of rest))
    parts-of v k =
        let q = split-all (holds v.of) (holds_of r) (left_of r.work) k in
        let w : list_all (holds v.of) (left_of m.tasks ++ left_of rest) ≡ true = ap (list_all (holds v.of)) (sym (ap left_of m.work ∙ left-append m.tasks rest)) ∙ q.1 in
        let o = split-all (holds v.of) (left_of m.tasks) (left_of rest) w in
        (q.0, o.0, o.1)

    newer : (v : Valuation) → Meets v.of (promised r) → Meets v.of (holds_of r ++ left_of m.tasks)
    newer v k = let q = parts-of v k in join-all (holds v.of) (holds_of r) (left_of m.tasks) q.0 q.1

    older : (v : Valuation) → Meets v.of (promised r) → Meets v.of (promised s)
    older v k =
        let q = parts-of v k in
        join-all (holds v.of) (holds_of s) (left_of s.work) (meets-before u r m.more_bound m.more_given m.bound m.given v.of q.0)
        (subst (λ (ts : List Task). Meets v.of (left_of ts)) (sym e) (join-all (holds v.of) (left_by t) (left_of rest) (m.shows v (newer v k)) q.2))

-- ---- a case begins

items-fit : (p : Program) (made : List Made) (bs : List Binding) (ls : List Line) (is : List FlatItem) → Each (ItemOf (FirmIn made bs)) is → Each (TaskFits p made bs ls) (map task.Show is ++ task.Close ∷ [])
items-fit p made bs ls is h = Each-append (TaskFits p made bs ls) (map task.Show is) (task.Close ∷ []) (Each-mapped (TaskFits p made bs ls) task.Show is h) (tt, tt)

shows-nothing : (is : List FlatItem) (rest : List Task) → left_of ((map task.Show is ++ task.Close ∷ []) ++ rest) ≡ left_of rest
shows-nothing [] rest = refl
shows-nothing (i ∷ is) rest = shows-nothing is rest

module _ (p : Program) (s : State) (t : Task) (rest : List Task) (e : s.work ≡ t ∷ rest) (empty : left_by t ≡ []) (h : Whole p s) (calm : (ls : List Line) → Each (TaskFits p s.made s.bound ls) rest) where
  promised-by : promised s ≡ holds_of s ++ left_of rest
  promised-by = ap (λ (ts : List Task). holds_of s ++ left_of ts) e ∙ ap (λ (cs : List Con). holds_of s ++ (cs ++ left_of rest)) empty

  -- with the cover c, of these bound variables, and one line
  abbrev pub opened : Cover → State
  opened c = record s { covers = c ∷ s.covers; cases = suc s.cases; lines = []; work = rest }

  module _ (c : Cover) (universals : c.universals ≡ []) (region : c.region ≡ []) (waiting : c.waiting ≡ []) (bound : AreBound p s.bound c.clause c.first) (before_it : c.before ≡ s.lines)
      (head : HasLine p (meaning s) c.clause c.first s.lines) where
    items-whole : (l : Line) → ((cs : List Con) → Tells cs l) → (is : List FlatItem) → Each (ItemOf (Firm s)) is → Whole p (with_items (opened c) l is)
    items-whole l f is k = record {
      kept = record {
        even = record { kinds = h.kept.even.kinds; settled = record { sorted = h.kept.even.settled.sorted; bare = ((region, waiting), h.kept.even.settled.bare) } };
        triangular = h.kept.triangular;
        met = h.kept.met;
        firm = h.kept.firm;
      };
      covers = ((universals, bound, subst (HasLine p (meaning s) c.clause c.first) (sym before_it) head), h.covers);
      named = h.named;
      work = Each-append (TaskFits p s.made s.bound (l ∷ [])) (map task.Show is ++ task.Close ∷ []) rest (items-fit p s.made s.bound (l ∷ []) is k) (calm (l ∷ []));
      lines = (f (promised (with_items (opened c) l is)), tt);
      before = (
        subst (Each (Tells (promised (with_items (opened c) l is)))) (sym before_it) (tells-each (promised s) (promised (with_items (opened c) l is)) same s.lines h.lines),
        tells-covers (promised s) (promised (with_items (opened c) l is)) same s.covers h.before,
      );
    }
      where
        same : (v : Valuation) → Meets v.of (promised (with_items (opened c) l is)) → Meets v.of (promised s)
        same v m =
            subst (λ (cs : List Con). Meets v.of cs) (sym promised-by) (subst (λ (cs : List Con). Meets v.of (holds_of s ++ cs)) (shows-nothing is rest) m)

    failing-of : (k : ℕ) (body : List FlatItem) → Each (SidesOf (Firm s)) body → Each (ItemOf (Firm s)) (failing_at k body)
    failing-of k [] b = tt
    failing-of zero (i ∷ is) b = (b.0.1, tt)
    failing-of (suc k) (i ∷ is) b = (b.0.0, failing-of k is b.1)

    head-whole : (body is : List FlatItem) → Each (ItemOf (Firm s)) body → Each (ItemOf (Firm s)) is → EachState (Stays p s.bound s.given) (with_head (opened c) body is)
    head-whole body [] b k = tt
    head-whole body (i ∷ is) b k = ((items-whole (line.Head (suc (length body))) (λ cs. tt) (body ++ i ∷ []) (Each-append (ItemOf (Firm s)) body (i ∷ []) b (k.0, tt)), refl, refl), tt)

    call-of : (o : Option Clause) (first : ℕ) → Each (ItemOf (Firm s)) (head_call o first)
    call-of None first = tt
    call-of (Some d) first = by d.head
      where
        by : (a : Option Atom) → Each (ItemOf (Firm s)) (head_call (Some (record d { head = a })) first)
        by None = tt
        by (Some a) = (tt, tt)

    clause-firm : (z : ℕ) → c.first ≤ z → z < c.first + vars_of_clause p c.clause → c.first + vars_of_clause p c.clause ≤ length s.made → Firm s z
    clause-firm z l m below = (omega (arith, m, below), inr (bound z l m))

    pub cases-whole : c.first + vars_of_clause p c.clause ≤ length s.made → EachState (Stays p s.bound s.given) (cases_of p sat (opened c) c).states
    cases-whole below = by (sat (asked_with (opened c) (context (opened c))))
      where
        sides : Each (SidesOf (Firm s)) (body_of p c.clause c.first)
        sides = body-sides (Firm s) p c.clause c.first (λ z l m. clause-firm z l m below)

        ahead : (b : Bool) → EachState (Stays p s.bound s.given) (if b then with_head (opened c) (body_of p c.clause c.first) (head_call (numbered p.clauses c.clause) c.first) else [])
        ahead true =
            head-whole (body_of p c.clause c.first) (head_call (numbered p.clauses c.clause) c.first) (Each-map (SidesOf (Firm s)) (ItemOf (Firm s)) (λ i k. k.0) (body_of p c.clause c.first) sides)
            (call-of (numbered p.clauses c.clause) c.first)
        ahead false = tt

        by : (b : Bool) → EachState (Stays p s.bound s.given) (cases_where b p (opened c) c)
        by true =
            each_append (Stays p s.bound s.given) (map (leaf_at (opened c) (body_of p c.clause c.first)) (count_from 0 (length (body_of p c.clause c.first)))) _
            (each-of (Stays p s.bound s.given) (leaf_at (opened c) (body_of p c.clause c.first)) (λ k. (items-whole (line.Leaf (suc k)) (λ cs. tt) (failing_at k (body_of p c.clause c.first)) (failing-of k (body_of p c.clause c.first) sides), refl, refl))
            (count_from 0 (length (body_of p c.clause c.first)))) (ahead c.checks_head)
        by false = ((items-whole line.Void (λ cs. tt) [] tt, refl, refl), tt)

  none-unbound : (first n : ℕ) → ((z : ℕ) → first ≤ z → z < first + n → is_bound_in s.bound z ≡ true) → unbound_of s first n ≡ []
  none-unbound first zero f = refl
  none-unbound first (suc n) f = by (is_bound_in s.bound first) (f first (omega arith) (omega arith)) (none-unbound (suc first) n (λ z l m. f z (omega (arith, l)) (omega (arith, m))))
    where
      by : (b : Bool) → b ≡ true → unbound_of s (suc first) n ≡ [] → (if not b then first ∷ unbound_of s (suc first) n else unbound_of s (suc first) n) ≡ []
      by true g rec = rec
      by false g rec = absurd (true≢false (sym g))

  pub begin-whole : (k first : ℕ) (checks_head : Bool) → AreBound p s.bound k first → HasLine p (meaning s) k first s.lines → first + vars_of_clause p k ≤ length s.made → EachState (Stays p s.bound s.given) (begin_cases p sat (record s { work = rest }) k first checks_head).states
  begin-whole k first checks_head bound head below =
      subst (λ (us : List ℕ). EachState (Stays p s.bound s.given) (begin_cover p sat (record s { work = rest }) (cover_for p (record s { work = rest }) k first checks_head us)).states) (sym (none-unbound first (vars_of_clause p k) bound))
      (cases-whole (cover_for p (record s { work = rest }) k first checks_head []) refl refl refl bound refl head below)

-- ---- a clause that is checked

pub check-whole : (p : Program) (s : State) (k : ℕ) (checks_head : Bool) (rest : List Task) → s.work ≡ task.Check k checks_head ∷ rest → Whole p s → ((ls : List Line) → Each (TaskFits p (with_new s Matched 0 (vars_of_clause p k)).made s.bound ls) rest) → vars_of_clause p k ≡ 0
    → EachState (Stays p s.bound s.given) (check_clause p sat (record s { work = rest }) k checks_head).states
check-whole p s k checks_head rest e h calm none =
    begin-whole p made_state (task.Check k checks_head) rest refl refl now calm k (length s.made) checks_head (λ z l m. absurd (omega (arith, l, m, none)))
    (line.Check k (next_variable s), Contains-push s.lines (line.Check k (next_variable s)), (refl, refl))
    (let long = new-length s Matched 0 (vars_of_clause p k) in omega (arith, long))
  where
    made_state : State
    made_state = record (with_line (with_new s Matched 0 (vars_of_clause p k)) (line.Check k (next_variable s))) { work = task.Check k checks_head ∷ rest }

    o : Onto s (with_new s Matched 0 (vars_of_clause p k))
    o = new-onto s Matched 0 (vars_of_clause p k)

    same : (v : Valuation) → Meets v.of (holds_of s ++ left_of rest) → Meets v.of (promised s)
    same v m = subst (λ (ts : List Task). Meets v.of (holds_of s ++ left_of ts)) (sym e) m

    now : Whole p (record (with_line (with_new s Matched 0 (vars_of_clause p k)) (line.Check k (next_variable s))) { work = task.Check k checks_head ∷ rest })
    now = record {
      kept = record {
        even = even-new s Matched 0 (vars_of_clause p k) refl h.kept.even;
        triangular = h.kept.triangular;
        met = h.kept.met;
        firm = Each-map (ConAll (Firm s)) (ConAll (Firm (with_new s Matched 0 (vars_of_clause p k)))) (λ c a. all-con-weaker (Firm s) (Firm (with_new s Matched 0 (vars_of_clause p k))) o.firm c a) s.given h.kept.firm;
      };
      covers = h.covers;
      named = h.named;
      work = (none, calm made_state.lines);
      lines =
          Each-append (Tells (holds_of s ++ left_of rest)) s.lines (line.Check k (next_variable s) ∷ []) (tells-each (promised s) (holds_of s ++ left_of rest) same s.lines h.lines) (tt, tt);
      before = tells-covers (promised s) (holds_of s ++ left_of rest) same s.covers h.before;
    }

-- ---- a case ends

none-taken : (us : List ℕ) → us ≡ [] → (bs : List Binding) → unbound us [] bs ≡ bs
none-taken us e bs = ap (λ (xs : List ℕ). unbound xs [] bs) e ∙ all bs
  where
    all : (bs : List Binding) → unbound [] [] bs ≡ bs
    all [] = refl
    all (b ∷ bs) = ap (λ (xs : List Binding). b ∷ xs) (all bs)

kept-named : (s : State) (us : List ℕ) → us ≡ [] → (xs : List Literal) → Each Named xs → Each Named (map (kept_literal s us) xs)
kept-named s us e xs h = Each-mapped Named (kept_literal s us) xs (Each-map Named (λ a. Named (kept_literal s us a)) one xs h)
  where
    none : (ys : List ℕ) → list_any (λ x. among x []) ys ≡ false
    none [] = refl
    none (y ∷ ys) = none ys

    one : (a : Literal) → Named a → Named (kept_literal s us a)
    one a k = or_from a.is_general (list_any (λ x. among x us) (terms_vars (lit_under s a.lit).atom.args)) k (ap (λ (vs : List ℕ). list_any (λ x. among x vs) (terms_vars (lit_under s a.lit).atom.args)) e ∙ none (terms_vars (lit_under s a.lit).atom.args))

read-row : (v s : Sub) (c : Con) → Absorbs v s → Absorbs s s → RowReads v c → RowReads v (con_under s c)
read-row v s (con.Row r) a b k = (normal (resolved_row s r) refl, read-of (λ x. is_number (v x) ≡ true) s closed r k.1)
  where
    closed : (x y : ℕ) → is_number (v x) ≡ true → s x ≡ var y → is_number (v y) ≡ true
    closed x y e f = ap is_number (ap (under v) (sym f) ∙ a x) ∙ e

    normal : (o : Option Linear) → resolved_row s r ≡ o → IsNormal (row_or r o)
    normal None e = k.0
    normal (Some row) e = (resolved s r row b k.0 (sym e)).0
read-row v s (con.Eq t u) a b k = tt
read-row v s (con.Neq t u) a b k = tt
read-row v s (con.NotShape x f n) a b k = shaped (s x)
  where
    shaped : (t : Tm) → RowReads v (not_shaped t f n)
    shaped (var y) = tt
    shaped (num q) = tt
    shaped (app g us) = by (has_shape f n (app g us))
      where
        by : (i : Bool) → RowReads v (if i then con.Neq (term_with (app g us)) (term_with (app g us)) else con.Eq (term_with (app g us)) (term_with (app g us)))
        by true = tt
        by false = tt
read-row v s (con.Num t) a b k = tt
read-row v s (con.NotNum t) a b k = tt

tells-under : (s : State) (cs : List Con) → Triangular s.bound → ((v : Valuation) → Meets v.of cs → Absorbs v.of (meaning s)) → (l : Line) → Tells cs l → Tells cs (line_under s l)
tells-under s cs h f (line.Test c) k = λ v m. (under-holds s.bound h v.of (f v m) c (k v m).1 (k v m).0, read-row v.of (meaning s) c (f v m) (absorbed (meaning s) s.bound (solved-self s.bound h)) (k v m).1)
tells-under s cs h f (line.Split c parts) k = absurd k
tells-under s cs h f (line.Pos a n ts m) k = tt
tells-under s cs h f (line.Neg a n) k = tt
tells-under s cs h f (line.Loop l at) k = tt
tells-under s cs h f (line.Seen l at) k = tt
tells-under s cs h f (line.Rule a n first) k = tt
tells-under s cs h f (line.Check n first) k = tt
tells-under s cs h f line.Void k = tt
tells-under s cs h f (line.Leaf n) k = tt
tells-under s cs h f (line.Head n) k = tt

pub close-whole : (p : Program) (s : State) (rest : List Task) → s.work ≡ task.Close ∷ rest → Whole p s → ((ls : List Line) → Each (TaskFits p s.made s.bound ls) rest) → EachState (Stays p s.bound s.given) (close_case p sat (record s { work = rest }) s.covers).states
close-whole p s rest e h calm = by s.covers refl
  where
    same : (v : Valuation) → Meets v.of (holds_of s ++ left_of rest) → Meets v.of (promised s)
    same v m = subst (λ (ts : List Task). Meets v.of (holds_of s ++ left_of ts)) (sym e) m

    shown : (v : Valuation) → Meets v.of (holds_of s ++ left_of rest) → Absorbs v.of (meaning s)
    shown v m = reads s.bound s.given v.of (split-all (holds v.of) (holds_of s) (left_of rest) m).0

    by : (cs : List Cover) → s.covers ≡ cs → EachState (Stays p s.bound s.given) (close_case p sat (record s { work = rest }) cs).states
    by [] f = tt
    by (c ∷ cs) f =
        subst (λ (rs : List Remainder). EachState (Stays p s.bound s.given) (after_case p sat (record s { work = rest }) c cs rs).states) (sym bare.0.1)
        (subst (λ (bs : List Binding). Stays p s.bound s.given (record (ended_case (record s { work = rest }) c []) { covers = cs; bound = bs })) (sym (none-taken c.universals fits.0.0 s.bound)) (ended, refl, refl), tt)
      where
        bare : Each Bare (c ∷ cs)
        bare = subst (Each Bare) f h.kept.even.settled.bare

        fits : Each (CoverFits p s.bound) (c ∷ cs)
        fits = subst (Each (CoverFits p s.bound)) f h.covers

        older : Each (λ c. Each (Tells (promised s)) c.before) (c ∷ cs)
        older = subst (λ (os : List Cover). Each (λ c. Each (Tells (promised s)) c.before) os) f h.before

        now : List Con
        now = holds_of s ++ left_of rest

        ended : Whole p (record (ended_case (record s { work = rest }) c []) { covers = cs; bound = s.bound })
        ended = record {
          kept = record {
            even = record { kinds = h.kept.even.kinds; settled = record { sorted = h.kept.even.settled.sorted; bare = bare.1 } };
            triangular = h.kept.triangular;
            met = h.kept.met;
            firm = h.kept.firm;
          };
          covers = fits.1;
          named = kept-named (record s { work = rest }) c.universals fits.0.0 s.literals h.named;
          work = calm (c.before ++ map (line_under (record s { work = rest })) s.lines);
          lines =
              Each-append (Tells now) c.before (map (line_under (record s { work = rest })) s.lines) (tells-each (promised s) now same c.before older.0)
              (Each-mapped (Tells now) (line_under (record s { work = rest })) s.lines
              (Each-map (Tells now) (λ l. Tells now (line_under (record s { work = rest }) l)) (λ l k. tells-under (record s { work = rest }) now h.kept.triangular shown l k) s.lines (tells-each (promised s) now same s.lines h.lines)));
          before = tells-covers (promised s) now same cs older.1;
        }
