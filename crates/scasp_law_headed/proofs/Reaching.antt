-- Each state on the way to a finished one: moves have led there.
use Rattle.std.specs.Prelude.{◌≡◌, ⊤, ℕ, zero, suc, ◌+◌, ◌<◌, ◌≤◌, Bool, true, false, Option, Some, None, List, [], ◌∷◌, ◌++◌, map, reverse, length}
use Rattle.std.specs.List.{Contains, list_all}
use Rattle.std.proofs.Common.{◌∙◌, ap, append_assoc, refl, subst, sym}
use Rattle.std.proofs.lemmas.Bool.{and_parts}
use Rattle.std.proofs.lemmas.List.{append-nil}
use Rattle.scasp_hint.specs.Satisfying.{sat}
use Rattle.scasp_law_first_event.proofs.Bindings.{Solved}
use Rattle.scasp_law_first_event.proofs.EachStates.{each-state, each_weaker}
use Rattle.scasp_law_first_event.proofs.Firming.{new-onto}
use Rattle.scasp_law_first_event.proofs.Firmness.{Clear, Firm, Onto, TaskFirm, as-many, is_loose}
use Rattle.scasp_law_first_event.proofs.Raising.{Each-mapped}
use Rattle.scasp_law_first_event.specs.Events.{IsReachable, after, itself}
use Rattle.scasp_law_headed_steps.proofs.Assuming.{Kept}
use Rattle.scasp_law_headed_steps.proofs.Cases.{CoverFits, Whole}
use Rattle.scasp_law_headed_steps.proofs.Forms.{ConAll, all-con-weaker}
use Rattle.scasp_law_headed_steps.proofs.Reaching.{goes-on, later-of, parts-of, whole}
use Rattle.scasp_law_headed_steps.proofs.Steps.{found-of}
use Rattle.scasp_law_headed_steps.proofs.Tasks.{TaskFits}
use Rattle.scasp_law_headed_steps.specs.Calm.{IsHeaded, IsLater}
use Rattle.scasp_law_headed_steps.specs.Headed.{is_headed}
use Rattle.scasp_law_no_circle.proofs.Reaching.{Known, known}
use Rattle.scasp_law_no_circle.proofs.Scope.{Scoped}
use Rattle.scasp_law_no_circle.proofs.Tasks.{AimScoped, BecomesScoped, Front, Waiting, assumes, avoids, becomes, begins, differs, numbers, plain, shapes}
use Rattle.scasp_law_parts.specs.Bound.{Triangular}
use Rattle.scasp_law_sorted.proofs.Evenness.{Bare, even-new}
use Rattle.scasp_law_sorted.specs.Asking.{is_item_rowless, is_rowless}
use Rattle.scasp_list.proofs.EachLemmas.{Each-append, Each-at, Each-from_test, Each-map}
use Rattle.scasp_list.specs.Each.{Each}
use Rattle.scasp_nmr.specs.declared.items.CheckItem.{CheckItem}
use Rattle.scasp_num.specs.Number.{Number}
use Rattle.scasp_search_rules.specs.Successors.Assumptions.{assume}
use Rattle.scasp_search_rules.specs.Successors.Calls.{call, covered, leave_literal, vars_of_clause}
use Rattle.scasp_search_rules.specs.Successors.Differences.{differ_terms, differ_value, same_shape, same_value}
use Rattle.scasp_search_rules.specs.Successors.Equations.{equate_terms}
use Rattle.scasp_search_rules.specs.Successors.Falls.{EachState}
use Rattle.scasp_search_rules.specs.Successors.Items.{body_of, item_raised, items_of, show_test, with_line}
use Rattle.scasp_search_rules.specs.Successors.Problems.{Problem}
use Rattle.scasp_search_rules.specs.Successors.Search.{done, search_for, start, step, step_at}
use Rattle.scasp_search_rules.specs.Successors.Splits.{is_bound_in}
use Rattle.scasp_search_rules.specs.Successors.Variables.{is_kind_matched, meaning, with_new}
use Rattle.scasp_search_rules.specs.declared.states.covers.Cover.{Cover}
use Rattle.scasp_search_rules.specs.declared.states.lines.Line.TheVariants as line
use Rattle.scasp_search_rules.specs.declared.states.state.Kind.TheVariants.{Matched}
use Rattle.scasp_search_rules.specs.declared.states.state.State.{State}
use Rattle.scasp_search_rules.specs.declared.states.tasks.Aim.{Aim}
use Rattle.scasp_search_rules.specs.declared.states.tasks.Aim.TheVariants as aims
use Rattle.scasp_search_rules.specs.declared.states.tasks.Pair.{Pair}
use Rattle.scasp_search_rules.specs.declared.states.tasks.Task.{Task}
use Rattle.scasp_search_rules.specs.declared.states.tasks.Task.TheVariants as task
use Rattle.scasp_syntax.specs.Flat.{flat_after, flat_body}
use Rattle.scasp_syntax.specs.Programs.{numbered}
use Rattle.scasp_syntax.specs.Tm.{Tms, num, var}
use Rattle.scasp_syntax.specs.Values.{Sub, under}
use Rattle.scasp_syntax.specs.View.{tm_of}
use Rattle.scasp_syntax.specs.declared.clause.Clause.{Clause}
use Rattle.scasp_syntax.specs.declared.clause.FlatItem.{FlatItem}
use Rattle.scasp_syntax.specs.declared.clause.FlatItem.TheVariants as flat
use Rattle.scasp_syntax.specs.declared.clause.Item.{Item}
use Rattle.scasp_syntax.specs.declared.clause.Item.TheVariants as item
use Rattle.scasp_syntax.specs.declared.clause.Query.{Query}
use Rattle.scasp_syntax.specs.declared.con.Con.{Con}
use Rattle.scasp_syntax.specs.declared.con.Con.TheVariants as con
use Rattle.scasp_syntax.specs.declared.program.Program.{Program}
use Rattle.scasp_syntax.specs.declared.term.Term.{Term}
use Rattle.scasp_syntax.specs.declared.term.Term.TheVariants.{App, Num, Var}
use Rattle.scasp_unify.specs.declared.bindings.Binding.{Binding}
use Rattle.scasp_law_headed.proofs.Ahead.{Ahead, Ends, Fine, Out, Step, TaskFine, case_read, grows-same, keeps-back, step-out, view, view-lines, wants-waiting, wants_of}
use Rattle.scasp_law_headed.proofs.Calls.{call-steps, leave-step}
use Rattle.scasp_law_headed.proofs.Casing.{begin-out, check-out, close-out}
use Rattle.scasp_law_headed.proofs.Counting.{Counts, trail-counts}
use Rattle.scasp_law_headed.proofs.Literals.{length-reversed, literals_read, long-read, numbered-unread}
use Rattle.scasp_law_headed.proofs.Matching.{avoid-steps, become-steps, differ-steps, name-steps}
use Rattle.scasp_law_headed.proofs.Readings.{PlainItem}
use Rattle.scasp_law_headed.proofs.Tests.{assume-steps, cover-step, equate-steps, test-steps}
use Rattle.scasp_law_headed.proofs.Views.{Numbered, Trail, follows, stays, tells_void}
use Rattle.scasp_law_headed.specs.Reading.{cases_in, reading}

-- ---- bodies without linear items

flat-plain : (seen : List ℕ) (is : List Item) → list_all is_item_rowless is ≡ true → Each PlainItem (flat_after seen is)
flat-plain seen [] e = tt
flat-plain seen (item.Call l ∷ is) e = (tt, flat-plain seen is (and_parts (is_item_rowless (item.Call l)) (list_all is_item_rowless is) e).1)
flat-plain seen (item.Equal t u ∷ is) e = (tt, flat-plain seen is (and_parts (is_item_rowless (item.Equal t u)) (list_all is_item_rowless is) e).1)
flat-plain seen (item.Differ t u ∷ is) e = (tt, flat-plain seen is (and_parts (is_item_rowless (item.Differ t u)) (list_all is_item_rowless is) e).1)
flat-plain seen (item.Linear l ∷ is) e = absurd (cc e)

raised-plain : (by : ℕ) (is : List FlatItem) → Each PlainItem is → Each PlainItem (map (item_raised by) is)
raised-plain by [] h = tt
raised-plain by (flat.Call l ∷ is) h = (tt, raised-plain by is h.1)
raised-plain by (flat.Test (con.Eq t u) ∷ is) h = (tt, raised-plain by is h.1)
raised-plain by (flat.Test (con.Neq t u) ∷ is) h = (tt, raised-plain by is h.1)
raised-plain by (flat.Test (con.NotShape x g n) ∷ is) h = absurd h.0
raised-plain by (flat.Test (con.Num t) ∷ is) h = absurd h.0
raised-plain by (flat.Test (con.NotNum t) ∷ is) h = absurd h.0
raised-plain by (flat.Test (con.Row q) ∷ is) h = absurd h.0

pub bodies-plain : (p : Program) → list_all (λ c. list_all is_item_rowless c.body) p.clauses ≡ true → (k first : ℕ) → Each PlainItem (body_of p k first)
bodies-plain p e k first = by (numbered p.clauses k) (found p.clauses e k)
  where
    found : (cs : List Clause) → list_all (λ c. list_all is_item_rowless c.body) cs ≡ true → (k : ℕ) (c : Clause) → numbered cs k ≡ Some c → list_all is_item_rowless c.body ≡ true
    found cs e zero c g = absurd (cc g)
    found cs e (suc n) c g =
        Each-at (λ (d : Clause). list_all is_item_rowless d.body ≡ true) cs n c (Each-from_test (λ (d : Clause). list_all is_item_rowless d.body) (λ d. list_all is_item_rowless d.body ≡ true) (λ d x. x) cs e) (sym g)

    by : (o : Option Clause) → ((c : Clause) → o ≡ Some c → list_all is_item_rowless c.body ≡ true) → Each PlainItem (items_of o first)
    by None g = tt
    by (Some c) g = raised-plain first (flat_body c.body) (flat-plain [] c.body (g c refl))

-- ---- one step

module _ (p : Program) (headed : list_all is_headed p.clauses ≡ true) (plain-bodies : (k first : ℕ) → Each PlainItem (body_of p k first)) (f : State) (v : Sub) (tri : Triangular f.bound)
    (s : State) (solved : Solved (length s.made) s.bound) (clear : Clear p s) (firm : Each (TaskFirm p s) s.work) (h : Whole p s) (fine : Fine s) where
  -- the task, where the work of the state is the rest
  stepped : (t : Task) (rest : List Task) → s.work ≡ t ∷ rest → (rs : List State) → EachState (Step p f v (record s { work = rest }) t) rs → EachState (Out p f v s) rs
  stepped t rest e rs k = each_weaker (Step p f v (record s { work = rest }) t) (Out p f v s) rs (λ r m. step-out p f v s t rest r e fine m) k

  task-firm : (t : Task) (rest : List Task) → s.work ≡ t ∷ rest → TaskFirm p s t
  task-firm t rest e = (subst (Each (TaskFirm p s)) e firm).0

  task-fits : (t : Task) (rest : List Task) → s.work ≡ t ∷ rest → TaskFits p s.made s.bound s.lines t
  task-fits t rest e = (subst (Each (TaskFits p s.made s.bound s.lines)) e h.work).0

  task-fine : (t : Task) (rest : List Task) → s.work ≡ t ∷ rest → TaskFine t
  task-fine t rest e = (subst (Each TaskFine) e fine.tasks).0

  still : (n : ℕ) (rest : List Task) → Waiting (Scoped s.made s.covers s.bound) n rest → (bs : List Binding) → wants_of (reading f v) bs rest ≡ wants_of (reading f v) s.bound rest
  still n rest w bs = wants-waiting (Scoped s.made s.covers s.bound) (reading f v) bs s.bound n rest w

  bare-covers : Each (λ c. (c.universals ≡ []) × (c.waiting ≡ [])) s.covers
  bare-covers = both s.covers h.kept.even.settled.bare h.covers
    where
      both : (cs : List Cover) → Each Bare cs → Each (CoverFits p s.bound) cs → Each (λ c. (c.universals ≡ []) × (c.waiting ≡ [])) cs
      both [] a b = tt
      both (c ∷ cs) a b = ((b.0.0, a.0.1), both cs a.1 b.1)

  kept-new : (n : ℕ) → Kept (with_new s Matched 0 n)
  kept-new n =
      let o : Onto s (with_new s Matched 0 n) = new-onto s Matched 0 n in
      record {
        even = even-new s Matched 0 n refl h.kept.even;
        triangular = h.kept.triangular;
        met = h.kept.met;
        firm = Each-map (ConAll (Firm s)) (ConAll (Firm (with_new s Matched 0 n))) (λ c a. all-con-weaker (Firm s) (Firm (with_new s Matched 0 n)) o.firm c a) s.given h.kept.firm;
      }

  aim-heads : (k first : ℕ) → AimScoped p s.made s.covers s.bound (length s.covers) (aims.Head k first) → (z : ℕ) → first ≤ z → z < first + vars_of_clause p k → is_loose s z ≡ true
  aim-heads k first g z l m = ap is_kind_matched (g z l m).1

  void-step : (rest : List Task) → Step p f v (record s { work = rest }) task.Void (with_line (record s { work = rest }) line.Void)
  void-step rest = record {
    onto = record { more = as-many (length s.made); kinded = (λ z k. k); firm = (λ z k. k) };
    covers = refl;
    cases = refl;
    grows = grows-same s.literals;
    tasks = [];
    work = refl;
    tasks_fine = tt;
    more_lines = line.Void ∷ [];
    lines = refl;
    lines_fine = ((tt, tt), tt);
    no_case = (refl, tt);
    ends = λ l i. tt;
    move = λ l n a i. tells_void (record {
      behind = wants_of (reading f v) s.bound rest;
      wants = refl;
      next = λ j. record {
        lines = view-lines p f v s line.Void j;
        literals = literals_read (reading f v) (reverse s.literals);
        cases = map case_read s.covers;
        wants = wants_of (reading f v) s.bound rest;
      };
    });
  }

  out-plain : (t : Task) (rest : List Task) → s.work ≡ t ∷ rest → Waiting (Scoped s.made s.covers s.bound) (length s.covers) (t ∷ rest) → EachState (Out p f v s) (done p sat (record s { work = rest }) t).states
  out-plain (task.Show (flat.Call l)) rest e w =
      stepped (task.Show (flat.Call l)) rest e (call p sat (record s { work = rest }) l).states
      (call-steps p headed plain-bodies f v (record s { work = rest }) solved clear.bindings clear.literals h.kept l (task-firm (task.Show (flat.Call l)) rest e))
  out-plain (task.Show (flat.Test c)) rest e w =
      stepped (task.Show (flat.Test c)) rest e (show_test sat (record s { work = rest }) c).states
      (test-steps p f v tri (record s { work = rest }) solved clear.bindings h.kept (still (length s.covers) rest w.1) c (task-fine (task.Show (flat.Test c)) rest e) (task-fits (task.Show (flat.Test c)) rest e))
  out-plain (task.Equate t u) rest e w =
      let g = task-firm (task.Equate t u) rest e in
      stepped (task.Equate t u) rest e (equate_terms sat (record s { work = rest }) (tm_of t) (tm_of u)).states
      (equate-steps p f v tri (record s { work = rest }) solved clear.bindings h.kept (still (length s.covers) rest w.1) t u g.0 g.1)
  out-plain (task.Cover a k) rest e w =
      stepped (task.Cover a k) rest e (covered p (record s { work = rest }) a k ∷ [])
      (cover-step p f v tri (record s { work = rest }) solved clear.bindings h.kept (still (length s.covers) rest w.1) a k (task-fits (task.Cover a k) rest e) (task-firm (task.Cover a k) rest e), tt)
  out-plain (task.Check k checks_head) rest e w = check-out p plain-bodies f v s k checks_head rest e fine h.kept (kept-new (vars_of_clause p k)) (task-fits (task.Check k checks_head) rest e)
  out-plain task.Void rest e w = stepped task.Void rest e (with_line (record s { work = rest }) line.Void ∷ []) (void-step rest, tt)
  out-plain task.Leave rest e w =
      stepped task.Leave rest e (leave_literal (record s { work = rest }) ∷ [])
      (leave-step p headed plain-bodies f v (record s { work = rest }) solved clear.bindings clear.literals h.kept, tt)
  out-plain task.Close rest e w = close-out p plain-bodies f v s rest e fine solved clear.bindings bare-covers
  out-plain (task.Assume c) rest e w = absurd w.0
  out-plain (task.Differ ps aim) rest e w = absurd w.0
  out-plain (task.Become x t ps aim) rest e w = absurd w.0
  out-plain (task.Avoid x q ps aim) rest e w = absurd w.0
  out-plain (task.Shape x g us ps aim) rest e w = absurd w.0
  out-plain (task.Begin k first checks_head) rest e w = absurd w.0

  out-assume : (c : Con) (rest : List Task) → s.work ≡ task.Assume c ∷ rest → EachState (Out p f v s) (assume sat (record s { work = rest }) c).states
  out-assume c rest e =
      let g = task-fits (task.Assume c) rest e in
      stepped (task.Assume c) rest e (assume sat (record s { work = rest }) c).states (assume-steps p f v (record s { work = rest }) solved clear.bindings h.kept c g.0 g.1)

  out-differ : (ps : List Pair) (aim : Aim) (rest : List Task) → s.work ≡ task.Differ ps aim ∷ rest → AimScoped p s.made s.covers s.bound (length s.covers) aim → Waiting (Scoped s.made s.covers s.bound) (length s.covers) rest
      → EachState (Out p f v s) (differ_terms sat (record s { work = rest }) ps aim).states
  out-differ ps aims.Test rest e a w = absurd (task-fine (task.Differ ps aims.Test) rest e)
  out-differ ps (aims.Head k first) rest e a w =
      let g = task-firm (task.Differ ps (aims.Head k first)) rest e in
      stepped (task.Differ ps (aims.Head k first)) rest e (differ_terms sat (record s { work = rest }) ps (aims.Head k first)).states
      (differ-steps p f v tri (record s { work = rest }) solved clear.bindings h.kept (still (length s.covers) rest w) k first (aim-heads k first a) g.1 ps g.0)

  out-become : (x : ℕ) (t : Term) (ps : List Pair) (aim : Aim) (rest : List Task) → s.work ≡ task.Become x t ps aim ∷ rest → is_bound_in s.bound x ≡ false → BecomesScoped s.made s.covers s.bound (length s.covers) x t
      → AimScoped p s.made s.covers s.bound (length s.covers) aim → Waiting (Scoped s.made s.covers s.bound) (length s.covers) rest → EachState (Out p f v s) (same_value sat (record s { work = rest }) x (tm_of t) ps aim).states
  out-become x t ps aims.Test rest e b k a w = absurd (task-fine (task.Become x t ps aims.Test) rest e)
  out-become x (Var y) ps (aims.Head k first) rest e b i a w =
      let g = task-fits (task.Become x (Var y) ps (aims.Head k first)) rest e in
      let m = task-firm (task.Become x (Var y) ps (aims.Head k first)) rest e in
      stepped (task.Become x (Var y) ps (aims.Head k first)) rest e (same_value sat (record s { work = rest }) x (var y) ps (aims.Head k first)).states
      (become-steps p f v tri (record s { work = rest }) solved clear.bindings h.kept (still (length s.covers) rest w) k first (aim-heads k first a) m.2 x (Var y) ps (found-of s x g.0 b) (found-of s y g.1 i.0.1) i.1 tt)
  out-become x (Num q) ps (aims.Head k first) rest e b i a w =
      let g = task-fits (task.Become x (Num q) ps (aims.Head k first)) rest e in
      let m = task-firm (task.Become x (Num q) ps (aims.Head k first)) rest e in
      stepped (task.Become x (Num q) ps (aims.Head k first)) rest e (same_value sat (record s { work = rest }) x (num q) ps (aims.Head k first)).states
      (become-steps p f v tri (record s { work = rest }) solved clear.bindings h.kept (still (length s.covers) rest w) k first (aim-heads k first a) m.2 x (Num q) ps (found-of s x g.0 b) tt tt tt)
  out-become x (App g us) ps (aims.Head k first) rest e b i a w = absurd i

  out-avoid : (x : ℕ) (q : Number) (ps : List Pair) (aim : Aim) (rest : List Task) → s.work ≡ task.Avoid x q ps aim ∷ rest → is_bound_in s.bound x ≡ false
      → AimScoped p s.made s.covers s.bound (length s.covers) aim → Waiting (Scoped s.made s.covers s.bound) (length s.covers) rest → EachState (Out p f v s) (differ_value sat (record s { work = rest }) x q ps aim).states
  out-avoid x q ps aims.Test rest e b a w = absurd (task-fine (task.Avoid x q ps aims.Test) rest e)
  out-avoid x q ps (aims.Head k first) rest e b a w =
      let g = task-fits (task.Avoid x q ps (aims.Head k first)) rest e in
      let m = task-firm (task.Avoid x q ps (aims.Head k first)) rest e in
      stepped (task.Avoid x q ps (aims.Head k first)) rest e (differ_value sat (record s { work = rest }) x q ps (aims.Head k first)).states
      (avoid-steps p f v tri (record s { work = rest }) solved clear.bindings h.kept (still (length s.covers) rest w) k first (aim-heads k first a) m.2 x q ps (found-of s x g.0 b).0.1)

  out-shape : (x g : ℕ) (us : Tms) (ps : List Pair) (aim : Aim) (rest : List Task) → s.work ≡ task.Shape x g us ps aim ∷ rest → is_bound_in s.bound x ≡ false
      → AimScoped p s.made s.covers s.bound (length s.covers) aim → Waiting (Scoped s.made s.covers s.bound) (length s.covers) rest → EachState (Out p f v s) (same_shape sat (record s { work = rest }) x g us ps aim).states
  out-shape x g us ps aims.Test rest e b a w = absurd (task-fine (task.Shape x g us ps aims.Test) rest e)
  out-shape x g us ps (aims.Head k first) rest e b a w =
      let i = task-fits (task.Shape x g us ps (aims.Head k first)) rest e in
      let m = task-firm (task.Shape x g us ps (aims.Head k first)) rest e in
      stepped (task.Shape x g us ps (aims.Head k first)) rest e (same_shape sat (record s { work = rest }) x g us ps (aims.Head k first)).states
      (name-steps p f v tri (record s { work = rest }) solved clear.bindings h.kept (still (length s.covers) rest w) k first (aim-heads k first a) m.3 x g us ps (found-of s x i.0 b))

  pub out-at : (ts : List Task) → s.work ≡ ts → Front p s.made s.covers s.bound (length s.covers) ts → EachState (Out p f v s) (step_at p sat s ts).states
  out-at _ e (plain [] w) = tt
  out-at _ e (plain (t ∷ ts) w) = out-plain t ts e w
  out-at _ e (assumes c ts n a w) = out-assume c ts e
  out-at _ e (numbers x q ps aim ts a pf af w) = out-assume (con.Num (Var x)) (task.Avoid x q ps aim ∷ ts) e
  out-at _ e (differs ps aim ts pf af w) = out-differ ps aim ts e af w
  out-at _ e (becomes x t ps aim ts a b pf af w) = out-become x t ps aim ts e a.1 b af w
  out-at _ e (avoids x q ps aim ts a pf af w) = out-avoid x q ps aim ts e a.1 af w
  out-at _ e (shapes x g us ps aim ts a b pf af w) = out-shape x g us ps aim ts e a.1 af w
  out-at _ e (begins k first checks_head ts heads w) =
      begin-out p plain-bodies f v s k first checks_head ts e fine h.kept (task-fits (task.Begin k first checks_head) ts e).0

-- ---- the way from the start to the finished state

module _ (p : Problem) (q : Query) (is : IsHeaded p q) (rowless : is_rowless p q ≡ true) where
  rowless-parts : (list_all is_item_rowless q.body ≡ true) × (list_all (λ c. list_all is_item_rowless c.body) p.program.clauses ≡ true)
  rowless-parts = and_parts (list_all is_item_rowless q.body) (list_all (λ c. list_all is_item_rowless c.body) p.program.clauses) rowless

  begun-fine : Fine (start q p.checks)
  begun-fine = record {
    tasks = Each-append TaskFine (map task.Show (flat_body q.body)) (map (λ i. task.Check i.clause i.head) p.checks)
        (Each-mapped TaskFine task.Show (flat_body q.body) (flat-plain [] q.body rowless-parts.0))
        (Each-mapped TaskFine (λ (i : CheckItem). task.Check i.clause i.head) p.checks (checks p.checks));
    lines = tt;
    before = tt;
    cases = refl;
  }
    where
      checks : (is : List CheckItem) → Each (λ i. ⊤) is
      checks [] = tt
      checks (i ∷ is) = (tt, checks is)

  module _ (f : State) (reached : IsReachable p q f) (ended : f.work ≡ []) (v : Sub) where
    tri : Triangular f.bound
    tri = (whole p q is f reached).kept.triangular

    outs : (t : State) → IsReachable p q t → Fine t → EachState (Out p.program f v t) ((search_for p q).next t)
    outs t r fine =
        let k : Known p q is.query t = known p q is.query t r in
        subst (λ (test : List Con → Bool). EachState (Out p.program f v t) (step p.program test t).states) (sym is.test)
        (out-at p.program (parts-of p q is).0 (bodies-plain p.program rowless-parts.1) f v tri t k.neat.orderly.held.solved k.neat.clear k.neat.work (whole p q is t r) fine t.work refl k.owning.front)

    pub fine-there : (t : State) → IsReachable p q t → Fine t
    fine-there _ itself = begun-fine
    fine-there _ (after t u r i) = (each-state (Out p.program f v t) ((search_for p q).next t) u (outs t r (fine-there t r)) i).fine

    out-of : (t u : State) → IsReachable p q t → Contains ((search_for p q).next t) u → Out p.program f v t u
    out-of t u r i = each-state (Out p.program f v t) ((search_for p q).next t) u (outs t r (fine-there t r)) i

    later-then : (s t : State) → IsLater s t → IsLater t f → IsLater s f
    later-then s t a b = record {
      more_bound = a.more_bound ++ b.more_bound;
      bound = b.bound ∙ ap (λ (z : List Binding). z ++ b.more_bound) a.bound ∙ append_assoc s.bound a.more_bound b.more_bound;
      more_given = a.more_given ++ b.more_given;
      given = b.given ∙ ap (λ (z : List Con). z ++ b.more_given) a.given ∙ append_assoc s.given a.more_given b.more_given;
      reads = λ u. sym (b.reads (under (meaning s) u)) ∙ ap (under (meaning f)) (a.reads u) ∙ b.reads u;
    }

    back : (t u : State) → IsLater t u → Out p.program f v t u → Ahead p.program f v u → Ahead p.program f v t
    back t u l o a = record {
      later = later-then t u l a.later;
      ends = o.ends a.later a.ends;
      cases = keeps-back p.program f v t.literals u.literals o.grows a.cases;
      firm = λ z k. a.firm z (o.onto.firm z k);
    }

    begun-counts : Counts (view p.program f v (start q p.checks))
    begun-counts = record { numbered = refl; lines = refl }

    pub arrive : (t : State) → IsReachable p q t → Ahead p.program f v t → Trail p.program f v (view p.program f v (start q p.checks)) (view p.program f v t)
    arrive _ itself a = stays
    arrive _ (after t u r i) a =
        let o = out-of t u r i in
        let later = goes-on p q is t u r i in
        let before = back t u later o a in
        let trail = arrive t r before in
        let counts = trail-counts p.program f v (view p.program f v (start q p.checks)) (view p.program f v t) trail begun-counts in
        follows (view p.program f v t) (view p.program f v u) trail (o.move before.later (numbers-at t counts) a)
      where
        numbers-at : (t : State) → Counts (view p.program f v t) → Numbered (length t.literals) (reverse t.literals)
        numbers-at t c =
            numbered-unread (reading f v) (length t.literals) (reverse t.literals)
            (subst (λ (n : ℕ). Numbered n (literals_read (reading f v) (reverse t.literals))) (long-read (reading f v) (reverse t.literals) ∙ length-reversed t.literals) c.numbered)

    at-end : Ahead p.program f v f
    at-end = record {
      later = later-of f f [] [] (sym (append-nil f.bound)) (sym (append-nil f.given)) tri;
      ends = subst (Each (Ends p.program f v)) (sym ended) tt;
      cases = λ n a e. ap cases_in e;
      firm = λ z k. k;
    }

    pub arrived : Trail p.program f v (view p.program f v (start q p.checks)) (view p.program f v f)
    arrived = arrive f reached at-end
