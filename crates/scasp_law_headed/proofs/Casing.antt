-- Cases that begin and end, as moves.
use Rattle.std.specs.Prelude.{◌≡◌, ℕ, zero, suc, ◌+◌, ◌<◌, ◌≤◌, nat_eq, Bool, true, false, ◌&&◌, ◌||◌, not, if◌then◌else◌, Option, None, Some, List, [], ◌∷◌, ◌++◌, map, reverse, drop, length}
use Rattle.std.specs.List.{flat_map, list_any}
use Rattle.std.proofs.Common.{◌∙◌, ap, append_assoc, arith, refl, subst, sym}
use Rattle.std.proofs.lemmas.Bool.{true≢false}
use Rattle.std.proofs.lemmas.Grind.{flat_map-append}
use Rattle.std.proofs.lemmas.List.{append-nil, length-append, map-append, reverse-append}
use Rattle.scasp_checker_rules.proofs.NodeLemmas.{all_under-length}
use Rattle.scasp_hint.proofs.SatisfyingLemmas.{sat-always}
use Rattle.scasp_hint.specs.Satisfying.{sat}
use Rattle.scasp_law_first_event.proofs.Bindings.{Solved}
use Rattle.scasp_law_first_event.proofs.EachStates.{each_append}
use Rattle.scasp_law_first_event.proofs.Firming.{new-onto}
use Rattle.scasp_law_first_event.proofs.Firmness.{BindingFirm, Firm, Onto, as-many, kinded-term, read-kinded}
use Rattle.scasp_law_first_event.proofs.Raising.{Each-mapped}
use Rattle.scasp_law_first_event.proofs.Terms.{all-under}
use Rattle.scasp_law_headed_steps.proofs.Assuming.{Kept}
use Rattle.scasp_law_headed_steps.specs.Calm.{AreBound}
use Rattle.scasp_law_sorted.proofs.Evenness.{Bare}
use Rattle.scasp_list.proofs.EachLemmas.{Each-append, Each-map, Each-right}
use Rattle.scasp_list.specs.Each.{Each}
use Rattle.scasp_search_rules.specs.Successors.Calls.{args_in, head_args, lit_under, vars_of_clause}
use Rattle.scasp_search_rules.specs.Successors.Cases.{after_case, begin_cases, begin_cover, cases_of, cases_where, check_clause, close_case, cover_for, ended_case, failing_at, head_call, kept_literal, leaf_at, line_under, unbound, unbound_of, with_head, with_items}
use Rattle.scasp_search_rules.specs.Successors.Falls.{EachState}
use Rattle.scasp_search_rules.specs.Successors.Items.{body_of, opposite_item, with_line}
use Rattle.scasp_search_rules.specs.Successors.Reading.{among, count_from}
use Rattle.scasp_search_rules.specs.Successors.Regions.{asked_with, before, context, equation, regions}
use Rattle.scasp_search_rules.specs.Successors.Splits.{is_bound_in}
use Rattle.scasp_search_rules.specs.Successors.Variables.{meaning, next_variable, with_new}
use Rattle.scasp_search_rules.specs.declared.states.covers.Cover.{Cover}
use Rattle.scasp_search_rules.specs.declared.states.covers.Remainder.{Remainder}
use Rattle.scasp_search_rules.specs.declared.states.lines.Line.{Line}
use Rattle.scasp_search_rules.specs.declared.states.lines.Line.TheVariants as line
use Rattle.scasp_search_rules.specs.declared.states.state.Kind.TheVariants.{Matched}
use Rattle.scasp_search_rules.specs.declared.states.state.Literal.{Literal}
use Rattle.scasp_search_rules.specs.declared.states.state.State.{State}
use Rattle.scasp_search_rules.specs.declared.states.tasks.Task.{Task}
use Rattle.scasp_search_rules.specs.declared.states.tasks.Task.TheVariants as task
use Rattle.scasp_syntax.specs.Instances.{atom_under}
use Rattle.scasp_syntax.specs.Programs.{numbered}
use Rattle.scasp_syntax.specs.Tm.{items, var}
use Rattle.scasp_syntax.specs.Constraints.{Sat}
use Rattle.scasp_syntax.specs.Values.{Sub, raised}
use Rattle.scasp_syntax.specs.declared.atom.Atom.{Atom}
use Rattle.scasp_syntax.specs.declared.clause.Clause.{Clause}
use Rattle.scasp_syntax.specs.declared.clause.FlatItem.{FlatItem}
use Rattle.scasp_syntax.specs.declared.clause.FlatItem.TheVariants as flat
use Rattle.scasp_syntax.specs.declared.con.Con.{Con}
use Rattle.scasp_syntax.specs.declared.con.Con.TheVariants as con
use Rattle.scasp_syntax.specs.declared.program.Program.{Program}
use Rattle.scasp_unify.specs.Unification.{terms_vars}
use Rattle.scasp_unify.specs.declared.bindings.Binding.{Binding}
use Rattle.scasp_law_headed.proofs.Ahead.{Ends, Fine, LineFine, Out, TaskFine, all_lines, case_read, fine-covers, fine-lines, fine-onto, grows-map, grows-same, lines_before, view, view-lines, wants-append, wants_of}
use Rattle.scasp_law_headed.proofs.Counting.{cases-append}
use Rattle.scasp_law_headed.proofs.Literals.{literal_read, literals_read, read-reverse}
use Rattle.scasp_law_headed.proofs.Readings.{Absorbing, PlainItem, PlainLine, lines-absorbed, lit-absorbed, plain-under, reading-absorbs}
use Rattle.scasp_law_headed.proofs.Views.{IsCaseOf, Want, adds, begins, checks_clause, closes, want_close, want_node, wanted}
use Rattle.scasp_law_headed.specs.Reading.{case_lines, due_read, dues_read, is_case_line, is_plain_rule, line_read, reading}
use Rattle.scasp_lines.specs.Dues.{Due}

-- ---- items

opposite-plain : (i : FlatItem) → PlainItem i → PlainItem (opposite_item i)
opposite-plain (flat.Call l) h = tt
opposite-plain (flat.Test (con.Eq t u)) h = tt
opposite-plain (flat.Test (con.Neq t u)) h = tt
opposite-plain (flat.Test (con.NotShape x g n)) h = absurd h
opposite-plain (flat.Test (con.Num t)) h = absurd h
opposite-plain (flat.Test (con.NotNum t)) h = absurd h
opposite-plain (flat.Test (con.Row q)) h = absurd h

failing-plain : (j : ℕ) (is : List FlatItem) → Each PlainItem is → Each PlainItem (failing_at j is)
failing-plain j [] h = tt
failing-plain zero (i ∷ is) h = (opposite-plain i h.0, tt)
failing-plain (suc j) (i ∷ is) h = (h.0, failing-plain j is h.1)

shows-wanted : (r : Sub) (bs : List Binding) (is : List FlatItem) → wants_of r bs (map task.Show is) ≡ wanted (dues_read r is)
shows-wanted r bs [] = refl
shows-wanted r bs (i ∷ is) = ap (λ (z : List Want). want_node (due_read r i) ∷ z) (shows-wanted r bs is)

dues-append : (r : Sub) (is js : List FlatItem) → dues_read r (is ++ js) ≡ dues_read r is ++ dues_read r js
dues-append r is js = map-append (due_read r) is js

-- ---- lists

counted : (P : ℕ → Type 0) (k n : ℕ) → ((j : ℕ) → j < k + n → P j) → Each P (count_from k n)
counted P k zero h = tt
counted P k (suc n) h = (h k (omega arith), counted P (suc k) n (λ j l. h j (omega (arith, l))))

each-from : {A : Type 0} (Q : A → Type 0) (P : State → Type 0) (g : A → State) → ((x : A) → Q x → P (g x)) → (xs : List A) → Each Q xs → EachState P (map g xs)
each-from Q P g k [] h = tt
each-from Q P g k (x ∷ xs) h = (k x h.0, each-from Q P g k xs h.1)

regions-none : (cs : List Cover) → Each Bare cs → regions cs ≡ []
regions-none [] h = refl
regions-none (c ∷ cs) h =
    ap (flat_map (λ (d : Cover). d.region)) (reverse-append (c ∷ []) cs) ∙ flat_map-append (λ (d : Cover). d.region) (reverse cs) (c ∷ [])
    ∙ ap (λ (z : List Con). z ++ (c.region ++ [])) (regions-none cs h.1) ∙ append-nil c.region ∙ h.0.0

one-case : (ls : List Line) (l : Line) → is_case_line l ≡ true → length (case_lines 1 (ls ++ l ∷ [])) ≡ suc (length (case_lines 1 ls))
one-case ls l e =
    ap length (cases-append 1 ls (l ∷ [])) ∙ ap (λ (b : Bool). length (case_lines 1 ls ++ (if b then (1 + length ls) ∷ [] else []))) e
    ∙ length-append (case_lines 1 ls) ((1 + length ls) ∷ []) ∙ omega arith

same-cases : (r : Sub) (n : ℕ) (ls : List Line) → case_lines n (map (line_read r) ls) ≡ case_lines n ls
same-cases r n [] = refl
same-cases r n (l ∷ ls) =
    ap (λ (b : Bool). if b then n ∷ case_lines (suc n) (map (line_read r) ls) else case_lines (suc n) (map (line_read r) ls)) (same l)
    ∙ ap (λ (z : List ℕ). if is_case_line l then n ∷ z else z) (same-cases r (suc n) ls)
  where
    same : (l : Line) → is_case_line (line_read r l) ≡ is_case_line l
    same (line.Pos a k ts m) = refl
    same (line.Neg a m) = refl
    same (line.Loop l at) = refl
    same (line.Seen l at) = refl
    same (line.Test c) = refl
    same (line.Rule a k first) = refl
    same (line.Check k first) = refl
    same (line.Split c parts) = refl
    same line.Void = refl
    same (line.Leaf k) = refl
    same (line.Head m) = refl

under-cases : (s : State) (n : ℕ) (ls : List Line) → case_lines n (map (line_under s) ls) ≡ case_lines n ls
under-cases s n [] = refl
under-cases s n (l ∷ ls) =
    ap (λ (b : Bool). if b then n ∷ case_lines (suc n) (map (line_under s) ls) else case_lines (suc n) (map (line_under s) ls)) (same l)
    ∙ ap (λ (z : List ℕ). if is_case_line l then n ∷ z else z) (under-cases s (suc n) ls)
  where
    same : (l : Line) → is_case_line (line_under s l) ≡ is_case_line l
    same (line.Pos a k ts m) = refl
    same (line.Neg a m) = refl
    same (line.Loop l at) = refl
    same (line.Seen l at) = refl
    same (line.Test c) = refl
    same (line.Rule a k first) = refl
    same (line.Check k first) = refl
    same (line.Split c parts) = refl
    same line.Void = refl
    same (line.Leaf k) = refl
    same (line.Head m) = refl

module _ (p : Program) (plain : (k first : ℕ) → Each PlainItem (body_of p k first)) (f : State) (v : Sub) where
  -- ---- a case begins, in a state whose work is the rest

  module _ (b : State) (fine : Fine b) (h : Kept b) (c : Cover) (before_it : c.before ≡ b.lines) (number : c.case ≡ b.cases) where
    abbrev pub opened : State
    opened = record b { covers = c ∷ b.covers; cases = suc b.cases; lines = [] }

    opened-lines : (l : Line) → all_lines (with_line opened l) ≡ all_lines b ++ l ∷ []
    opened-lines l = ap (λ (ls : List Line). (lines_before b.covers ++ ls) ++ l ∷ []) before_it

    case-fine : (l : Line) → is_case_line l ≡ true → ((s : State) → LineFine s l) → (is : List FlatItem) → Each PlainItem is → Fine (with_items opened l is)
    case-fine l kind good is k = record {
      tasks = Each-append TaskFine (map task.Show is ++ task.Close ∷ []) b.work (Each-append TaskFine (map task.Show is) (task.Close ∷ []) (Each-mapped TaskFine task.Show is k) (tt, tt)) fine.tasks;
      lines = (good (with_items opened l is), tt);
      before = (subst (Each (LineFine (with_items opened l is))) (sym before_it) (fine-lines b (with_items opened l is) same b.lines fine.lines), fine-covers b (with_items opened l is) same b.covers fine.before);
      cases = ap suc fine.cases ∙ sym (ap (λ (z : List Line). length (case_lines 1 z)) (opened-lines l) ∙ one-case (all_lines b) l kind);
    }
      where
        same : Onto b (with_items opened l is)
        same = record { more = as-many (length b.made); kinded = (λ z g. g); firm = (λ z g. g) }

    -- the view of the case
    case-view : (l : Line) (is : List FlatItem) → view p f v (with_items opened l is)
        ≡ adds (record { lines = map (line_read (reading f v)) (all_lines b); literals = literals_read (reading f v) (reverse b.literals); cases = map case_read b.covers; wants = [] }) (line_read (reading f v) l)
        (literals_read (reading f v) (reverse b.literals)) (case_read c ∷ map case_read b.covers) (wanted (dues_read (reading f v) is) ++ want_close ∷ wants_of (reading f v) b.bound b.work)
    case-view l is = λ i. record {
      lines = (ap (map (line_read (reading f v))) (opened-lines l) ∙ map-append (line_read (reading f v)) (all_lines b) (l ∷ [])) i;
      literals = literals_read (reading f v) (reverse b.literals);
      cases = case_read c ∷ map case_read b.covers;
      wants = all-wants i;
    }
      where
        all-wants : wants_of (reading f v) b.bound ((map task.Show is ++ task.Close ∷ []) ++ b.work) ≡ wanted (dues_read (reading f v) is) ++ want_close ∷ wants_of (reading f v) b.bound b.work
        all-wants =
            wants-append (reading f v) b.bound (map task.Show is ++ task.Close ∷ []) b.work
            ∙ ap (λ (z : List Want). z ++ wants_of (reading f v) b.bound b.work)
            (wants-append (reading f v) b.bound (map task.Show is) (task.Close ∷ []) ∙ ap (λ (z : List Want). z ++ want_close ∷ []) (shows-wanted (reading f v) b.bound is))
            ∙ append_assoc (wanted (dues_read (reading f v) is)) (want_close ∷ []) (wants_of (reading f v) b.bound b.work)

    ends-behind : (l : Line) (is : List FlatItem) → Each (Ends p f v) (with_items opened l is).work → Each (Ends p f v) b.work
    ends-behind l is e = Each-right (Ends p f v) (map task.Show is ++ task.Close ∷ []) b.work e

    -- each of the cases of the clause, where the given constraints are met
    cases-each : (P : State → Type 0) (bare : Each Bare (c ∷ b.covers)) → ((l : Line) (is : List FlatItem) → IsCaseOf p f v c.checks_head c.clause c.first (line_read (reading f v) l) (dues_read (reading f v) is) → is_case_line l ≡ true
        → ((s : State) → LineFine s l) → Each PlainItem is → P (with_items opened l is)) → EachState P (cases_of p sat opened c).states
    cases-each P bare k = by (sat (asked_with opened (context opened))) met
      where
        body : List FlatItem
        body = body_of p c.clause c.first

        met : sat (asked_with opened (context opened)) ≡ true
        met =
            sat-always (asked_with opened (context opened))
            (subst (λ (cs : List Con). Sat (map equation b.bound ++ cs)) (sym (ap (λ (cs : List Con). b.given ++ cs) (regions-none (c ∷ b.covers) bare) ∙ append-nil b.given)) h.met)

        head-case : (is : List FlatItem) → head_call (numbered p.clauses c.clause) c.first ≡ is → c.checks_head ≡ true → EachState P (with_head opened (body_of p c.clause c.first) is)
        head-case [] e g = tt
        head-case (i ∷ is) e g = (by i is e (one (numbered p.clauses c.clause) i is e), tt)
          where
            -- at most one call
            one : (o : Option Clause) (i : FlatItem) (is : List FlatItem) → head_call o c.first ≡ i ∷ is → (a : Atom) × (i ≡ flat.Call (record { positive = true; atom = a })) × (is ≡ [])
            one None i is e = absurd (cc e)
            one (Some d) i is e = of-head d.head e
              where
                of-head : (o : Option Atom) → head_call (Some (record d { head = o })) c.first ≡ i ∷ is → (a : Atom) × (i ≡ flat.Call (record { positive = true; atom = a })) × (is ≡ [])
                of-head None e = absurd (cc e)
                of-head (Some a) e = (atom_under (raised c.first) a, (let q : flat.Call (record { positive = true; atom = atom_under (raised c.first) a }) ≡ i = cc e in sym q), (let q : [] ≡ is = cc e in sym q))

            by : (i : FlatItem) (is : List FlatItem) → head_call (numbered p.clauses c.clause) c.first ≡ i ∷ is → (a : Atom) × (i ≡ flat.Call (record { positive = true; atom = a })) × (is ≡ [])
                → P (with_items opened (line.Head (suc (length (body_of p c.clause c.first)))) (body_of p c.clause c.first ++ i ∷ []))
            by i is e o =
                k (line.Head (suc (length (body_of p c.clause c.first)))) (body_of p c.clause c.first ++ i ∷ [])
                (o.0, g, e ∙ (λ j. o.1 j ∷ o.2 j), refl, dues-append (reading f v) (body_of p c.clause c.first) (i ∷ []) ∙ ap (λ (z : FlatItem). dues_read (reading f v) (body_of p c.clause c.first) ++ due_read (reading f v) z ∷ []) o.1) refl
                (λ s. (tt, tt)) (Each-append PlainItem (body_of p c.clause c.first) (i ∷ []) (plain c.clause c.first) (subst PlainItem (sym o.1) tt, tt))

        ahead : (g : Bool) → c.checks_head ≡ g → EachState P (if g then with_head opened (body_of p c.clause c.first) (head_call (numbered p.clauses c.clause) c.first) else [])
        ahead true g = head-case (head_call (numbered p.clauses c.clause) c.first) refl g
        ahead false g = tt

        by : (g : Bool) → g ≡ true → EachState P (cases_where g p opened c)
        by true e =
            each_append P (map (leaf_at opened (body_of p c.clause c.first)) (count_from 0 (length (body_of p c.clause c.first)))) _
            (each-from (λ j. j < length (body_of p c.clause c.first)) P (leaf_at opened (body_of p c.clause c.first))
            (λ j l. k (line.Leaf (suc j)) (failing_at j (body_of p c.clause c.first)) (j, refl, l, refl) refl (λ s. (tt, tt)) (failing-plain j (body_of p c.clause c.first) (plain c.clause c.first)))
            (count_from 0 (length (body_of p c.clause c.first))) (counted (λ j. j < length (body_of p c.clause c.first)) 0 (length (body_of p c.clause c.first)) (λ j l. omega (arith, l))))
            (ahead c.checks_head refl)
        by false e = absurd (true≢false (sym e))

  -- the plain covers are those of plain rules
  plain-cover : (k first : ℕ) → (nat_eq (vars_of_clause p k) 0 && nat_eq (length (items (head_args p k first))) 0) ≡ is_plain_rule p f v k
  plain-cover k first = ap (λ (n : ℕ). nat_eq (vars_of_clause p k) 0 && nat_eq n 0) (all_under-length (raised first) (args_in (numbered p.clauses k)))

  none-unbound : (s : State) (first n : ℕ) → ((z : ℕ) → first ≤ z → z < first + n → is_bound_in s.bound z ≡ true) → unbound_of s first n ≡ []
  none-unbound s first zero g = refl
  none-unbound s first (suc n) g = by (is_bound_in s.bound first) (g first (omega arith) (omega arith)) (none-unbound s (suc first) n (λ z l m. g z (omega (arith, l)) (omega (arith, m))))
    where
      by : (b : Bool) → b ≡ true → unbound_of s (suc first) n ≡ [] → (if not b then first ∷ unbound_of s (suc first) n else unbound_of s (suc first) n) ≡ []
      by true e rec = rec
      by false e rec = absurd (true≢false (sym e))

  -- the rest of a state
  rest-fine : (s : State) (t : Task) (rest : List Task) → s.work ≡ t ∷ rest → Fine s → Fine (record s { work = rest })
  rest-fine s t rest e h = record {
    tasks = (subst (Each TaskFine) e h.tasks).1;
    lines = Each-map (LineFine s) (LineFine (record s { work = rest })) (λ l k. same l k) s.lines h.lines;
    before = Each-map (λ (c : Cover). Each (LineFine s) c.before) (λ c. Each (LineFine (record s { work = rest })) c.before) (λ c k. Each-map (LineFine s) (LineFine (record s { work = rest })) (λ l k. same l k) c.before k) s.covers h.before;
    cases = h.cases;
  }
    where
      same : (l : Line) → LineFine s l → LineFine (record s { work = rest }) l
      same (line.Pos a k ts n) g = (g.0, g.1)
      same (line.Neg a n) g = g
      same (line.Loop l at) g = g
      same (line.Seen l at) g = g
      same (line.Test c) g = g
      same (line.Rule a k first) g = g
      same (line.Check k first) g = g
      same (line.Split c parts) g = g
      same line.Void g = g
      same (line.Leaf k) g = g
      same (line.Head n) g = g

  -- what is met is met by the rest
  pub begin-out : (s : State) (k first : ℕ) (checks_head : Bool) (rest : List Task) → s.work ≡ task.Begin k first checks_head ∷ rest → Fine s → Kept s → AreBound p s.bound k first
      → EachState (Out p f v s) (begin_cases p sat (record s { work = rest }) k first checks_head).states
  begin-out s k first checks_head rest e fine h bound =
      subst (λ (us : List ℕ). EachState (Out p f v s) (begin_cover p sat (record s { work = rest }) (cover_for p (record s { work = rest }) k first checks_head us)).states) (sym (none-unbound (record s { work = rest }) first (vars_of_clause p k) bound))
      (cases-each (record s { work = rest }) (rest-fine s (task.Begin k first checks_head) rest e fine) h (cover_for p (record s { work = rest }) k first checks_head []) refl refl (Out p f v s) ((refl, refl), h.even.settled.bare)
      (λ l is case kind good k'. record {
        onto = record { more = as-many (length s.made); kinded = (λ z g. g); firm = (λ z g. g) };
        fine = case-fine (record s { work = rest }) (rest-fine s (task.Begin k first checks_head) rest e fine) h (cover_for p (record s { work = rest }) k first checks_head []) refl refl l kind good is k';
        grows = grows-same s.literals;
        ends = λ x y. subst (Each (Ends p f v)) (sym e) (tt, ends-behind (record s { work = rest }) (rest-fine s (task.Begin k first checks_head) rest e fine) h (cover_for p (record s { work = rest }) k first checks_head []) refl refl l is y);
        move = λ x y z. begins (record {
          rule = k;
          first = first;
          bound = s.bound;
          pairs = [];
          behind = wants_of (reading f v) s.bound rest;
          wants = ap (wants_of (reading f v) s.bound) e;
          same = tt;
          case = line_read (reading f v) l;
          dues = dues_read (reading f v) is;
          is_case = subst (λ (g : Bool). IsCaseOf p f v g k first (line_read (reading f v) l) (dues_read (reading f v) is)) (subst (Each TaskFine) e fine.tasks).0 case;
          one = case_read (cover_for p (record s { work = rest }) k first checks_head []);
          new = record { number = fine.cases ∙ sym (ap length (same-cases (reading f v) 1 (all_lines s))); plain = plain-cover k first };
          next = case-view (record s { work = rest }) (rest-fine s (task.Begin k first checks_head) rest e fine) h (cover_for p (record s { work = rest }) k first checks_head []) refl refl l is;
        });
      }))

  -- ---- a clause that is checked

  pub check-out : (s : State) (k : ℕ) (checks_head : Bool) (rest : List Task) → s.work ≡ task.Check k checks_head ∷ rest → Fine s → Kept s → Kept (with_new s Matched 0 (vars_of_clause p k)) → vars_of_clause p k ≡ 0
      → EachState (Out p f v s) (check_clause p sat (record s { work = rest }) k checks_head).states
  check-out s k checks_head rest e fine h kept none =
      subst (λ (us : List ℕ). EachState (Out p f v s) (begin_cover p sat told (cover_for p told k (next_variable s) checks_head us)).states)
      (sym (none-unbound told (next_variable s) (vars_of_clause p k) (λ z l m. absurd (omega (arith, l, m, none)))))
      (cases-each told told-fine kept (cover_for p told k (next_variable s) checks_head []) refl refl (Out p f v s) ((refl, refl), h.even.settled.bare)
      (λ l is case kind good k'. record {
        onto = record { more = o.more; kinded = o.kinded; firm = o.firm };
        fine = case-fine told told-fine kept (cover_for p told k (next_variable s) checks_head []) refl refl l kind good is k';
        grows = grows-same s.literals;
        ends = λ x y. subst (Each (Ends p f v)) (sym e) (tt, ends-behind told told-fine kept (cover_for p told k (next_variable s) checks_head []) refl refl l is y);
        move = λ x y z. checks_clause (record {
          rule = k;
          checks_head = checks_head;
          first = next_variable s;
          behind = wants_of (reading f v) s.bound rest;
          wants = ap (wants_of (reading f v) s.bound) e;
          case = line_read (reading f v) l;
          dues = dues_read (reading f v) is;
          is_case = for-check checks_head (line_read (reading f v) l) (dues_read (reading f v) is) case;
          one = case_read (cover_for p told k (next_variable s) checks_head []);
          new = record { number = fine.cases ∙ sym (ap length (same-cases (reading f v) 1 (all_lines s))); plain = plain-cover k (next_variable s) };
          next = case-view told told-fine kept (cover_for p told k (next_variable s) checks_head []) refl refl l is
              ∙ (λ i. record {
                lines = view-lines p f v s (line.Check k (next_variable s)) i ++ line_read (reading f v) l ∷ [];
                literals = literals_read (reading f v) (reverse s.literals);
                cases = case_read (cover_for p told k (next_variable s) checks_head []) ∷ map case_read s.covers;
                wants = wanted (dues_read (reading f v) is) ++ want_close ∷ wants_of (reading f v) s.bound rest;
              });
        });
      }))
    where
      told : State
      told = with_line (with_new (record s { work = rest }) Matched 0 (vars_of_clause p k)) (line.Check k (next_variable s))

      o : Onto s (with_new s Matched 0 (vars_of_clause p k))
      o = new-onto s Matched 0 (vars_of_clause p k)

      onto-told : Onto (record s { work = rest }) (with_line (with_new (record s { work = rest }) Matched 0 (vars_of_clause p k)) (line.Check k (next_variable s)))
      onto-told = record { more = o.more; kinded = o.kinded; firm = o.firm }

      first-fine : Fine (record s { work = rest })
      first-fine = rest-fine s (task.Check k checks_head) rest e fine

      told-fine : Fine (with_line (with_new (record s { work = rest }) Matched 0 (vars_of_clause p k)) (line.Check k (next_variable s)))
      told-fine = record {
        tasks = first-fine.tasks;
        lines = Each-append (LineFine told) s.lines (line.Check k (next_variable s) ∷ []) (fine-lines (record s { work = rest }) told onto-told s.lines first-fine.lines) ((tt, tt), tt);
        before = fine-covers (record s { work = rest }) told onto-told s.covers first-fine.before;
        cases = fine.cases
            ∙ sym (ap (λ (z : List Line). length (case_lines 1 z)) (sym (append_assoc (lines_before s.covers) s.lines (line.Check k (next_variable s) ∷ [])))
            ∙ ap length (cases-append 1 (all_lines s) (line.Check k (next_variable s) ∷ [])) ∙ ap length (append-nil (case_lines 1 (all_lines s))));
      }

      for-check : (g : Bool) (l : Line) (ds : List Due) → IsCaseOf p f v g k (next_variable s) l ds → IsCaseOf p f v true k (next_variable s) l ds
      for-check g (line.Leaf n) ds q = q
      for-check g (line.Head n) ds q = (q.0, refl, q.2, q.3, q.4)
      for-check g l ds q = absurd q

  -- ---- a case ends

  none-taken : (us : List ℕ) → us ≡ [] → (bs : List Binding) → unbound us [] bs ≡ bs
  none-taken us e bs = ap (λ (xs : List ℕ). unbound xs [] bs) e ∙ all bs
    where
      all : (bs : List Binding) → unbound [] [] bs ≡ bs
      all [] = refl
      all (b ∷ bs) = ap (λ (xs : List Binding). b ∷ xs) (all bs)

  -- the literals that are kept read as before
  kept-read : (s : State) (us : List ℕ) → us ≡ [] → Absorbing (reading f v) (meaning s) → (xs : List Literal) → literals_read (reading f v) (map (kept_literal s us) xs) ≡ literals_read (reading f v) xs
  kept-read s us e a [] = refl
  kept-read s us e a (x ∷ xs) = λ i. one i ∷ kept-read s us e a xs i
    where
      none : (ys : List ℕ) → list_any (λ z. among z []) ys ≡ false
      none [] = refl
      none (y ∷ ys) = none ys

      or-false : (g : Bool) → (g || false) ≡ g
      or-false true = refl
      or-false false = refl

      special : (x.is_general || list_any (λ z. among z us) (terms_vars (lit_under s x.lit).atom.args)) ≡ x.is_general
      special = ap (λ (g : Bool). x.is_general || g) (ap (λ (zs : List ℕ). list_any (λ z. among z zs) (terms_vars (lit_under s x.lit).atom.args)) e ∙ none (terms_vars (lit_under s x.lit).atom.args)) ∙ or-false x.is_general

      one : literal_read (reading f v) (kept_literal s us x) ≡ literal_read (reading f v) x
      one = λ i. record x { lit = lit-absorbed (reading f v) (meaning s) a x.lit i; is_general = special i }

  fine-under : (s : State) → Solved (length s.made) s.bound → Each (BindingFirm s) s.bound → (l : Line) → LineFine s l → LineFine s (line_under s l)
  fine-under s solved bindings (line.Pos a k ts n) g = (tt, all-under (Firm s) (Firm s) (meaning s) (λ x y. kinded-term s (meaning s x) (read-kinded s solved bindings (var x) y)) ts g.1)
  fine-under s solved bindings (line.Neg a n) g = g
  fine-under s solved bindings (line.Loop l at) g = g
  fine-under s solved bindings (line.Seen l at) g = g
  fine-under s solved bindings (line.Test c) g = (plain-under s (line.Test c) g.0, tt)
  fine-under s solved bindings (line.Rule a k first) g = g
  fine-under s solved bindings (line.Check k first) g = g
  fine-under s solved bindings (line.Split c parts) g = absurd g.0
  fine-under s solved bindings line.Void g = g
  fine-under s solved bindings (line.Leaf k) g = g
  fine-under s solved bindings (line.Head n) g = g

  pub close-out : (s : State) (rest : List Task) → s.work ≡ task.Close ∷ rest → Fine s → Solved (length s.made) s.bound → Each (BindingFirm s) s.bound → Each (λ c. (c.universals ≡ []) × (c.waiting ≡ [])) s.covers
      → EachState (Out p f v s) (close_case p sat (record s { work = rest }) s.covers).states
  close-out s rest e fine solved bindings none = by s.covers refl
    where
      u : State
      u = record s { work = rest }

      by : (cs : List Cover) → s.covers ≡ cs → EachState (Out p f v s) (close_case p sat (record s { work = rest }) cs).states
      by [] g = tt
      by (c ∷ cs) g =
          subst (λ (rs : List Remainder). EachState (Out p f v s) (after_case p sat (record s { work = rest }) c cs rs).states) (sym bare.0.1)
          (subst (λ (bs : List Binding). Out p f v s (record (ended_case (record s { work = rest }) c []) { covers = cs; bound = bs })) (sym (none-taken c.universals bare.0.0 s.bound)) ended, tt)
        where
          bare : Each (λ c. (c.universals ≡ []) × (c.waiting ≡ [])) (c ∷ cs)
          bare = subst (Each (λ c. (c.universals ≡ []) × (c.waiting ≡ []))) g none

          before_it : Each (λ c. Each (LineFine s) c.before) (c ∷ cs)
          before_it = subst (Each (λ c. Each (LineFine s) c.before)) g fine.before

          t : State
          t = record (ended_case (record s { work = rest }) c []) { covers = cs; bound = s.bound }

          same : Onto s (record (ended_case (record s { work = rest }) c []) { covers = cs; bound = s.bound })
          same = record { more = as-many (length s.made); kinded = (λ z y. y); firm = (λ z y. y) }

          lines_are : all_lines s ≡ (lines_before cs ++ c.before) ++ s.lines
          lines_are = ap (λ (os : List Cover). lines_before os ++ s.lines) g

          plains : Each PlainLine s.lines
          plains = Each-map (LineFine s) PlainLine (λ l k. k.0) s.lines fine.lines

          counts : length (case_lines 1 (all_lines s)) ≡ length (case_lines 1 (lines_before cs ++ (c.before ++ map (line_under (record s { work = rest })) s.lines)))
          counts =
              ap (λ (z : List Line). length (case_lines 1 z)) lines_are ∙ ap length (cases-append 1 (lines_before cs ++ c.before) s.lines)
              ∙ ap (λ (z : List ℕ). length (case_lines 1 (lines_before cs ++ c.before) ++ z)) (sym (under-cases (record s { work = rest }) (1 + length (lines_before cs ++ c.before)) s.lines))
              ∙ sym (ap length (cases-append 1 (lines_before cs ++ c.before) (map (line_under (record s { work = rest })) s.lines)))
              ∙ ap (λ (z : List Line). length (case_lines 1 z)) (append_assoc (lines_before cs) c.before (map (line_under (record s { work = rest })) s.lines))

          ended : Out p f v s (record (ended_case (record s { work = rest }) c []) { covers = cs; bound = s.bound })
          ended = record {
            onto = same;
            fine = record {
              tasks = (subst (Each TaskFine) e fine.tasks).1;
              lines = Each-append (LineFine t) c.before (map (line_under (record s { work = rest })) s.lines) (fine-lines s t same c.before before_it.0)
                  (Each-mapped (LineFine t) (line_under (record s { work = rest })) s.lines
                  (Each-map (LineFine s) (λ l. LineFine t (line_under (record s { work = rest }) l)) (λ l k. fine-onto s t same (line_under s l) (fine-under s solved bindings l k)) s.lines fine.lines));
              before = fine-covers s t same cs before_it.1;
              cases = fine.cases ∙ counts;
            };
            grows = grows-map (kept_literal (record s { work = rest }) c.universals) (λ a. refl) s.literals;
            ends = λ x y. subst (Each (Ends p f v)) (sym e) (tt, y);
            move = λ l n a. closes (record {
              behind = wants_of (reading f v) s.bound rest;
              wants = ap (wants_of (reading f v) s.bound) e;
              next = λ i. record {
                lines = (ap (map (line_read (reading f v))) (sym (append_assoc (lines_before cs) c.before (map (line_under (record s { work = rest })) s.lines)))
                    ∙ map-append (line_read (reading f v)) (lines_before cs ++ c.before) (map (line_under (record s { work = rest })) s.lines)
                    ∙ ap (λ (z : List Line). map (line_read (reading f v)) (lines_before cs ++ c.before) ++ z) (lines-absorbed (reading f v) s (reading-absorbs s f l v) s.lines plains)
                    ∙ sym (map-append (line_read (reading f v)) (lines_before cs ++ c.before) s.lines) ∙ ap (map (line_read (reading f v))) (sym lines_are)) i;
                literals = (read-reverse (reading f v) (map (kept_literal (record s { work = rest }) c.universals) s.literals)
                    ∙ ap reverse (kept-read (record s { work = rest }) c.universals bare.0.0 (reading-absorbs s f l v) s.literals) ∙ sym (read-reverse (reading f v) s.literals)) i;
                cases = (ap (λ (os : List Cover). drop 1 (map case_read os)) (sym g)) i;
                wants = wants_of (reading f v) s.bound rest;
              };
            });
          }
