-- Tests, equations, what is assumed, and covers, as moves.
use Rattle.std.specs.Prelude.{◌≡◌, ◌⊎◌, ℕ, zero, suc, ◌+◌, ◌-◌, ◌<◌, nat_lt, Bool, true, false, if◌then◌else◌, Option, None, Some, List, [], ◌∷◌, ◌++◌, map, reverse, length}
use Rattle.std.specs.List.{list_all}
use Rattle.std.proofs.Common.{◌∙◌, ap, append_assoc, arith, inl, inr, refl, subst, sym}
use Rattle.std.proofs.lemmas.Bool.{and_parts, lt-ltb, ltb-false, ltb-true, true≢false}
use Rattle.std.proofs.lemmas.List.{append-nil, map-append}
use Rattle.scasp_hint.specs.Satisfying.{sat}
use Rattle.scasp_law_first_event.proofs.Apart.{Both, pairs-both}
use Rattle.scasp_law_first_event.proofs.Bindings.{Solved, above-unbound}
use Rattle.scasp_law_first_event.proofs.EachStates.{each_weaker}
use Rattle.scasp_law_first_event.proofs.Firming.{new-onto}
use Rattle.scasp_law_first_event.proofs.Firmness.{ArgsFirm, BindingFirm, Firm, Onto, TermFirm, as-many}
use Rattle.scasp_law_first_event.proofs.Terms.{EachVars, all-weaker, below-all}
use Rattle.scasp_law_headed_steps.proofs.Assuming.{Found, Kept, assume-plain, read-found}
use Rattle.scasp_law_headed_steps.proofs.Bodies.{TestOf}
use Rattle.scasp_law_headed_steps.proofs.Forms.{ConAll}
use Rattle.scasp_law_headed_steps.proofs.Heads.{Covers}
use Rattle.scasp_law_headed_steps.proofs.Joining.{Joins, PairEqual, args-equal, pairs-equal, terms-join}
use Rattle.scasp_law_headed_steps.proofs.Reaching.{later-of}
use Rattle.scasp_law_headed_steps.specs.Calm.{IsLater}
use Rattle.scasp_law_no_circle.proofs.Tasks.{NoRow}
use Rattle.scasp_law_parts.proofs.BoundLemmas.{absorbed}
use Rattle.scasp_law_parts.specs.Bound.{Triangular}
use Rattle.scasp_law_sorted.proofs.Evenness.{quiet}
use Rattle.scasp_lines.specs.Determined.{determined}
use Rattle.scasp_list.proofs.EachLemmas.{Each-left, Each-right}
use Rattle.scasp_list.specs.Each.{Each}
use Rattle.scasp_search_rules.specs.Successors.Assumptions.{assume}
use Rattle.scasp_search_rules.specs.Successors.Calls.{args_in, covered, head_args, vars_in, vars_of_clause}
use Rattle.scasp_search_rules.specs.Successors.Equations.{equate_pairs, equate_terms, equated, equations_of}
use Rattle.scasp_search_rules.specs.Successors.Falls.{EachState}
use Rattle.scasp_search_rules.specs.Successors.Items.{test_item, with_line}
use Rattle.scasp_search_rules.specs.Successors.Numbering.{con_renamed}
use Rattle.scasp_search_rules.specs.Successors.Pairs.{pairs, pairs_of}
use Rattle.scasp_search_rules.specs.Successors.Regions.{before}
use Rattle.scasp_search_rules.specs.Successors.Splits.{is_bound_in}
use Rattle.scasp_search_rules.specs.Successors.Steps.{goes}
use Rattle.scasp_search_rules.specs.Successors.Variables.{is_empty, meaning, universals_of, with_new}
use Rattle.scasp_search_rules.specs.declared.states.lines.Line.TheVariants as line
use Rattle.scasp_search_rules.specs.declared.states.state.Kind.TheVariants.{Matched}
use Rattle.scasp_search_rules.specs.declared.states.state.Literal.{Literal}
use Rattle.scasp_search_rules.specs.declared.states.state.State.{State}
use Rattle.scasp_search_rules.specs.declared.states.tasks.Aim.TheVariants as aims
use Rattle.scasp_search_rules.specs.declared.states.tasks.Pair.{Pair}
use Rattle.scasp_search_rules.specs.declared.states.tasks.Task.{Task}
use Rattle.scasp_search_rules.specs.declared.states.tasks.Task.TheVariants as task
use Rattle.scasp_syntax.proofs.ValueLemmas.{all_under-all_under, is_ground-under}
use Rattle.scasp_syntax.specs.Instances.{atom_under}
use Rattle.scasp_syntax.specs.Programs.{numbered}
use Rattle.scasp_syntax.specs.Tm.{Tm, Tms}
use Rattle.scasp_syntax.specs.Values.{Sub, Valuation, all_under, raised, under}
use Rattle.scasp_syntax.specs.View.{tm_of}
use Rattle.scasp_syntax.specs.WellFormed.{is_clause_well_formed, is_head_below, is_item_below, is_query_well_formed}
use Rattle.scasp_syntax.specs.declared.atom.Atom.{Atom}
use Rattle.scasp_syntax.specs.declared.clause.Clause.{Clause}
use Rattle.scasp_syntax.specs.declared.clause.FlatItem.TheVariants as flat
use Rattle.scasp_syntax.specs.declared.con.Con.{Con}
use Rattle.scasp_syntax.specs.declared.con.Con.TheVariants as con
use Rattle.scasp_syntax.specs.declared.program.Program.{Program}
use Rattle.scasp_syntax.specs.declared.term.Term.{Term}
use Rattle.scasp_unify.proofs.UnificationLemmas.{resolved-twice}
use Rattle.scasp_unify.specs.Unification.{Absorbs}
use Rattle.scasp_unify.specs.declared.bindings.Binding.{Binding}
use Rattle.scasp_law_headed.proofs.Ahead.{Ends, Grows, Step, TaskFine, bound-equal, case_read, entails-later, grows-same, view-lines, view-same, wants-append, wants-equations, wants_of}
use Rattle.scasp_law_headed.proofs.Literals.{literals_read}
use Rattle.scasp_law_headed.proofs.Matching.{all-agree, args-pairs}
use Rattle.scasp_law_headed.proofs.Readings.{PlainTest}
use Rattle.scasp_law_headed.proofs.Views.{Miss, Outside, Want, rests, takes_rule, tells_test, want_match}
use Rattle.scasp_law_headed.specs.Reading.{Misses, reading}

-- ---- the head of a clause

-- its variables are those of the clause
pub head-below : (p : Program) (k : ℕ) → EachVars (λ x. x < vars_of_clause p k) (args_in (numbered p.clauses k))
head-below p k = by (numbered p.clauses k) (sound p.clauses (and_parts (list_all is_clause_well_formed p.clauses) (list_all is_query_well_formed p.queries) p.well_formed).0 k)
  where
    sound : (cs : List Clause) → list_all is_clause_well_formed cs ≡ true → (n : ℕ) (c : Clause) → numbered cs n ≡ Some c → is_clause_well_formed c ≡ true
    sound [] e zero c g = absurd (cc g)
    sound [] e (suc n) c g = absurd (cc g)
    sound (d ∷ cs) e zero c g = absurd (cc g)
    sound (d ∷ cs) e (suc zero) c g = let same : d ≡ c = cc g in subst (λ (z : Clause). is_clause_well_formed z ≡ true) same (and_parts (is_clause_well_formed d) (list_all is_clause_well_formed cs) e).0
    sound (d ∷ cs) e (suc (suc n)) c g = sound cs (and_parts (is_clause_well_formed d) (list_all is_clause_well_formed cs) e).1 (suc n) c g

    by : (o : Option Clause) → ((c : Clause) → o ≡ Some c → is_clause_well_formed c ≡ true) → EachVars (λ x. x < vars_in o) (args_in o)
    by None g = tt
    by (Some c) g = head c.head (and_parts (is_head_below c.vars c.head) (list_all (is_item_below c.vars) c.body) (g c refl)).0
      where
        head : (o : Option Atom) → is_head_below c.vars o ≡ true → EachVars (λ x. x < c.vars) (args_in (Some (record c { head = o })))
        head None e = tt
        head (Some a) e = below-all c.vars a.args e

-- ---- what is assumed

module _ (p : Program) (f : State) (v : Sub) (s : State) (solved : Solved (length s.made) s.bound) (bindings : Each (BindingFirm s) s.bound) (h : Kept s) where
  pub assume-steps : (c : Con) → ConAll (Firm s) c → NoRow c → EachState (Step p f v s (task.Assume c)) (assume sat s c).states
  assume-steps c a n =
      assume-plain s solved bindings h c n a (Step p f v s (task.Assume c))
      (λ gs kept e. record {
        onto = record { more = as-many (length s.made); kinded = (λ z k. k); firm = (λ z k. k) };
        covers = refl;
        cases = refl;
        grows = grows-same s.literals;
        tasks = [];
        work = refl;
        tasks_fine = tt;
        more_lines = [];
        lines = sym (append-nil s.lines);
        lines_fine = tt;
        no_case = tt;
        ends = λ l i. entails-later p f v (record s { given = s.given ++ gs }) c l e.0;
        move = λ l m i j. rests refl;
      })

-- ---- tasks that may bind variables

module _ (p : Program) (f : State) (v : Sub) (tri : Triangular f.bound) (s : State) (solved : Solved (length s.made) s.bound) (bindings : Each (BindingFirm s) s.bound) (h : Kept s)
    (still : (bs : List Binding) → wants_of (reading f v) bs s.work ≡ wants_of (reading f v) s.bound s.work) where
  abbrev ws : List Want
  ws = wants_of (reading f v) s.bound s.work

  -- ---- tests

  test-known : (c : Con) → PlainTest c → determined (reading f v) c ≡ Some (con_renamed (reading f v) c)
  test-known (con.Eq t u) i = refl
  test-known (con.Neq t u) i = refl
  test-known (con.NotShape x g n) i = absurd i
  test-known (con.Num t) i = absurd i
  test-known (con.NotNum t) i = absurd i
  test-known (con.Row q) i = absurd i

  -- the line of the test, and tasks of which nothing is wanted
  told-step : (c : Con) → PlainTest c → (gs : List Con) (ts : List Task) → Each TaskFine ts → wants_of (reading f v) s.bound ts ≡ []
      → Step p f v s (task.Show (flat.Test c)) (before ts (record (with_line s (line.Test c)) { given = s.given ++ gs }))
  told-step c plain gs ts fine none = record {
    onto = record { more = as-many (length s.made); kinded = (λ z k. k); firm = (λ z k. k) };
    covers = refl;
    cases = refl;
    grows = grows-same s.literals;
    tasks = ts;
    work = refl;
    tasks_fine = fine;
    more_lines = line.Test c ∷ [];
    lines = refl;
    lines_fine = ((plain, tt), tt);
    no_case = (refl, tt);
    ends = λ l i. tt;
    move = λ l n a i. tells_test (record {
      due = determined (reading f v) c;
      test = con_renamed (reading f v) c;
      due_is = test-known c plain;
      behind = ws;
      wants = refl;
      next = λ j. record {
        lines = view-lines p f v s (line.Test c) j;
        literals = literals_read (reading f v) (reverse s.literals);
        cases = map case_read s.covers;
        wants = (wants-append (reading f v) s.bound ts s.work ∙ ap (λ (z : List Want). z ++ ws) none) j;
      };
    });
  }

  pub test-steps : (c : Con) → PlainTest c → TestOf (Firm s) c → EachState (Step p f v s (task.Show (flat.Test c))) (test_item sat (with_line s (line.Test c)) c).states
  test-steps (con.Eq t u) plain a = (with-given (told-step (con.Eq t u) tt [] (task.Equate t u ∷ []) (tt, tt) refl), tt)
    where
      with-given : Step p f v s (task.Show (flat.Test (con.Eq t u))) (before (task.Equate t u ∷ []) (record (with_line s (line.Test (con.Eq t u))) { given = s.given ++ [] }))
          → Step p f v s (task.Show (flat.Test (con.Eq t u))) (before (task.Equate t u ∷ []) (with_line s (line.Test (con.Eq t u))))
      with-given k = subst (λ (gs : List Con). Step p f v s (task.Show (flat.Test (con.Eq t u))) (before (task.Equate t u ∷ []) (record (with_line s (line.Test (con.Eq t u))) { given = gs }))) (append-nil s.given) k
  test-steps (con.Neq t u) plain a = by (is_empty (universals_of s (con.Neq t u))) (quiet s h.even (con.Neq t u))
    where
      by : (b : Bool) → b ≡ true
          → EachState (Step p f v s (task.Show (flat.Test (con.Neq t u)))) (if b then assume sat (with_line s (line.Test (con.Neq t u))) (con.Neq t u) else goes (before (task.Differ (record { left = t; right = u } ∷ []) aims.Test ∷ []) (with_line s (line.Test (con.Neq t u))))).states
      by true e =
          assume-plain (with_line s (line.Test (con.Neq t u))) solved bindings h (con.Neq t u) tt a.0 (Step p f v s (task.Show (flat.Test (con.Neq t u))))
          (λ gs kept e. told-step (con.Neq t u) tt gs [] tt refl)
      by false e = absurd (true≢false (sym e))
  test-steps (con.NotShape x g n) plain a = absurd plain
  test-steps (con.Num t) plain a = absurd plain
  test-steps (con.NotNum t) plain a = absurd plain
  test-steps (con.Row q) plain a = absurd plain

  -- ---- equations

  ended-pairs : (ps : List Pair) → Each (Ends p f v) (equations_of ps) → Each (PairEqual (meaning f)) ps
  ended-pairs [] e = tt
  ended-pairs (o ∷ ps) e = (e.0, ended-pairs ps e.1)

  fine-pairs : (ps : List Pair) → Each TaskFine (equations_of ps)
  fine-pairs [] = tt
  fine-pairs (o ∷ ps) = (tt, fine-pairs ps)

  equal-read : IsLater s f → (t u : Tm) → Each (PairEqual (meaning f)) (pairs_of (under (meaning s) t) (under (meaning s) u)) → under (meaning f) t ≡ under (meaning f) u
  equal-read l t u e =
      let a : Absorbs (meaning f) (meaning s) = absorbed (meaning f) s.bound (bound-equal p f v tri s l) in
      sym (resolved-twice (meaning f) (meaning s) t a) ∙ pairs-equal (meaning f) (under (meaning s) t) (under (meaning s) u) e ∙ resolved-twice (meaning f) (meaning s) u a

  -- a state before one that comes before the finished one
  earlier : (r : State) → IsLater r f → (more : List Binding) → r.bound ≡ s.bound ++ more → (gs : List Con) → r.given ≡ s.given ++ gs → IsLater s f
  earlier r l more b gs g =
      later-of s f (more ++ l.more_bound) (gs ++ l.more_given) (l.bound ∙ ap (λ (z : List Binding). z ++ l.more_bound) b ∙ append_assoc s.bound more l.more_bound)
      (l.given ∙ ap (λ (z : List Con). z ++ l.more_given) g ∙ append_assoc s.given gs l.more_given) tri

  joined-step : (t u : Term) (o : Pair) (ps : List Pair) → pairs_of (under (meaning s) (tm_of t)) (under (meaning s) (tm_of u)) ≡ o ∷ ps → (r : State)
      → Joins (before (equations_of ps) s) (tm_of o.left) (tm_of o.right) r → Step p f v s (task.Equate t u) r
  joined-step t u o ps e r j = record {
    onto = record { more = j.onto.more; kinded = j.onto.kinded; firm = j.onto.firm };
    covers = j.covers;
    cases = j.case_count;
    grows = subst (λ (xs : List Literal). Grows s.literals xs) (sym j.literals) (grows-same s.literals);
    tasks = equations_of (j.left ++ ps);
    work = work_is;
    tasks_fine = fine-pairs (j.left ++ ps);
    more_lines = [];
    lines = j.lines ∙ sym (append-nil s.lines);
    lines_fine = tt;
    no_case = tt;
    ends = λ l i.
        let all : Each (PairEqual (meaning f)) (j.left ++ ps) = ended-pairs (j.left ++ ps) i in
        equal-read (earlier r l j.more_bound j.bound j.more_given j.given) (tm_of t) (tm_of u)
        (subst (Each (PairEqual (meaning f))) (sym e)
        (j.same (meaning f) (bound-equal p f v tri r l) (Each-left (PairEqual (meaning f)) j.left ps all), Each-right (PairEqual (meaning f)) j.left ps all));
    move = λ l n a i. rests (sym (view-same p f v (record s { work = task.Equate t u ∷ s.work }) r ws j.covers j.literals j.lines
        (ap (wants_of (reading f v) r.bound) work_is ∙ wants-append (reading f v) r.bound (equations_of (j.left ++ ps)) s.work
        ∙ ap (λ (z : List Want). z ++ wants_of (reading f v) r.bound s.work) (wants-equations (reading f v) r.bound (j.left ++ ps)) ∙ still r.bound)));
  }
    where
      work_is : r.work ≡ equations_of (j.left ++ ps) ++ s.work
      work_is =
          j.work ∙ sym (append_assoc (equations_of j.left) (equations_of ps) s.work)
          ∙ ap (λ (z : List Task). z ++ s.work) (sym (map-append (λ (o : Pair). task.Equate o.left o.right) j.left ps))

  pub equate-steps : (t u : Term) → TermFirm s (tm_of t) → TermFirm s (tm_of u) → EachState (Step p f v s (task.Equate t u)) (equate_terms sat s (tm_of t) (tm_of u)).states
  equate-steps t u a b =
      by (pairs_of (under (meaning s) (tm_of t)) (under (meaning s) (tm_of u))) refl
      (pairs-both (Found s) (Found s) (under (meaning s) (tm_of t)) (under (meaning s) (tm_of u)) (read-found s solved bindings (tm_of t) a) (read-found s solved bindings (tm_of u) b))
    where
      by : (ps : List Pair) → pairs_of (under (meaning s) (tm_of t)) (under (meaning s) (tm_of u)) ≡ ps → Each (Both (Found s) (Found s)) ps → EachState (Step p f v s (task.Equate t u)) (equate_pairs sat s ps).states
      by [] e g = (
        record {
          onto = record { more = as-many (length s.made); kinded = (λ z k. k); firm = (λ z k. k) };
          covers = refl;
          cases = refl;
          grows = grows-same s.literals;
          tasks = [];
          work = refl;
          tasks_fine = tt;
          more_lines = [];
          lines = sym (append-nil s.lines);
          lines_fine = tt;
          no_case = tt;
          ends = λ l i. equal-read l (tm_of t) (tm_of u) (subst (Each (PairEqual (meaning f))) (sym e) tt);
          move = λ l n i j. rests refl;
        },
        tt,
      )
      by (o ∷ ps) e g =
          each_weaker (Joins (before (equations_of ps) s) (tm_of o.left) (tm_of o.right)) (Step p f v s (task.Equate t u)) (equated sat (before (equations_of ps) s) (tm_of o.left) (tm_of o.right)).states
          (joined-step t u o ps e)
          (terms-join (before (equations_of ps) s) solved bindings h (tm_of o.left) (tm_of o.right) g.0.0 g.0.1 g.0.2)

  -- ---- a cover

  module _ (a : Atom) (k : ℕ) (c : Covers p a k) (firm : ArgsFirm s a.args) where
    first : ℕ
    first = length s.made

    -- the variables of the head by the one values, the others by the other
    parted : Sub → Sub → Sub
    parted w u x = if nat_lt x (length s.made) then u x else (if nat_lt x (length s.made + vars_of_clause p k) then w (x - length s.made) else u x)

    parted-outside : (w u : Sub) (x : ℕ) → Outside p f v (length s.made) (vars_of_clause p k) x → parted w u x ≡ u x
    unfolding parted
    parted-outside w u x o = by (nat_lt x (length s.made)) refl (nat_lt x (length s.made + vars_of_clause p k)) refl o
      where
        by : (b : Bool) → nat_lt x (length s.made) ≡ b → (c : Bool) → nat_lt x (length s.made + vars_of_clause p k) ≡ c → Outside p f v (length s.made) (vars_of_clause p k) x
            → (if b then u x else (if c then w (x - length s.made) else u x)) ≡ u x
        by true e c g o = refl
        by false e true g (inl l) = absurd (true≢false (sym (lt-ltb x (length s.made) l) ∙ e))
        by false e true g (inr l) = let m : x < length s.made + vars_of_clause p k = ltb-true x (length s.made + vars_of_clause p k) g in absurd (omega (arith, l, m))
        by false e false g o = refl

    parted-inside : (w u : Sub) (x : ℕ) → x < vars_of_clause p k → parted w u (x + length s.made) ≡ w x
    unfolding parted
    parted-inside w u x l = by (nat_lt (x + length s.made) (length s.made)) refl (nat_lt (x + length s.made) (length s.made + vars_of_clause p k)) refl
      where
        by : (b : Bool) → nat_lt (x + length s.made) (length s.made) ≡ b → (c : Bool) → nat_lt (x + length s.made) (length s.made + vars_of_clause p k) ≡ c
            → (if b then u (x + length s.made) else (if c then w ((x + length s.made) - length s.made) else u (x + length s.made))) ≡ w x
        by true e c g = let m : x + length s.made < length s.made = ltb-true (x + length s.made) (length s.made) e in absurd (omega (arith, m))
        by false e true g = let same : (x + length s.made) - length s.made ≡ x = omega arith in ap w same
        by false e false g = absurd (true≢false (sym (lt-ltb (x + length s.made) (length s.made + vars_of_clause p k) (omega (arith, l))) ∙ g))

    missed : Miss p f v s.bound k (length s.made) (pairs a.args (head_args p k (length s.made))) → Misses p f v k (atom_under (reading f v) a)
    missed m u met w e =
        m read met (parted w read.of) agrees
        (args-pairs (parted w read.of) a.args (head_args p k (length s.made)) (below ∙ sym (all_under-all_under u.of (reading f v) a.args) ∙ e ∙ sym head))
      where
        read : Valuation
        read = record { of = λ x. under u.of (reading f v x); ground = λ x. is_ground-under u (reading f v x) }

        agrees : (x : ℕ) → Outside p f v (length s.made) (vars_of_clause p k) x ⊎ (is_bound_in s.bound x ≡ true) → parted w read.of x ≡ read.of x
        agrees x (inl o) = parted-outside w read.of x o
        agrees x (inr o) = by (nat_lt x (length s.made)) refl
          where
            by : (b : Bool) → nat_lt x (length s.made) ≡ b → parted w read.of x ≡ read.of x
            by true g = parted-outside w read.of x (inl (ltb-true x (length s.made) g))
            by false g = absurd (true≢false (sym o ∙ above-unbound (length s.made) s.bound solved x (ltb-false x (length s.made) g)))

        below : all_under (parted w read.of) a.args ≡ all_under read.of a.args
        below = all-agree (parted w read.of) read.of a.args (all-weaker (Firm s) (λ x. parted w read.of x ≡ read.of x) (λ x g. parted-outside w read.of x (inl g.0)) a.args firm)

        head : all_under (parted w read.of) (head_args p k (length s.made)) ≡ all_under w (args_in (numbered p.clauses k))
        head =
            all_under-all_under (parted w read.of) (raised (length s.made)) (args_in (numbered p.clauses k))
            ∙ all-agree (λ x. under (parted w read.of) (raised (length s.made) x)) w (args_in (numbered p.clauses k))
            (all-weaker (λ x. x < vars_of_clause p k) (λ x. under (parted w read.of) (raised (length s.made) x) ≡ w x) (λ x l. parted-inside w read.of x l) (args_in (numbered p.clauses k)) (head-below p k))

    pub cover-step : Step p f v s (task.Cover a k) (covered p s a k)
    cover-step = record {
      onto = record { more = o.more; kinded = o.kinded; firm = o.firm };
      covers = refl;
      cases = refl;
      grows = grows-same s.literals;
      tasks = task.Differ (pairs a.args (head_args p k (length s.made))) (aims.Head k (length s.made)) ∷ [];
      work = refl;
      tasks_fine = (tt, tt);
      more_lines = line.Rule a k (length s.made) ∷ [];
      lines = refl;
      lines_fine = ((tt, tt), tt);
      no_case = (refl, tt);
      ends = λ l i. tt;
      move = λ l n ahead i. takes_rule (record {
        atom = atom_under (reading f v) a;
        rule = k;
        first = length s.made;
        bound = s.bound;
        pairs = pairs a.args (head_args p k (length s.made));
        behind = ws;
        wants = refl;
        same = λ e. read-args (head_args p k (length s.made)) a.args (sym (args-equal (meaning f) a.args (head_args p k (length s.made)) (c.many (length s.made)) e));
        missed = missed;
        next = λ j. record {
          lines = view-lines p f v s (line.Rule a k (length s.made)) j;
          literals = literals_read (reading f v) (reverse s.literals);
          cases = map case_read s.covers;
          wants = want_match s.bound (pairs a.args (head_args p k (length s.made))) k (length s.made) ∷ ws;
        };
      });
    }
      where
        o : Onto s (with_new s Matched 0 (vars_of_clause p k))
        o = new-onto s Matched 0 (vars_of_clause p k)

        read-args : (ts us : Tms) → all_under (meaning f) ts ≡ all_under (meaning f) us → all_under (reading f v) ts ≡ all_under (reading f v) us
        read-args ts us e = sym (all_under-all_under v (meaning f) ts) ∙ ap (all_under v) e ∙ all_under-all_under v (meaning f) us
