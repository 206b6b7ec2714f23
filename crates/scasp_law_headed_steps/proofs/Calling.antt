-- Calls of literals, their ends, and covers.
use Rattle.std.specs.List.{list_all}
use Rattle.std.specs.Prelude.{Bool, List, None, Option, Some, [], false, filter, if◌then◌else◌, length, map, not, true, ℕ, ◌&&◌, ◌++◌, ◌+◌, ◌∷◌, ◌≡◌}
use Rattle.std.proofs.Common.{arith, inr, refl, subst, sym}
use Rattle.std.proofs.lemmas.List.{append-nil}
use Rattle.std.proofs.lemmas.List.Elements.{Contains-push}
use Rattle.scasp_hint.specs.Satisfying.{sat}
use Rattle.scasp_law_first_event.proofs.Bindings.{Solved}
use Rattle.scasp_law_first_event.proofs.Calls.{at-number-each, each-of}
use Rattle.scasp_law_first_event.proofs.EachStates.{each_followed}
use Rattle.scasp_law_first_event.proofs.Firming.{Makes, new-makes, new-onto}
use Rattle.scasp_law_first_event.proofs.Firmness.{ArgsFirm, BindingFirm, Firm, FirmIn, LiteralFirm, Onto, TermFirm, kinded-firm}
use Rattle.scasp_law_first_event.proofs.Moves.{new-length}
use Rattle.scasp_law_first_event.proofs.Raising.{Each-mapped}
use Rattle.scasp_law_no_circle.proofs.Tasks.{NoRow}
use Rattle.scasp_law_sorted.proofs.Evenness.{even-new}
use Rattle.scasp_list.proofs.EachLemmas.{Each-append, Each-filter, Each-map}
use Rattle.scasp_list.specs.Each.{Each}
use Rattle.scasp_search_rules.specs.Successors.Assumptions.{assume_all}
use Rattle.scasp_search_rules.specs.Successors.Calls.{ancestors, at_number, by_no_rule, by_rule, call, can_be_seen, covered, differing, entered, finished, head_args, is_free, is_opposite, judged, leave_literal, left, looped, looping, marked, moved, nearest, opposites, unrepeated, vars_of_clause}
use Rattle.scasp_search_rules.specs.Successors.Equations.{equations_of}
use Rattle.scasp_search_rules.specs.Successors.Falls.{EachState}
use Rattle.scasp_search_rules.specs.Successors.Items.{body_of, with_line}
use Rattle.scasp_search_rules.specs.Successors.Pairs.{pairs}
use Rattle.scasp_search_rules.specs.Successors.Regions.{equation}
use Rattle.scasp_search_rules.specs.Successors.Steps.{gives}
use Rattle.scasp_search_rules.specs.Successors.Variables.{with_new}
use Rattle.scasp_search_rules.specs.declared.states.lines.Line.{Line}
use Rattle.scasp_search_rules.specs.declared.states.lines.Line.TheVariants as line
use Rattle.scasp_search_rules.specs.declared.states.outcomes.Repeated.{Repeated}
use Rattle.scasp_search_rules.specs.declared.states.state.Kind.TheVariants.{Existential, Matched}
use Rattle.scasp_search_rules.specs.declared.states.state.Literal.{Literal}
use Rattle.scasp_search_rules.specs.declared.states.state.State.{State}
use Rattle.scasp_search_rules.specs.declared.states.tasks.Aim.TheVariants as aims
use Rattle.scasp_search_rules.specs.declared.states.tasks.Task.{Task}
use Rattle.scasp_search_rules.specs.declared.states.tasks.Task.TheVariants as task
use Rattle.scasp_syntax.specs.Constraints.{Meets}
use Rattle.scasp_syntax.specs.Programs.{pred_of, rules_of}
use Rattle.scasp_syntax.specs.Tm.{Tms, cons, items, nil}
use Rattle.scasp_syntax.specs.Values.{Valuation}
use Rattle.scasp_syntax.specs.declared.atom.Atom.{Atom}
use Rattle.scasp_syntax.specs.declared.atom.Lit.{Lit}
use Rattle.scasp_syntax.specs.declared.clause.FlatItem.TheVariants as flat
use Rattle.scasp_syntax.specs.declared.con.Con.{Con}
use Rattle.scasp_syntax.specs.declared.program.Program.{Program}
use Rattle.scasp_unify.proofs.SimpleLemmas.{viewed}
use Rattle.scasp_unify.specs.Negations.{new_parts}
use Rattle.scasp_unify.specs.SimpleForm.{list_term}
use Rattle.scasp_law_headed_steps.proofs.Assuming.{Kept, KeptAt, assume-each}
use Rattle.scasp_law_headed_steps.proofs.Bodies.{ItemOf, SidesOf, body-sides}
use Rattle.scasp_law_headed_steps.proofs.Forms.{ConAll, all-con-weaker}
use Rattle.scasp_law_headed_steps.proofs.Heads.{Covers, headed-covers, pairs-right}
use Rattle.scasp_law_headed_steps.proofs.Joining.{args-equal}
use Rattle.scasp_law_headed_steps.proofs.Tasks.{Moves, Named, TaskFits, Tells, equations-fit, settles}
use Rattle.scasp_law_headed_steps.specs.Calm.{holds_of, left_by, left_of}
use Rattle.scasp_law_headed_steps.specs.Headed.{is_headed}

-- literals with marks stay named
at-named : (n : ℕ) (f : Literal → Literal) → ((a : Literal) → Named a → Named (f a)) → (xs : List Literal) → Each Named xs → Each Named (at_number n f xs)
at-named n f k xs h = at-number-each Named n f k xs h

module _ (p : Program) (s : State) (t : Task) (empty : left_by t ≡ []) (gs : List Con) (kept : KeptAt s.made s.bound (s.given ++ gs) s.covers) where
  abbrev u : State
  u = record s { given = s.given ++ gs }

  none-left : (v : Valuation) → Meets v.of (left_by t)
  none-left v = subst (λ (ds : List Con). Meets v.of ds) (sym empty) refl

  -- with a line of which nothing is said, and other literals
  told-moves : (l : Line) → ((cs : List Con) → Tells cs l) → (xs : List Literal) → (Each Named s.literals → Each Named xs) → (ts : List Task) → Each (TaskFits p s.made s.bound (s.lines ++ l ∷ [])) ts
      → Moves p s t (record s { given = s.given ++ gs; literals = xs; lines = s.lines ++ l ∷ []; work = ts ++ s.work })
  told-moves l f xs named ts fit =
      settles p s t gs (s.given ++ gs) refl kept xs named (l ∷ []) (s.lines ++ l ∷ []) refl ts (ts ++ s.work) refl fit (λ v m. none-left v)
      (f ((map equation s.bound ++ (s.given ++ gs)) ++ left_of ts), tt)

  -- ---- a literal that is gone into

  rule-moves : (l : Lit) → (k : ℕ) → Moves p s t (by_rule p (record s { given = s.given ++ gs }) l k)
  rule-moves l k = record {
    onto = record { more = o.more; kinded = o.kinded; firm = o.firm };
    more_bound = [];
    bound = sym (append-nil s.bound);
    more_given = gs;
    given = refl;
    kept = record {
      even = even-new u Existential (length s.covers) (vars_of_clause p k) refl kept.even;
      triangular = kept.triangular;
      met = kept.met;
      firm = Each-map (ConAll (Firm s)) (ConAll (Firm fresh)) (λ c a. all-con-weaker (Firm s) (Firm fresh) o.firm c a) (s.given ++ gs) kept.firm;
    };
    covers = refl;
    named = λ h. Each-append Named s.literals _ h (refl, tt);
    tasks = (equations_of (pairs l.atom.args (head_args p k n)) ++ map task.Show (body_of p k n)) ++ task.Leave ∷ [];
    work = refl;
    fit =
        Each-append (TaskFits p fresh.made s.bound (s.lines ++ told ∷ [])) (equations_of (pairs l.atom.args (head_args p k n)) ++ map task.Show (body_of p k n)) (task.Leave ∷ [])
        (Each-append (TaskFits p fresh.made s.bound (s.lines ++ told ∷ [])) (equations_of (pairs l.atom.args (head_args p k n))) (map task.Show (body_of p k n)) (equations-fit p fresh.made s.bound (s.lines ++ told ∷ []) (pairs l.atom.args (head_args p k n)))
        (Each-mapped (TaskFits p fresh.made s.bound (s.lines ++ told ∷ [])) task.Show (body_of p k n)
        (Each-map (SidesOf (FirmIn fresh.made s.bound)) (ItemOf (FirmIn fresh.made s.bound)) (λ i a. a.0) (body_of p k n) (body-sides (FirmIn fresh.made s.bound) p k n (λ z a b. kinded-firm fresh z (new.fresh z a (omega (arith, b, long))))))))
        (tt, tt);
    shows = λ v m. none-left v;
    more_lines = told ∷ [];
    lines = refl;
    told = (tt, tt);
  }
    where
      n : ℕ
      n = length s.made

      told : Line
      told = line.Pos l.atom k (new_parts n (vars_of_clause p k)) (length (body_of p k n))

      fresh : State
      fresh = with_new u Existential (length s.covers) (vars_of_clause p k)

      new : Makes u (with_new u Existential (length s.covers) (vars_of_clause p k))
      new = new-makes u Existential (length s.covers) (vars_of_clause p k) refl

      o : Onto u (with_new u Existential (length s.covers) (vars_of_clause p k))
      o = new-onto u Existential (length s.covers) (vars_of_clause p k)

      long : length (with_new u Existential (length s.covers) (vars_of_clause p k)).made ≡ length s.made + vars_of_clause p k
      long = new-length u Existential (length s.covers) (vars_of_clause p k)

  covers-fit : (ls : List Line) (a : Atom) (ks : List ℕ) → Each (Covers p a) ks → Each (TaskFits p s.made s.bound ls) (map (task.Cover a) ks)
  covers-fit ls a [] c = tt
  covers-fit ls a (k ∷ ks) c = (c.0, covers-fit ls a ks c.1)

  no-rule-moves : (l : Lit) → Each (Covers p l.atom) (rules_of p (pred_of l.atom)) → Moves p s t (by_no_rule p (record s { given = s.given ++ gs }) l)
  no-rule-moves l c =
      told-moves (line.Neg l.atom (length (rules_of p (pred_of l.atom)))) (λ cs. tt) _ (λ h. Each-append Named s.literals _ h (refl, tt)) (map (task.Cover l.atom) (rules_of p (pred_of l.atom)) ++ task.Leave ∷ [])
      (Each-append (TaskFits p s.made s.bound (s.lines ++ line.Neg l.atom (length (rules_of p (pred_of l.atom))) ∷ [])) (map (task.Cover l.atom) (rules_of p (pred_of l.atom))) (task.Leave ∷ []) (covers-fit (s.lines ++ line.Neg l.atom (length (rules_of p (pred_of l.atom))) ∷ []) l.atom (rules_of p (pred_of l.atom)) c) (tt, tt))

  entered-moves : (l : Lit) → Each (Covers p l.atom) (rules_of p (pred_of l.atom)) → EachState (Moves p s t) (entered p (record s { given = s.given ++ gs }) l)
  entered-moves l c = by l.positive
    where
      by : (b : Bool) → EachState (Moves p s t) (if b then map (by_rule p (record s { given = s.given ++ gs }) l) (rules_of p (pred_of l.atom)) else by_no_rule p (record s { given = s.given ++ gs }) l ∷ [])
      by true = each-of (Moves p s t) (by_rule p (record s { given = s.given ++ gs }) l) (rule-moves l) (rules_of p (pred_of l.atom))
      by false = (no-rule-moves l c, tt)

-- ---- calls

module _ (p : Program) (headed : list_all is_headed p.clauses ≡ true) (s : State) (solved : Solved (length s.made) s.bound) (bindings : Each (BindingFirm s) s.bound) (literals : Each (LiteralFirm s) s.literals) (h : Kept s) where
  -- the line tells nothing of a test, and marks are put on literals
  marked-moves : (t : Task) → left_by t ≡ [] → (l : Line) → ((cs : List Con) → Tells cs l) → (xs : List Literal) → (Each Named s.literals → Each Named xs) → Moves p s t (record s { literals = xs; lines = s.lines ++ l ∷ [] })
  marked-moves t e l f xs named =
      settles p s t [] s.given (sym (append-nil s.given)) h xs named (l ∷ []) (s.lines ++ l ∷ []) refl [] s.work refl tt (λ v m. subst (λ (cs : List Con). Meets v.of cs) (sym e) refl) (f (holds_of s ++ []), tt)

  module _ (l : Lit) (firm : ArgsFirm s l.atom.args) where
    looped-moves : (r : Repeated) → EachState (Moves p s (task.Show (flat.Call l))) (looped s l r)
    looped-moves r = by (not l.positive) r.is_behind_negation
      where
        loops : (xs : List Literal) → Moves p s (task.Show (flat.Call l)) (marked xs (with_line s (line.Loop l r.number)))
        loops [] = marked-moves (task.Show (flat.Call l)) refl (line.Loop l r.number) (λ cs. tt) s.literals (λ k. k)
        loops (a ∷ xs) = marked-moves (task.Show (flat.Call l)) refl (line.Loop l r.number) (λ cs. tt) (at_number a.number looping s.literals) (at-named a.number looping (λ b k. k) s.literals)

        by : (a b : Bool) → EachState (Moves p s (task.Show (flat.Call l))) (if a then with_line s (line.Loop l r.number) ∷ [] else (if b then marked (ancestors s) (with_line s (line.Loop l r.number)) ∷ [] else []))
        by true b = (loops [], tt)
        by false true = (loops (ancestors s), tt)
        by false false = tt

    -- that it differs from a literal of the other sign
    list-firm : (ts : Tms) → ArgsFirm s ts → TermFirm s (list_term (items ts))
    list-firm nil a = tt
    list-firm (cons t ts) a = (a.0, (list-firm ts a.1, tt))

    differing-firm : (a : Literal) → LiteralFirm s a → ConAll (Firm s) (differing l a)
    differing-firm a k = (
      subst (TermFirm s) (sym (viewed (list_term (items l.atom.args)))) (list-firm l.atom.args firm),
      subst (TermFirm s) (sym (viewed (list_term (items a.lit.atom.args)))) (list-firm a.lit.atom.args k),
    )

    opposites-firm : Each (LiteralFirm s) (opposites s l)
    opposites-firm = by (is_free s l)
      where
        by : (b : Bool) → Each (LiteralFirm s) (if b then filter (is_opposite s l) s.literals else [])
        by true = Each-filter (LiteralFirm s) (is_opposite s l) s.literals literals
        by false = tt

    no-rows : (xs : List Literal) → Each NoRow (map (differing l) xs)
    no-rows [] = tt
    no-rows (a ∷ xs) = (tt, no-rows xs)

    fresh-moves : (xs : List Literal) → EachState (Moves p s (task.Show (flat.Call l))) (unrepeated p sat s l xs).states
    fresh-moves [] =
        each_followed (λ r. EachState (Moves p s (task.Show (flat.Call l))) (entered p r l)) (Moves p s (task.Show (flat.Call l))) (λ r. gives (entered p r l)) (assume_all sat (map (differing l) (opposites s l)) s).states
        (assume-each (map (differing l) (opposites s l)) (no-rows (opposites s l)) s solved bindings h
        (Each-mapped (ConAll (Firm s)) (differing l) (opposites s l) (Each-map (LiteralFirm s) (λ a. ConAll (Firm s) (differing l a)) differing-firm (opposites s l) opposites-firm))
        (λ r. EachState (Moves p s (task.Show (flat.Call l))) (entered p r l)) (λ gs kept e. entered-moves p s (task.Show (flat.Call l)) refl gs kept l (headed-covers p l.atom headed))) (λ r k. k)
    fresh-moves (a ∷ xs) = (marked-moves (task.Show (flat.Call l)) refl (line.Seen l a.number) (λ cs. tt) s.literals (λ k. k), tt)

    pub call-moves : EachState (Moves p s (task.Show (flat.Call l))) (call p sat s l).states
    call-moves = by (nearest s l false (ancestors s))
      where
        by : (o : Option Repeated) → EachState (Moves p s (task.Show (flat.Call l))) (judged p sat s l o).states
        by (Some r) = looped-moves r
        by None = fresh-moves (filter (can_be_seen s l) s.literals)

  -- ---- the end of a literal

  named-moves : (xs : List Literal) → (Each Named s.literals → Each Named xs) → Moves p s task.Leave (record s { literals = xs })
  named-moves xs named = settles p s task.Leave [] s.given (sym (append-nil s.given)) h xs named [] s.lines (sym (append-nil s.lines)) [] s.work refl tt (λ v m. refl) tt

  moved-moves : (a : Literal) (bs xs : List Literal) → (Each Named s.literals → Each Named xs) → Moves p s task.Leave (moved a bs (record s { literals = xs }))
  moved-moves a [] xs named = named-moves xs named
  moved-moves a (b ∷ bs) xs named = by (a.loops && a.lit.positive && b.lit.positive)
    where
      by : (c : Bool) → Moves p s task.Leave (if c then marked (b ∷ bs) (record s { literals = xs }) else record s { literals = xs })
      by true = named-moves (at_number b.number looping xs) (λ k. at-named b.number looping (λ c m. m) xs (named k))
      by false = named-moves xs named

  left-moves : (as_open : List Literal) → Moves p s task.Leave (left as_open s)
  left-moves [] = named-moves s.literals (λ k. k)
  left-moves (a ∷ rest) = moved-moves a rest (at_number a.number finished s.literals) (at-named a.number finished (λ b k. k) s.literals)

  pub leave-moves : Moves p s task.Leave (leave_literal s)
  leave-moves = left-moves (ancestors s)

  -- ---- a cover

  pub cover-moves : (a : Atom) (k : ℕ) → Covers p a k → Moves p s (task.Cover a k) (covered p s a k)
  cover-moves a k c = record {
    onto = record { more = o.more; kinded = o.kinded; firm = o.firm };
    more_bound = [];
    bound = sym (append-nil s.bound);
    more_given = [];
    given = sym (append-nil s.given);
    kept = record {
      even = even-new s Matched 0 (vars_of_clause p k) refl h.even;
      triangular = h.triangular;
      met = h.met;
      firm = Each-map (ConAll (Firm s)) (ConAll (Firm fresh)) (λ d b. all-con-weaker (Firm s) (Firm fresh) o.firm d b) s.given h.firm;
    };
    covers = refl;
    named = λ m. m;
    tasks = task.Differ (pairs a.args (head_args p k (length s.made))) (aims.Head k (length s.made)) ∷ [];
    work = refl;
    fit = (
      (
        (λ z l m. inr (pairs-right a.args (head_args p k (length s.made)) z (c.many (length s.made)) (c.all (length s.made) z l m))),
        record {
          atom = a;
          told = Contains-push s.lines (line.Rule a k (length s.made));
          reads = λ v e f. sym (args-equal v a.args (head_args p k (length s.made)) (c.many (length s.made)) f);
        },
      ),
      tt,
    );
    shows = λ v m. refl;
    more_lines = line.Rule a k (length s.made) ∷ [];
    lines = refl;
    told = (tt, tt);
  }
    where
      fresh : State
      fresh = with_new s Matched 0 (vars_of_clause p k)

      o : Onto s (with_new s Matched 0 (vars_of_clause p k))
      o = new-onto s Matched 0 (vars_of_clause p k)
