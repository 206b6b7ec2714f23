-- Calls, covers and cases: no variable is bound to a term in which it stands, but by the other side of a split.
use Rattle.std.specs.Prelude.{◌≡◌, ℕ, zero, suc, ◌+◌, ◌<◌, ◌≤◌, Bool, true, false, ◌&&◌, not, if◌then◌else◌, Option, Some, None, List, [], ◌∷◌, ◌++◌, length, map, filter}
use Rattle.std.proofs.Common.{refl, arith, sym, subst}
use Rattle.scasp_list.specs.Each.{Each}
use Rattle.scasp_list.proofs.EachLemmas.{Each-map, Each-append, Each-filter}
use Rattle.scasp_search_rules.specs.declared.states.covers.Cover.{Cover}
use Rattle.scasp_search_rules.specs.declared.states.lines.Line.{Line}
use Rattle.scasp_search_rules.specs.declared.states.lines.Line.TheVariants as line
use Rattle.scasp_search_rules.specs.declared.states.outcomes.Repeated.{Repeated}
use Rattle.scasp_search_rules.specs.declared.states.state.Kind.TheVariants.{Existential, Matched}
use Rattle.scasp_search_rules.specs.declared.states.state.Literal.{Literal}
use Rattle.scasp_search_rules.specs.declared.states.state.State.{State}
use Rattle.scasp_search_rules.specs.declared.states.tasks.Task.{Task}
use Rattle.scasp_search_rules.specs.declared.states.tasks.Task.TheVariants as task
use Rattle.scasp_search_rules.specs.Successors.Assumptions.{assume_all}
use Rattle.scasp_search_rules.specs.Successors.Calls.{call, judged, looped, unrepeated, entered, by_rule, by_no_rule, opposites, is_opposite, is_free, differing, nearest, ancestors, can_be_seen, at_number, looping, marked, moved, left, finished, vars_of_clause, head_args, covered}
use Rattle.scasp_search_rules.specs.Successors.Cases.{failing_at, with_items, leaf_at, head_call, with_head, cases_where, cases_of}
use Rattle.scasp_search_rules.specs.Successors.Equations.{equations}
use Rattle.scasp_search_rules.specs.Successors.Falls.{EachState}
use Rattle.scasp_search_rules.specs.Successors.Items.{body_of, with_line}
use Rattle.scasp_search_rules.specs.Successors.Reading.{count_from}
use Rattle.scasp_search_rules.specs.Successors.Regions.{before, context, asked_with}
use Rattle.scasp_search_rules.specs.Successors.Steps.{gives}
use Rattle.scasp_search_rules.specs.Successors.Variables.{with_new}
use Rattle.scasp_syntax.specs.Programs.{numbered, rules_of, pred_of}
use Rattle.scasp_syntax.specs.Tm.{Tms, nil, cons, items}
use Rattle.scasp_syntax.specs.declared.atom.Atom.{Atom}
use Rattle.scasp_syntax.specs.declared.atom.Lit.{Lit}
use Rattle.scasp_syntax.specs.declared.clause.FlatItem.{FlatItem}
use Rattle.scasp_syntax.specs.declared.con.Con.{Con}
use Rattle.scasp_syntax.specs.declared.program.Program.{Program}
use Rattle.scasp_unify.specs.SimpleForm.{list_term}
use Rattle.scasp_unify.proofs.SimpleLemmas.{viewed}
use Rattle.scasp_law_first_event.proofs.Bindings.{Solved}
use Rattle.scasp_law_first_event.proofs.Calls.{at-number-each, each-of}
use Rattle.scasp_law_first_event.proofs.Clearing.{Goes, goes-then, all-assumed-goes, args-equated}
use Rattle.scasp_law_first_event.proofs.EachStates.{each_append, each_followed, each_weaker}
use Rattle.scasp_law_first_event.proofs.Firming.{Makes, Assumes, new-makes, new-onto}
use Rattle.scasp_law_first_event.proofs.Firmness.{Firm, TermFirm, ArgsFirm, AssumedFirm, ItemFirm, LiteralFirm, ClauseFirm, TaskFirm, Clear, Onto, args-onto, bindings-onto, literals-onto, covers-onto, work-onto, kinded-firm}
use Rattle.scasp_law_first_event.proofs.Apart.{pairs-firm}
use Rattle.scasp_law_first_event.proofs.Moves.{new-length}
use Rattle.scasp_law_first_event.proofs.Raising.{BodyEach, Raised, Each-mapped, raised-of}
use Rattle.scasp_law_first_event.proofs.Terms.{all-weaker}

-- ---- literals

list-firm : (s : State) (ts : Tms) → ArgsFirm s ts → TermFirm s (list_term (items ts))
list-firm s nil h = tt
list-firm s (cons t ts) h = (h.0, (list-firm s ts h.1, tt))

differing-firm : (s : State) (l : Lit) (a : Literal) → ArgsFirm s l.atom.args → LiteralFirm s a → AssumedFirm s (differing l a)
differing-firm s l a h k = (
  subst (TermFirm s) (sym (viewed (list_term (items l.atom.args)))) (list-firm s l.atom.args h),
  subst (TermFirm s) (sym (viewed (list_term (items a.lit.atom.args)))) (list-firm s a.lit.atom.args k),
)

module _ (p : Program) (sat : List Con → Bool) where
  module _ (s : State) (h : Clear p s) (w : Each (TaskFirm p s) s.work) where
    pub line-goes : (l : Line) (ts : List Task) → Each (TaskFirm p s) ts → Goes p s (before ts (with_line s l))
    line-goes l ts f =
        record { clear = record { bindings = h.bindings; covers = h.covers; literals = h.literals }; work = Each-append (TaskFirm p s) ts s.work f w; circle = (λ c. c) }

    literals-go : (xs : List Literal) → Each (LiteralFirm s) xs → Goes p s (record s { literals = xs })
    literals-go xs b = record { clear = record { bindings = h.bindings; covers = h.covers; literals = b }; work = w; circle = (λ c. c) }

    marked-goes : (bs : List Literal) (xs : List Literal) → Each (LiteralFirm s) xs → Goes p s (marked bs (record s { literals = xs }))
    marked-goes [] xs b = literals-go xs b
    marked-goes (a ∷ bs) xs b = literals-go (at_number a.number looping xs) (at-number-each (LiteralFirm s) a.number looping (λ c k. k) xs b)

    moved-goes : (a : Literal) (bs : List Literal) (xs : List Literal) → Each (LiteralFirm s) xs → Goes p s (moved a bs (record s { literals = xs }))
    moved-goes a [] xs b = literals-go xs b
    moved-goes a (c ∷ cs) xs b = by (a.loops && a.lit.positive && c.lit.positive)
      where
        by : (d : Bool) → Goes p s (if d then marked (c ∷ cs) (record s { literals = xs }) else record s { literals = xs })
        by true = marked-goes (c ∷ cs) xs b
        by false = literals-go xs b

    pub left-goes : (bs : List Literal) → Goes p s (left bs s)
    left-goes [] = literals-go s.literals h.literals
    left-goes (a ∷ bs) =
        moved-goes a bs (at_number a.number finished s.literals) (at-number-each (LiteralFirm s) a.number finished (λ c k. k) s.literals h.literals)

    -- ---- a literal that is gone into

    rule-goes : (l : Lit) → ArgsFirm s l.atom.args → (k : ℕ) → Goes p s (by_rule p s l k)
    rule-goes l b k = record {
      clear = record {
        bindings = bindings-onto s r o s.bound h.bindings;
        covers = fresh.covers p h.covers;
        literals = Each-append (LiteralFirm r) s.literals _ (literals-onto s r o s.literals h.literals) (args-onto s r o l.atom.args b, tt);
      };
      work =
          Each-append (TaskFirm p r) ((equations l.atom.args (head_args p k n) ++ map task.Show (body_of p k n)) ++ task.Leave ∷ []) s.work
          (Each-append (TaskFirm p r) (equations l.atom.args (head_args p k n) ++ map task.Show (body_of p k n)) (task.Leave ∷ [])
          (Each-append (TaskFirm p r) (equations l.atom.args (head_args p k n)) (map task.Show (body_of p k n))
          (args-equated p r l.atom.args (head_args p k n) (args-onto s r o l.atom.args b) raise.head)
          (Each-mapped (TaskFirm p r) task.Show (body_of p k n) (Each-map (BodyEach (Firm r)) (ItemFirm r) (λ i c. c.0) (body_of p k n) raise.body)))
          (tt, tt)) (work-onto s r o p s.work w);
      circle = (λ c. c);
    }
      where
        n : ℕ
        n = length s.made

        r : State
        r = by_rule p s l k

        fresh : Makes s (with_new s Existential (length s.covers) (vars_of_clause p k))
        fresh = new-makes s Existential (length s.covers) (vars_of_clause p k) refl

        o : Onto s (by_rule p s l k)
        o = record { more = fresh.onto.more; kinded = fresh.onto.kinded; firm = fresh.onto.firm }

        long : length (with_new s Existential (length s.covers) (vars_of_clause p k)).made ≡ length s.made + vars_of_clause p k
        long = new-length s Existential (length s.covers) (vars_of_clause p k)

        raise : Raised (Firm (by_rule p s l k)) (numbered p.clauses k) (length s.made)
        raise = raised-of (Firm (by_rule p s l k)) p k (length s.made) (λ z a c. kinded-firm (by_rule p s l k) z (fresh.fresh z a (omega (arith, c, long))))

    covers-firm : (a : Atom) (ks : List ℕ) → ArgsFirm s a.args → Each (TaskFirm p s) (map (task.Cover a) ks)
    covers-firm a [] b = tt
    covers-firm a (k ∷ ks) b = (b, covers-firm a ks b)

    no-rule-goes : (l : Lit) → ArgsFirm s l.atom.args → Goes p s (by_no_rule p s l)
    no-rule-goes l b = record {
      clear = record { bindings = h.bindings; covers = h.covers; literals = Each-append (LiteralFirm s) s.literals _ h.literals (b, tt) };
      work =
          Each-append (TaskFirm p s) (map (task.Cover l.atom) (rules_of p (pred_of l.atom)) ++ task.Leave ∷ []) s.work
          (Each-append (TaskFirm p s) (map (task.Cover l.atom) (rules_of p (pred_of l.atom))) (task.Leave ∷ []) (covers-firm l.atom (rules_of p (pred_of l.atom)) b) (tt, tt)) w;
      circle = (λ c. c);
    }

    pub entered-goes : (l : Lit) → ArgsFirm s l.atom.args → EachState (Goes p s) (entered p s l)
    entered-goes l b = by l.positive
      where
        by : (c : Bool) → EachState (Goes p s) (if c then map (by_rule p s l) (rules_of p (pred_of l.atom)) else by_no_rule p s l ∷ [])
        by true = each-of (Goes p s) (by_rule p s l) (rule-goes l b) (rules_of p (pred_of l.atom))
        by false = (no-rule-goes l b, tt)

    looped-goes : (l : Lit) (r : Repeated) → EachState (Goes p s) (looped s l r)
    looped-goes l r = by (not l.positive) r.is_behind_negation
      where
        loops : (xs : List Literal) → Goes p s (marked xs (with_line s (line.Loop l r.number)))
        loops [] = line-goes (line.Loop l r.number) [] tt
        loops (a ∷ xs) = record {
          clear = record { bindings = h.bindings; covers = h.covers; literals = at-number-each (LiteralFirm s) a.number looping (λ c k. k) s.literals h.literals };
          work = w;
          circle = (λ c. c);
        }

        by : (a b : Bool) → EachState (Goes p s) (if a then with_line s (line.Loop l r.number) ∷ [] else (if b then marked (ancestors s) (with_line s (line.Loop l r.number)) ∷ [] else []))
        by true b = (line-goes (line.Loop l r.number) [] tt, tt)
        by false true = (loops (ancestors s), tt)
        by false false = tt

    -- ---- calls

    others-firm : (l : Lit) → ArgsFirm s l.atom.args → Each (AssumedFirm s) (map (differing l) (opposites s l))
    others-firm l b =
        Each-mapped (AssumedFirm s) (differing l) (opposites s l)
        (Each-map (LiteralFirm s) (λ a. AssumedFirm s (differing l a)) (λ a k. differing-firm s l a b k) (opposites s l) (by (is_free s l)))
      where
        by : (c : Bool) → Each (LiteralFirm s) (if c then filter (is_opposite s l) s.literals else [])
        by true = Each-filter (LiteralFirm s) (is_opposite s l) s.literals h.literals
        by false = tt

  module _ (s : State) (h : Clear p s) (w : Each (TaskFirm p s) s.work) (solved : Solved (length s.made) s.bound) where
    unrepeated-goes : (l : Lit) → ArgsFirm s l.atom.args → (xs : List Literal) → EachState (Goes p s) (unrepeated p sat s l xs).states
    unrepeated-goes l b [] =
        each_followed (λ t. Goes p s t × Assumes s t) (Goes p s) (λ t. gives (entered p t l)) (assume_all sat (map (differing l) (opposites s l)) s).states
        (all-assumed-goes p sat s h w solved (map (differing l) (opposites s l)) (others-firm s h w l b))
        (λ t k.
        each_weaker (Goes p t) (Goes p s) (entered p t l) (λ r g. goes-then p s t r k.0 g)
        (entered-goes t k.0.clear k.0.work l (args-onto s t k.1.makes.onto l.atom.args b)))
    unrepeated-goes l b (a ∷ xs) = (line-goes s h w (line.Seen l a.number) [] tt, tt)

    pub call-goes : (l : Lit) → ArgsFirm s l.atom.args → EachState (Goes p s) (call p sat s l).states
    call-goes l b = by (nearest s l false (ancestors s))
      where
        by : (o : Option Repeated) → EachState (Goes p s) (judged p sat s l o).states
        by (Some r) = looped-goes s h w l r
        by None = unrepeated-goes l b (filter (can_be_seen s l) s.literals)

  -- ---- covers and cases

  module _ (s : State) (h : Clear p s) (w : Each (TaskFirm p s) s.work) where
    pub cover-goes : (a : Atom) (k : ℕ) → ArgsFirm s a.args → Goes p s (covered p s a k)
    cover-goes a k b = record {
      clear = record {
        bindings = bindings-onto s r o s.bound h.bindings;
        covers = covers-onto s r o p s.covers h.covers;
        literals = literals-onto s r o s.literals h.literals;
      };
      work = (
        (
          pairs-firm r a.args (head_args p k n) (args-onto s r o a.args b)
              (all-weaker (λ y. y < length s.made + vars_of_clause p k) (λ y. y < length (covered p s a k).made) (λ y l. omega (arith, l, room)) (head_args p k n)
              (raised-of (λ y. y < length s.made + vars_of_clause p k) p k n (λ z c d. d)).head),
          room,
        ),
        work-onto s r o p s.work w,
      );
      circle = (λ c. c);
    }
      where
        n : ℕ
        n = length s.made

        r : State
        r = covered p s a k

        before_line : Onto s (with_new s Matched 0 (vars_of_clause p k))
        before_line = new-onto s Matched 0 (vars_of_clause p k)

        o : Onto s (covered p s a k)
        o = record { more = before_line.more; kinded = before_line.kinded; firm = before_line.firm }

        long : length (covered p s a k).made ≡ length s.made + vars_of_clause p k
        long = new-length s Matched 0 (vars_of_clause p k)

        room : length s.made + vars_of_clause p k ≤ length (covered p s a k).made
        room = omega (arith, long)

    items-go : (l : Line) (is : List FlatItem) → Each (ItemFirm s) is → Goes p s (with_items s l is)
    items-go l is b =
        line-goes s h w l (map task.Show is ++ task.Close ∷ [])
        (Each-append (TaskFirm p s) (map task.Show is) (task.Close ∷ []) (Each-mapped (TaskFirm p s) task.Show is b) (tt, tt))

    failing-firm : (k : ℕ) (body : List FlatItem) → Each (BodyEach (Firm s)) body → Each (ItemFirm s) (failing_at k body)
    failing-firm k [] b = tt
    failing-firm zero (i ∷ is) b = (b.0.1, tt)
    failing-firm (suc k) (i ∷ is) b = (b.0.0, failing-firm k is b.1)

    head-goes : (body is : List FlatItem) → Each (ItemFirm s) body → Each (ItemFirm s) is → EachState (Goes p s) (with_head s body is)
    head-goes body [] b c = tt
    head-goes body (i ∷ is) b c = (items-go (line.Head (suc (length body))) (body ++ i ∷ []) (Each-append (ItemFirm s) body (i ∷ []) b (c.0, tt)), tt)

    pub cases-go : (c : Cover) → ClauseFirm p s c.clause c.first → EachState (Goes p s) (cases_of p sat s c).states
    cases-go c f = by (sat (asked_with s (context s)))
      where
        body : List FlatItem
        body = body_of p c.clause c.first

        r : Raised (Firm s) (numbered p.clauses c.clause) c.first
        r = raised-of (Firm s) p c.clause c.first f

        ahead : (b : Bool) → EachState (Goes p s) (if b then with_head s (body_of p c.clause c.first) (head_call (numbered p.clauses c.clause) c.first) else [])
        ahead true =
            head-goes (body_of p c.clause c.first) (head_call (numbered p.clauses c.clause) c.first)
            (Each-map (BodyEach (Firm s)) (ItemFirm s) (λ i b. b.0) (body_of p c.clause c.first) r.body) r.call_of
        ahead false = tt

        by : (b : Bool) → EachState (Goes p s) (cases_where b p s c)
        by true =
            each_append (Goes p s) (map (leaf_at s (body_of p c.clause c.first)) (count_from 0 (length (body_of p c.clause c.first)))) _
            (each-of (Goes p s) (leaf_at s (body_of p c.clause c.first)) (λ k. items-go (line.Leaf (suc k)) (failing_at k (body_of p c.clause c.first)) (failing-firm k (body_of p c.clause c.first) r.body)) (count_from 0 (length (body_of p c.clause c.first))))
            (ahead c.checks_head)
        by false = (line-goes s h w line.Void (task.Close ∷ []) (tt, tt), tt)
