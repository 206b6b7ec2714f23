-- Calls, covers and cases keep what is held, but where a variable is bound to a term in which it stands; and so each step does.
use Rattle.std.specs.Prelude.{◌≡◌, ◌⊎◌, ℕ, zero, suc, ◌+◌, ◌<◌, ◌≤◌, nat_eq, Bool, true, false, ◌&&◌, ◌||◌, not, if◌then◌else◌, Option, Some, None, List, [], ◌∷◌, ◌++◌, length, map, filter}
use Rattle.std.proofs.Common.{refl, arith, ap, sym, subst, ◌∙◌, inl, inr}
use Rattle.std.proofs.lemmas.List.{append-nil}
use Rattle.scasp_list.specs.Each.{Each}
use Rattle.scasp_list.proofs.EachLemmas.{Each-map, Each-append, Each-filter}
use Rattle.scasp_search_rules.specs.declared.states.covers.Cover.{Cover}
use Rattle.scasp_search_rules.specs.declared.states.covers.Remainder.{Remainder}
use Rattle.scasp_search_rules.specs.declared.states.lines.Line.{Line}
use Rattle.scasp_search_rules.specs.declared.states.lines.Line.TheVariants as line
use Rattle.scasp_search_rules.specs.declared.states.outcomes.Repeated.{Repeated}
use Rattle.scasp_search_rules.specs.declared.states.state.Kind.TheVariants.{Existential, Matched}
use Rattle.scasp_search_rules.specs.declared.states.state.Literal.{Literal}
use Rattle.scasp_search_rules.specs.declared.states.state.State.{State}
use Rattle.scasp_search_rules.specs.declared.states.tasks.Aim.{Aim}
use Rattle.scasp_search_rules.specs.declared.states.tasks.Aim.TheVariants as aims
use Rattle.scasp_search_rules.specs.declared.states.tasks.Pair.{Pair}
use Rattle.scasp_search_rules.specs.declared.states.tasks.Task.{Task}
use Rattle.scasp_search_rules.specs.declared.states.tasks.Task.TheVariants as task
use Rattle.scasp_search_rules.specs.Successors.Assumptions.{assume_all}
use Rattle.scasp_search_rules.specs.Successors.Calls.{call, judged, looped, unrepeated, entered, by_rule, by_no_rule, opposites, is_opposite, is_free, differing, nearest, ancestors, can_be_seen, at_number, looping, marked, moved, left, finished, vars_of_clause, head_args, covered}
use Rattle.scasp_search_rules.specs.Successors.Cases.{failing_at, with_items, leaf_at, head_call, with_head, cases_where, cases_of, cover_for, with_cover, unbound_of, begin_cases, check_clause, kept_literal, ended_case, replaced_now, remaining, taken_up, after_case, close_case}
use Rattle.scasp_search_rules.specs.Successors.Equations.{equations}
use Rattle.scasp_search_rules.specs.Successors.Falls.{EachState}
use Rattle.scasp_search_rules.specs.Successors.Items.{opposite_item, body_of, with_line}
use Rattle.scasp_search_rules.specs.Successors.Pairs.{pairs}
use Rattle.scasp_search_rules.specs.Successors.Reading.{among, count_from}
use Rattle.scasp_search_rules.specs.Successors.Regions.{before, context, asked_with}
use Rattle.scasp_search_rules.specs.Successors.Search.{done, step, step_at}
use Rattle.scasp_search_rules.specs.Successors.Steps.{gives}
use Rattle.scasp_search_rules.specs.Successors.Variables.{meaning, next_variable, with_new}
use Rattle.scasp_syntax.specs.Programs.{numbered, rules_of, pred_of}
use Rattle.scasp_syntax.specs.Tm.{Tms, app, nil, cons, items}
use Rattle.scasp_syntax.specs.Values.{under}
use Rattle.scasp_syntax.specs.View.{tm_of}
use Rattle.scasp_syntax.specs.declared.atom.Atom.{Atom}
use Rattle.scasp_syntax.specs.declared.atom.Lit.{Lit}
use Rattle.scasp_syntax.specs.declared.clause.FlatItem.{FlatItem}
use Rattle.scasp_syntax.specs.declared.clause.FlatItem.TheVariants as flat
use Rattle.scasp_syntax.specs.declared.con.Con.{Con}
use Rattle.scasp_syntax.specs.declared.program.Program.{Program}
use Rattle.scasp_syntax.specs.declared.term.Term.{Term}
use Rattle.scasp_syntax.specs.declared.term.Term.TheVariants.{Var, Num, App}
use Rattle.scasp_unify.specs.SimpleForm.{list_term}
use Rattle.scasp_unify.specs.declared.bindings.Binding.{Binding}
use Rattle.scasp_unify.proofs.SimpleLemmas.{viewed}
use Rattle.scasp_law_first_event.specs.Events.{IsCircular}
use Rattle.scasp_law_first_event.proofs.Bindings.{Solved, read-free}
use Rattle.scasp_law_first_event.proofs.EachStates.{each_append, each_followed}
use Rattle.scasp_law_first_event.proofs.Fitting.{TermBelow, ArgsBelow, ConBelow, ItemBelow, EquationBelow, LiteralBelow, ClauseBelow, CoverBelow, Later, Front, later, becomes, args-more, item-more, all-later-more, equations-later, pairs-below}
use Rattle.scasp_law_first_event.proofs.Loose.{universals-length}
use Rattle.scasp_law_first_event.proofs.Keeping.{Held, Orderly, Keep, solved-more, solved-filter, literals-more, keep-itself, keep-bound, keep-all-assumed, read-below}
use Rattle.scasp_law_first_event.proofs.Loads.{all-assumed-same}
use Rattle.scasp_law_first_event.proofs.Moves.{new-length, covers-more}
use Rattle.scasp_law_first_event.proofs.Raising.{BodyEach, Raised, Each-mapped, raised-of}
use Rattle.scasp_law_first_event.proofs.Steps.{Out, each_both, assumed-out, variable-out, value-out, avoid-out, name-out, differ-out, test-out, equate-out}

-- the item, and the one that is true where it is false
abbrev BodyItem : ℕ → FlatItem → Type 0
BodyItem n i = BodyEach (λ y. y < n) i

-- what the variables of a clause are below
abbrev RaisedBelow : Program → ℕ → ℕ → Type 0
RaisedBelow p k first = Raised (λ y. y < first + vars_of_clause p k) (numbered p.clauses k) first

raised-below : (p : Program) (k first : ℕ) → RaisedBelow p k first
raised-below p k first = raised-of (λ y. y < first + vars_of_clause p k) p k first (λ z a b. b)

-- ---- literals

list-below : (n : ℕ) (ts : Tms) → ArgsBelow n ts → TermBelow n (list_term (items ts))
list-below n nil h = tt
list-below n (cons t ts) h = (h.0, (list-below n ts h.1, tt))

differing-below : (n : ℕ) (l : Lit) (a : Literal) → ArgsBelow n l.atom.args → LiteralBelow n a → ConBelow n (differing l a)
differing-below n l a h k = (
  subst (TermBelow n) (sym (viewed (list_term (items l.atom.args)))) (list-below n l.atom.args h),
  subst (TermBelow n) (sym (viewed (list_term (items a.lit.atom.args)))) (list-below n a.lit.atom.args k),
)

pub at-number-each : (P : Literal → Type 0) (m : ℕ) (f : Literal → Literal) → ((a : Literal) → P a → P (f a)) → (xs : List Literal) → Each P xs → Each P (at_number m f xs)
at-number-each P m f k [] h = tt
at-number-each P m f k (a ∷ xs) h = (by (nat_eq a.number m), at-number-each P m f k xs h.1)
  where
    by : (b : Bool) → P (if b then f a else a)
    by true = k a h.0
    by false = h.0

pub each-of : {A : Type 0} (P : State → Type 0) (f : A → State) → ((x : A) → P (f x)) → (xs : List A) → EachState P (map f xs)
each-of P f h [] = tt
each-of P f h (x ∷ xs) = (h x, each-of P f h xs)

module _ (p : Program) (sat : List Con → Bool) where
  held-other : (s r : State) → r.bound ≡ s.bound → length s.made ≤ length r.made → Each (CoverBelow p (length r.made)) r.covers → Each (LiteralBelow (length r.made)) r.literals
      → Held p s → Held p r
  held-other s r e l cs ls h = record {
    solved = solved-more (length s.made) (length r.made) l r.bound (subst (Solved (length s.made)) (sym e) h.solved);
    covers = cs;
    literals = ls;
  }

  out-held : (s r : State) → Held p r → length s.made ≤ length r.made → (ts : List Task) → r.work ≡ ts ++ s.work → Each (Later p (length r.made)) ts
      → Each (Later p (length s.made)) s.work → Out p r
  out-held s r h l ts e f w =
      inl (record {
        held = h;
        front =
            subst (Front p (length r.made) r.bound) (sym e)
            (later (ts ++ s.work) (Each-append (Later p (length r.made)) ts s.work f (all-later-more p (length s.made) (length r.made) l s.work w)));
      })

  module _ (s : State) (h : Held p s) (w : Each (Later p (length s.made)) s.work) where
    line-out : (l : Line) (ts : List Task) → Each (Later p (length s.made)) ts → Out p (before ts (with_line s l))
    line-out l ts f =
        out-held s (before ts (with_line s l)) (held-other s (before ts (with_line s l)) refl (omega arith) h.covers h.literals h) (omega arith) ts refl f w

    literals-out : (xs : List Literal) → Each (LiteralBelow (length s.made)) xs → Out p (record s { literals = xs })
    literals-out xs b =
        out-held s (record s { literals = xs }) (held-other s (record s { literals = xs }) refl (omega arith) h.covers b h) (omega arith) [] refl tt w

    marked-below : (bs : List Literal) (xs : List Literal) → Each (LiteralBelow (length s.made)) xs → Out p (marked bs (record s { literals = xs }))
    marked-below [] xs b = literals-out xs b
    marked-below (a ∷ bs) xs b = literals-out (at_number a.number looping xs) (at-number-each (LiteralBelow (length s.made)) a.number looping (λ c k. k) xs b)

    moved-out : (a : Literal) (bs : List Literal) (xs : List Literal) → Each (LiteralBelow (length s.made)) xs → Out p (moved a bs (record s { literals = xs }))
    moved-out a [] xs b = literals-out xs b
    moved-out a (c ∷ cs) xs b = by (a.loops && a.lit.positive && c.lit.positive)
      where
        by : (d : Bool) → Out p (if d then marked (c ∷ cs) (record s { literals = xs }) else record s { literals = xs })
        by true = marked-below (c ∷ cs) xs b
        by false = literals-out xs b

    left-out : (bs : List Literal) → Out p (left bs s)
    left-out [] = literals-out s.literals h.literals
    left-out (a ∷ bs) =
        moved-out a bs (at_number a.number finished s.literals) (at-number-each (LiteralBelow (length s.made)) a.number finished (λ c k. k) s.literals h.literals)

    -- ---- a literal that is gone into

    shows-later : (n : ℕ) (is : List FlatItem) → Each (ItemBelow n) is → Each (Later p n) (map task.Show is)
    shows-later n is b = Each-mapped (Later p n) task.Show is b

    rule-out : (l : Lit) → ArgsBelow (length s.made) l.atom.args → (k : ℕ) → Out p (by_rule p s l k)
    rule-out l b k =
        out-held s (by_rule p s l k)
        (held-other s (by_rule p s l k) refl more (covers-more p n (length (by_rule p s l k).made) more s.covers h.covers)
        (Each-append (LiteralBelow (length (by_rule p s l k).made)) s.literals _ (literals-more n (length (by_rule p s l k).made) more s.literals h.literals) (args-more p n (length (by_rule p s l k).made) more l.atom.args b, tt)) h)
        more ((equations l.atom.args (head_args p k n) ++ map task.Show body) ++ task.Leave ∷ []) refl
        (Each-append (Later p m) (equations l.atom.args (head_args p k n) ++ map task.Show body) (task.Leave ∷ [])
        (Each-append (Later p m) (equations l.atom.args (head_args p k n)) (map task.Show body)
        (equations-later p m (pairs l.atom.args (head_args p k n)) (pairs-below m l.atom.args (head_args p k n) (args-more p n m more l.atom.args b) (args-more p (n + vars_of_clause p k) m room (head_args p k n) r.head)))
        (shows-later m body (Each-map (BodyItem (n + vars_of_clause p k)) (ItemBelow m) (λ i c. item-more p (n + vars_of_clause p k) m room i c.0) body r.body)))
        (tt, tt)) w
      where
        n : ℕ
        n = length s.made

        m : ℕ
        m = length (by_rule p s l k).made

        body : List FlatItem
        body = body_of p k (next_variable s)

        r : RaisedBelow p k (length s.made)
        r = raised-below p k (length s.made)

        long : length (by_rule p s l k).made ≡ length s.made + vars_of_clause p k
        long = new-length s Existential (length s.covers) (vars_of_clause p k)

        more : length s.made ≤ length (by_rule p s l k).made
        more = omega (arith, long)

        room : length s.made + vars_of_clause p k ≤ length (by_rule p s l k).made
        room = omega (arith, long)

    covers-later : (a : Atom) (ks : List ℕ) → ArgsBelow (length s.made) a.args → Each (Later p (length s.made)) (map (task.Cover a) ks)
    covers-later a [] b = tt
    covers-later a (k ∷ ks) b = (b, covers-later a ks b)

    no-rule-out : (l : Lit) → ArgsBelow (length s.made) l.atom.args → Out p (by_no_rule p s l)
    no-rule-out l b =
        out-held s (by_no_rule p s l)
        (held-other s (by_no_rule p s l) refl (omega arith) h.covers (Each-append (LiteralBelow (length s.made)) s.literals _ h.literals (b, tt)) h)
        (omega arith) (map (task.Cover l.atom) (rules_of p (pred_of l.atom)) ++ task.Leave ∷ []) refl
        (Each-append (Later p (length s.made)) (map (task.Cover l.atom) (rules_of p (pred_of l.atom))) (task.Leave ∷ []) (covers-later l.atom (rules_of p (pred_of l.atom)) b) (tt, tt)) w

    entered-out : (l : Lit) → ArgsBelow (length s.made) l.atom.args → EachState (Out p) (entered p s l)
    entered-out l b = by l.positive
      where
        by : (c : Bool) → EachState (Out p) (if c then map (by_rule p s l) (rules_of p (pred_of l.atom)) else by_no_rule p s l ∷ [])
        by true = each-of (Out p) (by_rule p s l) (rule-out l b) (rules_of p (pred_of l.atom))
        by false = (no-rule-out l b, tt)

    looped-out : (l : Lit) (r : Repeated) → EachState (Out p) (looped s l r)
    looped-out l r = by (not l.positive) r.is_behind_negation
      where
        by : (a b : Bool) → EachState (Out p) (if a then with_line s (line.Loop l r.number) ∷ [] else (if b then marked (ancestors s) (with_line s (line.Loop l r.number)) ∷ [] else []))
        by true b = (line-out (line.Loop l r.number) [] tt, tt)
        by false true = (loops (ancestors s), tt)
          where
            ht : Held p (with_line s (line.Loop l r.number))
            ht = held-other s (with_line s (line.Loop l r.number)) refl (omega arith) h.covers h.literals h

            loops : (xs : List Literal) → Out p (marked xs (with_line s (line.Loop l r.number)))
            loops [] = line-out (line.Loop l r.number) [] tt
            loops (a ∷ xs) =
                out-held s (marked (a ∷ xs) (with_line s (line.Loop l r.number)))
                (held-other s (marked (a ∷ xs) (with_line s (line.Loop l r.number))) refl (omega arith) h.covers (at-number-each (LiteralBelow (length s.made)) a.number looping (λ c k. k) s.literals h.literals) h)
                (omega arith) [] refl tt w
        by false false = tt

  -- where there is a circle there is one after a call
  entered-circular : (s : State) (l : Lit) → IsCircular s → EachState (Out p) (entered p s l)
  entered-circular s l c = by l.positive
    where
      by : (b : Bool) → EachState (Out p) (if b then map (by_rule p s l) (rules_of p (pred_of l.atom)) else by_no_rule p s l ∷ [])
      by true = each-of (Out p) (by_rule p s l) (λ k. inr c) (rules_of p (pred_of l.atom))
      by false = (inr c, tt)

  module _ (s : State) (h : Held p s) (w : Each (Later p (length s.made)) s.work) where
    others-below : (l : Lit) → ArgsBelow (length s.made) l.atom.args → Each (ConBelow (length s.made)) (map (differing l) (opposites s l))
    others-below l b =
        Each-mapped (ConBelow (length s.made)) (differing l) (opposites s l)
        (Each-map (LiteralBelow (length s.made)) (λ a. ConBelow (length s.made) (differing l a)) (λ a k. differing-below (length s.made) l a b k) (opposites s l) (by (is_free s l)))
      where
        by : (c : Bool) → Each (LiteralBelow (length s.made)) (if c then filter (is_opposite s l) s.literals else [])
        by true = Each-filter (LiteralBelow (length s.made)) (is_opposite s l) s.literals h.literals
        by false = tt

    after-assumed : (l : Lit) → ArgsBelow (length s.made) l.atom.args → (t : State) → Keep p s t × (t.work ≡ s.work) → EachState (Out p) (entered p t l)
    after-assumed l b t k = by (k.0.held h)
      where
        by : Held p t ⊎ IsCircular t → EachState (Out p) (entered p t l)
        by (inl ht) =
            entered-out t ht (subst (Each (Later p (length t.made))) (sym k.1) (all-later-more p (length s.made) (length t.made) k.0.more s.work w)) l
            (args-more p (length s.made) (length t.made) k.0.more l.atom.args b)
        by (inr c) = entered-circular t l c

    unrepeated-out : (l : Lit) → ArgsBelow (length s.made) l.atom.args → (xs : List Literal) → EachState (Out p) (unrepeated p sat s l xs).states
    unrepeated-out l b [] =
        each_followed (λ t. Keep p s t × (t.work ≡ s.work)) (Out p) (λ t. gives (entered p t l)) (assume_all sat (map (differing l) (opposites s l)) s).states
        (each_both (Keep p s) (λ t. t.work ≡ s.work) (assume_all sat (map (differing l) (opposites s l)) s).states
        (keep-all-assumed p sat s s (map (differing l) (opposites s l)) (keep-itself p s) (others-below l b)) (all-assumed-same sat s s (map (differing l) (opposites s l)) refl))
        (after-assumed l b)
    unrepeated-out l b (a ∷ xs) = (line-out s h w (line.Seen l a.number) [] tt, tt)

    pub call-out : (l : Lit) → ArgsBelow (length s.made) l.atom.args → EachState (Out p) (call p sat s l).states
    call-out l b = by (nearest s l false (ancestors s))
      where
        by : (o : Option Repeated) → EachState (Out p) (judged p sat s l o).states
        by (Some r) = looped-out s h w l r
        by None = unrepeated-out l b (filter (can_be_seen s l) s.literals)

    -- ---- covers and cases

    cover-out : (a : Atom) (k : ℕ) → ArgsBelow (length s.made) a.args → Out p (covered p s a k)
    cover-out a k b =
        out-held s (covered p s a k)
        (held-other s (covered p s a k) refl more (covers-more p n m more s.covers h.covers) (literals-more n m more s.literals h.literals) h)
        more (task.Differ (pairs a.args (head_args p k n)) (aims.Head k n) ∷ []) refl
        ((pairs-below m a.args (head_args p k n) (args-more p n m more a.args b) (args-more p (n + vars_of_clause p k) m room (head_args p k n) (raised-below p k n).head), room), tt) w
      where
        n : ℕ
        n = length s.made

        m : ℕ
        m = length (covered p s a k).made

        long : length (covered p s a k).made ≡ length s.made + vars_of_clause p k
        long = new-length s Matched 0 (vars_of_clause p k)

        more : length s.made ≤ length (covered p s a k).made
        more = omega (arith, long)

        room : length s.made + vars_of_clause p k ≤ length (covered p s a k).made
        room = omega (arith, long)

    items-out : (l : Line) (is : List FlatItem) → Each (ItemBelow (length s.made)) is → Out p (with_items s l is)
    items-out l is b =
        line-out s h w l (map task.Show is ++ task.Close ∷ [])
        (Each-append (Later p (length s.made)) (map task.Show is) (task.Close ∷ []) (Each-mapped (Later p (length s.made)) task.Show is b) (tt, tt))

    failing-below : (n k : ℕ) (body : List FlatItem) → Each (BodyItem n) body → Each (ItemBelow n) (failing_at k body)
    failing-below n k [] b = tt
    failing-below n zero (i ∷ is) b = (b.0.1, tt)
    failing-below n (suc k) (i ∷ is) b = (b.0.0, failing-below n k is b.1)

    head-out : (body is : List FlatItem) → Each (ItemBelow (length s.made)) body → Each (ItemBelow (length s.made)) is → EachState (Out p) (with_head s body is)
    head-out body [] b c = tt
    head-out body (i ∷ is) b c = (items-out (line.Head (suc (length body))) (body ++ i ∷ []) (Each-append (ItemBelow (length s.made)) body (i ∷ []) b (c.0, tt)), tt)

    cases-out : (c : Cover) → ClauseBelow p (length s.made) c.clause c.first → EachState (Out p) (cases_of p sat s c).states
    cases-out c l = by (sat (asked_with s (context s)))
      where
        n : ℕ
        n = length s.made

        body : List FlatItem
        body = body_of p c.clause c.first

        r : RaisedBelow p c.clause c.first
        r = raised-below p c.clause c.first

        each : Each (BodyItem (length s.made)) (body_of p c.clause c.first)
        each =
            Each-map (BodyItem (c.first + vars_of_clause p c.clause)) (BodyItem (length s.made))
            (λ i b. (item-more p (c.first + vars_of_clause p c.clause) (length s.made) l i b.0, item-more p (c.first + vars_of_clause p c.clause) (length s.made) l (opposite_item i) b.1)) (body_of p c.clause c.first) r.body

        ahead : (b : Bool) → EachState (Out p) (if b then with_head s (body_of p c.clause c.first) (head_call (numbered p.clauses c.clause) c.first) else [])
        ahead true =
            head-out (body_of p c.clause c.first) (head_call (numbered p.clauses c.clause) c.first)
            (Each-map (BodyItem (length s.made)) (ItemBelow (length s.made)) (λ i b. b.0) (body_of p c.clause c.first) each)
            (Each-map (ItemBelow (c.first + vars_of_clause p c.clause)) (ItemBelow (length s.made)) (λ i b. item-more p (c.first + vars_of_clause p c.clause) (length s.made) l i b) (head_call (numbered p.clauses c.clause) c.first) r.call_of)
        ahead false = tt

        by : (b : Bool) → EachState (Out p) (cases_where b p s c)
        by true =
            each_append (Out p) (map (leaf_at s (body_of p c.clause c.first)) (count_from 0 (length (body_of p c.clause c.first)))) _
            (each-of (Out p) (leaf_at s (body_of p c.clause c.first)) (λ k. items-out (line.Leaf (suc k)) (failing_at k (body_of p c.clause c.first)) (failing-below (length s.made) k (body_of p c.clause c.first) each)) (count_from 0 (length (body_of p c.clause c.first))))
            (ahead c.checks_head)
        by false = (line-out s h w line.Void (task.Close ∷ []) (tt, tt), tt)

  cases-circular : (s : State) (c : Cover) → IsCircular s → EachState (Out p) (cases_of p sat s c).states
  cases-circular s c o = by (sat (asked_with s (context s)))
    where
      ahead : (is : List FlatItem) → EachState (Out p) (with_head s (body_of p c.clause c.first) is)
      ahead [] = tt
      ahead (i ∷ is) = (inr o, tt)

      either : (b : Bool) → EachState (Out p) (if b then with_head s (body_of p c.clause c.first) (head_call (numbered p.clauses c.clause) c.first) else [])
      either true = ahead (head_call (numbered p.clauses c.clause) c.first)
      either false = tt

      by : (b : Bool) → EachState (Out p) (cases_where b p s c)
      by true =
          each_append (Out p) (map (leaf_at s (body_of p c.clause c.first)) (count_from 0 (length (body_of p c.clause c.first)))) _
          (each-of (Out p) (leaf_at s (body_of p c.clause c.first)) (λ k. inr o) (count_from 0 (length (body_of p c.clause c.first)))) (either c.checks_head)
      by false = (inr o, tt)

  begin-out : (s : State) → Held p s → Each (Later p (length s.made)) s.work → (k first : ℕ) (head : Bool) → ClauseBelow p (length s.made) k first
      → EachState (Out p) (begin_cases p sat s k first head).states
  begin-out s h w k first head b = cases-out r hr wr c here
    where
      c : Cover
      c = cover_for p s k first head (unbound_of s first (vars_of_clause p k))

      r : State
      r = with_cover s (cover_for p s k first head (unbound_of s first (vars_of_clause p k)))

      same : length (with_cover s (cover_for p s k first head (unbound_of s first (vars_of_clause p k)))).made ≡ length s.made
      same = universals-length (suc (length s.covers)) (unbound_of s first (vars_of_clause p k)) s.made

      more : length s.made ≤ length (with_cover s (cover_for p s k first head (unbound_of s first (vars_of_clause p k)))).made
      more = omega (arith, same)

      here : ClauseBelow p (length (with_cover s (cover_for p s k first head (unbound_of s first (vars_of_clause p k)))).made) k first
      here = omega (arith, b, more)

      hr : Held p (with_cover s (cover_for p s k first head (unbound_of s first (vars_of_clause p k))))
      hr =
          held-other s (with_cover s (cover_for p s k first head (unbound_of s first (vars_of_clause p k)))) refl more
          ((here, tt), covers-more p (length s.made) (length (with_cover s (cover_for p s k first head (unbound_of s first (vars_of_clause p k)))).made) more s.covers h.covers)
          (literals-more (length s.made) (length (with_cover s (cover_for p s k first head (unbound_of s first (vars_of_clause p k)))).made) more s.literals h.literals) h

      wr : Each (Later p (length (with_cover s (cover_for p s k first head (unbound_of s first (vars_of_clause p k)))).made)) s.work
      wr = all-later-more p (length s.made) (length (with_cover s (cover_for p s k first head (unbound_of s first (vars_of_clause p k)))).made) more s.work w

  check-out : (s : State) → Held p s → Each (Later p (length s.made)) s.work → (k : ℕ) (head : Bool) → EachState (Out p) (check_clause p sat s k head).states
  check-out s h w k head = begin-out r hr wr k (next_variable s) head room
    where
      r : State
      r = with_line (with_new s Matched 0 (vars_of_clause p k)) (line.Check k (next_variable s))

      long : length (with_line (with_new s Matched 0 (vars_of_clause p k)) (line.Check k (next_variable s))).made ≡ length s.made + vars_of_clause p k
      long = new-length s Matched 0 (vars_of_clause p k)

      more : length s.made ≤ length (with_line (with_new s Matched 0 (vars_of_clause p k)) (line.Check k (next_variable s))).made
      more = omega (arith, long)

      room : length s.made + vars_of_clause p k ≤ length (with_line (with_new s Matched 0 (vars_of_clause p k)) (line.Check k (next_variable s))).made
      room = omega (arith, long)

      hr : Held p (with_line (with_new s Matched 0 (vars_of_clause p k)) (line.Check k (next_variable s)))
      hr =
          held-other s (with_line (with_new s Matched 0 (vars_of_clause p k)) (line.Check k (next_variable s))) refl more
          (covers-more p (length s.made) (length (with_line (with_new s Matched 0 (vars_of_clause p k)) (line.Check k (next_variable s))).made) more s.covers h.covers)
          (literals-more (length s.made) (length (with_line (with_new s Matched 0 (vars_of_clause p k)) (line.Check k (next_variable s))).made) more s.literals h.literals) h

      wr : Each (Later p (length (with_line (with_new s Matched 0 (vars_of_clause p k)) (line.Check k (next_variable s))).made)) s.work
      wr = all-later-more p (length s.made) (length (with_line (with_new s Matched 0 (vars_of_clause p k)) (line.Check k (next_variable s))).made) more s.work w

  -- ---- the end of a case

  kept-below : (s : State) → Held p s → (us : List ℕ) (xs : List Literal) → Each (LiteralBelow (length s.made)) xs → Each (LiteralBelow (length s.made)) (map (kept_literal s us) xs)
  kept-below s h us xs b =
      Each-mapped (LiteralBelow (length s.made)) (kept_literal s us) xs
      (Each-map (LiteralBelow (length s.made)) (λ a. LiteralBelow (length s.made) (kept_literal s us a)) (λ a k. read-below p s (app 0 a.lit.atom.args) h k) xs b)

  held-ended : (s : State) (c : Cover) (but : List ℕ) → Held p s → Held p (ended_case s c but)
  held-ended s c but h = record {
    solved = solved-filter (length s.made) (λ b. not (among b.x c.universals) || among b.x but) s.bound h.solved;
    covers = h.covers;
    literals = kept-below s h c.universals s.literals h.literals;
  }

  remainder-out : (s : State) → Held p s → Each (Later p (length s.made)) s.work → (r : Remainder) (c : Cover) (cs : List Cover) → CoverBelow p (length s.made) c
      → EquationBelow (length s.made) r.equation → Each (CoverBelow p (length s.made)) cs → EachState (Out p) (cases_of p sat (taken_up s r c cs) c).states
  remainder-out s h w r c cs cb eb b = by r.equation refl eb
    where
      by : (o : Option Binding) → r.equation ≡ o → EquationBelow (length s.made) o → EachState (Out p) (cases_of p sat (taken_up s r c cs) c).states
      by None e l =
          cases-out (taken_up s r c cs)
          (held-other s (taken_up s r c cs) (ap (λ (o : Option Binding). s.bound ++ replaced_now s o) e ∙ append-nil s.bound) (omega arith) (cb, b) h.literals h) w c cb.0
      by (Some d) e l = known (k.held h)
        where
          k : Keep p s (taken_up s r c cs)
          k =
              keep-bound p s (taken_up s r c cs) d.x (under (meaning s) (tm_of d.term)) (ap (λ (o : Option Binding). s.bound ++ replaced_now s o) e) (omega arith) (λ _. (cb, b)) refl
              (λ g. (l.0, read-free (length s.made) s.bound g.solved (tm_of d.term) l.1))

          known : Held p (taken_up s r c cs) ⊎ IsCircular (taken_up s r c cs) → EachState (Out p) (cases_of p sat (taken_up s r c cs) c).states
          known (inl g) = cases-out (taken_up s r c cs) g w c cb.0
          known (inr o) = cases-circular (taken_up s r c cs) c o

  close-out : (s : State) → Held p s → Each (Later p (length s.made)) s.work → EachState (Out p) (close_case p sat s s.covers).states
  close-out s h w = by s.covers h.covers
    where
      waiting : (c : Cover) (cs : List Cover) → ClauseBelow p (length s.made) c.clause c.first → Each (CoverBelow p (length s.made)) cs → (rs : List Remainder)
          → Each (λ r. EquationBelow (length s.made) r.equation) rs → EachState (Out p) (after_case p sat s c cs rs).states
      waiting c cs cb b [] eb = (
        out-held s (record (ended_case s c []) { covers = cs })
            (record { solved = solved-filter (length s.made) (λ b. not (among b.x c.universals) || among b.x []) s.bound h.solved; covers = b; literals = kept-below s h c.universals s.literals h.literals })
            (omega arith) [] refl tt w,
        tt,
      )
      waiting c cs cb b (r ∷ rs) eb =
          remainder-out (ended_case s c r.replaced) (held-ended s c r.replaced h) w r
          (remaining c r rs (ended_case s c r.replaced).cases (ended_case s c r.replaced).lines) cs (cb, eb.1) eb.0 b

      by : (cs : List Cover) → Each (CoverBelow p (length s.made)) cs → EachState (Out p) (close_case p sat s cs).states
      by [] b = tt
      by (c ∷ cs) b = waiting c cs b.0.0 b.1 c.waiting b.0.1

  -- ---- steps

  value-kept : (s : State) → Held p s → Each (Later p (length s.made)) s.work → (x : ℕ) (t : Term) → (ps : List Pair) (aim : Aim) → Later p (length s.made) (task.Become x t ps aim)
      → EachState (Out p) (done p sat s (task.Become x t ps aim)).states
  value-kept s h w x (Num q) ps aim b = value-out p sat s h w ps aim b.2 b.3 x q b.0
  value-kept s h w x (Var y) ps aim b = absurd b.1
  value-kept s h w x (App f ts) ps aim b = absurd b.1

  done-out : (s : State) → Held p s → Each (Later p (length s.made)) s.work → (t : Task) → Later p (length s.made) t → EachState (Out p) (done p sat s t).states
  done-out s h w (task.Show (flat.Call l)) b = call-out s h w l b
  done-out s h w (task.Show (flat.Test c)) b =
      test-out p sat (with_line s (line.Test c)) (held-other s (with_line s (line.Test c)) refl (omega arith) h.covers h.literals h) w c b.0
  done-out s h w (task.Equate t u) b = equate-out p sat s h w t u b.0 b.1
  done-out s h w (task.Assume c) b = assumed-out p sat s h w c b
  done-out s h w (task.Differ ps aim) b = differ-out p sat s h w ps aim b.0 b.1
  done-out s h w (task.Become x t ps aim) b = value-kept s h w x t ps aim b
  done-out s h w (task.Avoid x q ps aim) b = avoid-out p sat s h w ps aim b.1 b.2 x q b.0
  done-out s h w (task.Shape x f ts ps aim) b = name-out p sat s h w ps aim b.2 b.3 x f ts b.0 b.1
  done-out s h w (task.Cover a k) b = (cover-out s h w a k b, tt)
  done-out s h w (task.Check k head) b = check-out s h w k head
  done-out s h w (task.Begin k first head) b = begin-out s h w k first head b
  done-out s h w task.Void b = (line-out s h w line.Void [] tt, tt)
  done-out s h w task.Leave b = (left-out s h w (ancestors s), tt)
  done-out s h w task.Close b = close-out s h w

  front-out : (s : State) → Held p s → (ws : List Task) → Front p (length s.made) s.bound ws → EachState (Out p) (step_at p sat s ws).states
  front-out s h _ (later [] b) = tt
  front-out s h _ (later (t ∷ ts) b) =
      done-out (record s { work = ts }) (held-other s (record s { work = ts }) refl (omega arith) h.covers h.literals h) b.1 t b.0
  front-out s h _ (becomes x y ps aim ts fx fy pb ab b) =
      variable-out p sat (record s { work = ts }) (held-other s (record s { work = ts }) refl (omega arith) h.covers h.literals h) b ps aim pb ab x y fx fy

  -- each state that comes of an orderly one is orderly, or has a circle
  pub called : (s : State) → Orderly p s → EachState (Out p) (step p sat s).states
  called s o = front-out s o.held s.work o.front
