-- Each state that comes of the start of a search over a headed program is calm.
use Rattle.std.specs.List.{Contains, list_all}
use Rattle.std.specs.Prelude.{Bool, List, [], false, length, map, nat_eq, true, ℕ, ⊤, ◌++◌, ◌+◌, ◌-◌, ◌<◌, ◌↔◌, ◌∷◌, ◌≡◌}
use Rattle.std.proofs.Common.{ap, arith, inl, refl, subst, sym, ◌∙◌}
use Rattle.std.proofs.lemmas.Bool.{and_parts, eqb-true}
use Rattle.std.proofs.lemmas.List.{append-nil, map-append}
use Rattle.scasp_hint.specs.Satisfying.{sat}
use Rattle.scasp_law_first_event.proofs.Bindings.{Solved}
use Rattle.scasp_law_first_event.proofs.EachStates.{each-state, each_weaker}
use Rattle.scasp_law_first_event.proofs.Firming.{new-makes, new-onto}
use Rattle.scasp_law_first_event.proofs.Firmness.{Clear, Firm, Kinded, Onto, TaskFirm, as-many}
use Rattle.scasp_law_first_event.proofs.Moves.{new-length}
use Rattle.scasp_law_first_event.proofs.Raising.{Each-mapped}
use Rattle.scasp_law_first_event.specs.Events.{IsReachable, after, itself}
use Rattle.scasp_law_no_circle.proofs.Reaching.{Known, known}
use Rattle.scasp_law_no_circle.proofs.Scope.{Scoped}
use Rattle.scasp_law_no_circle.proofs.Tasks.{AimScoped, BecomesScoped, Front, Plain, Waiting, assumes, avoids, becomes, begins, behind, differs, numbers, plain, shapes}
use Rattle.scasp_law_parts.proofs.AgreeLemmas.{join-all}
use Rattle.scasp_law_parts.proofs.BoundLemmas.{absorbed}
use Rattle.scasp_law_parts.proofs.TriangularLemmas.{solved-self}
use Rattle.scasp_law_parts.specs.Bound.{Triangular}
use Rattle.scasp_law_sorted.proofs.Evenness.{Bare, Tame, even-new}
use Rattle.scasp_law_sorted.proofs.Reaching.{asked-decided}
use Rattle.scasp_law_sorted.specs.Asking.{ComesPlainly, asked_next, begins as at_start, goes_on, has_universal_made}
use Rattle.scasp_list.proofs.EachLemmas.{Each-append, Each-from_test, Each-left, Each-map}
use Rattle.scasp_list.proofs.MemberLemmas.{list_any-none_from}
use Rattle.scasp_list.specs.Each.{Each}
use Rattle.scasp_nmr.specs.declared.items.CheckItem.{CheckItem}
use Rattle.scasp_search_rules.specs.Successors.Assumptions.{assume}
use Rattle.scasp_search_rules.specs.Successors.Calls.{call, covered, leave_literal, vars_of_clause}
use Rattle.scasp_search_rules.specs.Successors.Cases.{begin_cases, check_clause, close_case}
use Rattle.scasp_search_rules.specs.Successors.Differences.{differ_terms, differ_value, same_shape, same_value}
use Rattle.scasp_search_rules.specs.Successors.Equations.{equate_terms}
use Rattle.scasp_search_rules.specs.Successors.Falls.{EachState}
use Rattle.scasp_search_rules.specs.Successors.Items.{show_test, with_line}
use Rattle.scasp_search_rules.specs.Successors.Problems.{Problem}
use Rattle.scasp_search_rules.specs.Successors.Regions.{equation}
use Rattle.scasp_search_rules.specs.Successors.Search.{done, nothing, search_for, start, step, step_at}
use Rattle.scasp_search_rules.specs.Successors.Splits.{is_bound_in}
use Rattle.scasp_search_rules.specs.Successors.Variables.{is_kind_matched, is_kind_universal, meaning, with_new}
use Rattle.scasp_search_rules.specs.declared.states.covers.Cover.{Cover}
use Rattle.scasp_search_rules.specs.declared.states.lines.Line.{Line}
use Rattle.scasp_search_rules.specs.declared.states.lines.Line.TheVariants as line
use Rattle.scasp_search_rules.specs.declared.states.state.Kind.TheVariants.{Existential, Matched}
use Rattle.scasp_search_rules.specs.declared.states.state.Made.{Made}
use Rattle.scasp_search_rules.specs.declared.states.state.State.{State}
use Rattle.scasp_search_rules.specs.declared.states.tasks.Aim.{Aim}
use Rattle.scasp_search_rules.specs.declared.states.tasks.Pair.{Pair}
use Rattle.scasp_search_rules.specs.declared.states.tasks.Task.{Task}
use Rattle.scasp_search_rules.specs.declared.states.tasks.Task.TheVariants as task
use Rattle.scasp_syntax.specs.Constraints.{Meets, Sat, holds}
use Rattle.scasp_syntax.specs.Flat.{flat_body}
use Rattle.scasp_syntax.specs.Tm.{app, nil, num, var}
use Rattle.scasp_syntax.specs.View.{tm_of}
use Rattle.scasp_syntax.specs.declared.clause.FlatItem.TheVariants as flat
use Rattle.scasp_syntax.specs.declared.clause.Query.{Query}
use Rattle.scasp_syntax.specs.declared.con.Con.{Con}
use Rattle.scasp_syntax.specs.declared.con.Con.TheVariants as con
use Rattle.scasp_syntax.specs.declared.program.Program.{Program}
use Rattle.scasp_syntax.specs.declared.term.Term.{Term}
use Rattle.scasp_syntax.specs.declared.term.Term.TheVariants.{App, Num, Var}
use Rattle.scasp_unify.proofs.Members.{Each-member}
use Rattle.scasp_unify.proofs.UnificationLemmas.{resolved-twice}
use Rattle.scasp_unify.specs.Resolver.{Equal}
use Rattle.scasp_unify.specs.Sorted.{typed}
use Rattle.scasp_unify.specs.declared.bindings.Binding.{Binding}
use Rattle.scasp_law_headed_steps.proofs.Bodies.{ItemOf, item-of-weaker, query-tests}
use Rattle.scasp_law_headed_steps.proofs.Calling.{call-moves, cover-moves, leave-moves}
use Rattle.scasp_law_headed_steps.proofs.Cases.{CoverFits, Stays, Whole, begin-whole, check-whole, close-whole, moved-whole}
use Rattle.scasp_law_headed_steps.proofs.Steps.{assume-moves, avoid-moves, become-moves, differ-moves, equate-moves, found-of, name-moves, test-moves}
use Rattle.scasp_law_headed_steps.proofs.Tasks.{HeadReads, Moves, TaskFits, Tells, line-moves, tells-hold, tells-more}
use Rattle.scasp_law_headed_steps.specs.Calm.{Calm, HasLine, IsAlone, IsHeaded, IsLater, LineHolds, holds_of, left_of, promised}
use Rattle.scasp_law_headed_steps.specs.Headed.{is_headed}

-- ---- later states

pub later-of : (s r : State) (more : List Binding) (hs : List Con) → r.bound ≡ s.bound ++ more → r.given ≡ s.given ++ hs → Triangular r.bound → IsLater s r
later-of s r more hs b g h = record {
  more_bound = more;
  bound = b;
  more_given = hs;
  given = g;
  reads = λ u. resolved-twice (meaning r) (meaning s) u (absorbed (meaning r) s.bound first);
}
  where
    all : Each (Equal (meaning r)) (map equation s.bound ++ map equation more)
    all = subst (Each (Equal (meaning r))) (ap (map equation) b ∙ map-append equation s.bound more) (solved-self r.bound h)

    first : Each (Equal (meaning r)) (map equation s.bound)
    first = Each-left (Equal (meaning r)) (map equation s.bound) (map equation more) all

-- the state is whole, and later than s
abbrev pub Follows-on : Program → State → State → Type 0
Follows-on p s r = Whole p r × IsLater s r

stays-on : (p : Program) (s r : State) → Stays p s.bound s.given r → Follows-on p s r
stays-on p s r h = (h.0, later-of s r [] [] (h.1 ∙ sym (append-nil s.bound)) (h.2 ∙ sym (append-nil s.given)) h.0.kept.triangular)

-- ---- one step

module _ (p : Program) (headed : list_all is_headed p.clauses ≡ true) (s : State) (solved : Solved (length s.made) s.bound) (clear : Clear p s) (firm : Each (TaskFirm p s) s.work) (h : Whole p s) where
  moved-on : (t : Task) (rest : List Task) → s.work ≡ t ∷ rest → (rs : List State) → EachState (Moves p (record s { work = rest }) t) rs → EachState (Follows-on p s) rs
  moved-on t rest e rs k =
      each_weaker (Moves p (record s { work = rest }) t) (Follows-on p s) rs
      (λ r m. (moved-whole p s t rest e h r m, later-of s r m.more_bound m.more_given m.bound m.given m.kept.triangular)) k

  stayed-on : (rs : List State) → EachState (Stays p s.bound s.given) rs → EachState (Follows-on p s) rs
  stayed-on rs k = each_weaker (Stays p s.bound s.given) (Follows-on p s) rs (stays-on p s) k

  task-firm : (t : Task) (rest : List Task) → s.work ≡ t ∷ rest → TaskFirm p s t
  task-firm t rest e = (subst (Each (TaskFirm p s)) e firm).0

  task-fits : (t : Task) (rest : List Task) → s.work ≡ t ∷ rest → TaskFits p s.made s.bound s.lines t
  task-fits t rest e = (subst (Each (TaskFits p s.made s.bound s.lines)) e h.work).0

  rest-fits : (t : Task) (rest : List Task) → s.work ≡ t ∷ rest → Each (TaskFits p s.made s.bound s.lines) rest
  rest-fits t rest e = (subst (Each (TaskFits p s.made s.bound s.lines)) e h.work).1

  -- tasks that wait match no head
  waits-calm : (n : ℕ) (ts : List Task) → Waiting (Scoped s.made s.covers s.bound) n ts → Each (TaskFits p s.made s.bound s.lines) ts → (more : List Made) → Onto s (record s { made = more }) → (ls : List Line)
      → Each (TaskFits p more s.bound ls) ts
  waits-calm n [] w f more o ls = tt
  waits-calm n (t ∷ ts) w f more o ls = (by t w.0 f.0, waits-calm (behind t n) ts w.1 f.1 more o ls)
    where
      by : (t : Task) → Plain (Scoped s.made s.covers s.bound n) t → TaskFits p s.made s.bound s.lines t → TaskFits p more s.bound ls t
      by (task.Show i) k g = item-of-weaker (Firm s) (Firm (record s { made = more })) o.firm i g
      by (task.Equate t u) k g = tt
      by (task.Cover a j) k g = g
      by (task.Check j checks_head) k g = g
      by task.Void k g = tt
      by task.Leave k g = tt
      by task.Close k g = tt
      by (task.Assume c) k g = absurd k
      by (task.Differ ps aim) k g = absurd k
      by (task.Become x t ps aim) k g = absurd k
      by (task.Avoid x q ps aim) k g = absurd k
      by (task.Shape x j us ps aim) k g = absurd k
      by (task.Begin j first checks_head) k g = absurd k

  same-made : Onto s (record s { made = s.made })
  same-made = record { more = as-many (length s.made); kinded = (λ z k. k); firm = (λ z k. k) }

  calm-rest : (t : Task) (rest : List Task) → s.work ≡ t ∷ rest → (n : ℕ) → Waiting (Scoped s.made s.covers s.bound) n rest → (ls : List Line) → Each (TaskFits p s.made s.bound ls) rest
  calm-rest t rest e n w ls = waits-calm n rest w (rest-fits t rest e) s.made same-made ls

  made-more : (k : ℕ) → Onto s (record s { made = (with_new s Matched 0 (vars_of_clause p k)).made })
  made-more k = let o = new-onto s Matched 0 (vars_of_clause p k) in record { more = o.more; kinded = o.kinded; firm = o.firm }

  begun-line : (k first : ℕ) → HeadReads p s.bound s.lines k first (λ v. ⊤) → HasLine p (meaning s) k first s.lines
  begun-line k first g = (line.Rule g.atom k first, g.told, (refl, refl, g.reads (meaning s) (solved-self s.bound h.kept.triangular) tt))

  plain-on : (t : Task) (rest : List Task) → s.work ≡ t ∷ rest → Waiting (Scoped s.made s.covers s.bound) (length s.covers) (t ∷ rest) → EachState (Follows-on p s) (done p sat (record s { work = rest }) t).states
  plain-on (task.Show (flat.Call l)) rest e w =
      moved-on (task.Show (flat.Call l)) rest e (call p sat (record s { work = rest }) l).states
      (call-moves p headed (record s { work = rest }) solved clear.bindings clear.literals h.kept l (task-firm (task.Show (flat.Call l)) rest e))
  plain-on (task.Show (flat.Test c)) rest e w =
      moved-on (task.Show (flat.Test c)) rest e (show_test sat (record s { work = rest }) c).states
      (test-moves p (record s { work = rest }) solved clear.bindings h.kept c (task-fits (task.Show (flat.Test c)) rest e))
  plain-on (task.Equate t u) rest e w =
      let f = task-firm (task.Equate t u) rest e in
      moved-on (task.Equate t u) rest e (equate_terms sat (record s { work = rest }) (tm_of t) (tm_of u)).states (equate-moves p (record s { work = rest }) solved clear.bindings h.kept t u f.0 f.1)
  plain-on (task.Cover a k) rest e w =
      moved-on (task.Cover a k) rest e (covered p (record s { work = rest }) a k ∷ [])
      (cover-moves p headed (record s { work = rest }) solved clear.bindings clear.literals h.kept a k (task-fits (task.Cover a k) rest e), tt)
  plain-on (task.Check k checks_head) rest e w =
      stayed-on (check_clause p sat (record s { work = rest }) k checks_head).states (check-whole p s k checks_head rest e h
      (λ ls. waits-calm (length s.covers) rest w.1 (rest-fits (task.Check k checks_head) rest e) (with_new s Matched 0 (vars_of_clause p k)).made (made-more k) ls) (task-fits (task.Check k checks_head) rest e))
  plain-on task.Void rest e w = moved-on task.Void rest e (with_line (record s { work = rest }) line.Void ∷ []) (line-moves p (record s { work = rest }) task.Void refl h.kept line.Void (λ cs. tt), tt)
  plain-on task.Leave rest e w =
      moved-on task.Leave rest e (leave_literal (record s { work = rest }) ∷ []) (leave-moves p headed (record s { work = rest }) solved clear.bindings clear.literals h.kept, tt)
  plain-on task.Close rest e w = stayed-on (close_case p sat (record s { work = rest }) s.covers).states (close-whole p s rest e h (calm-rest task.Close rest e (length s.covers - 1) w.1))
  plain-on (task.Assume c) rest e w = absurd w.0
  plain-on (task.Differ ps aim) rest e w = absurd w.0
  plain-on (task.Become x t ps aim) rest e w = absurd w.0
  plain-on (task.Avoid x q ps aim) rest e w = absurd w.0
  plain-on (task.Shape x f us ps aim) rest e w = absurd w.0
  plain-on (task.Begin k first checks_head) rest e w = absurd w.0

  assumed-on : (c : Con) (rest : List Task) → s.work ≡ task.Assume c ∷ rest → EachState (Follows-on p s) (assume sat (record s { work = rest }) c).states
  assumed-on c rest e =
      let f = task-fits (task.Assume c) rest e in
      moved-on (task.Assume c) rest e (assume sat (record s { work = rest }) c).states (assume-moves p (record s { work = rest }) solved clear.bindings h.kept c f.0 f.1)

  become-on : (x : ℕ) (t : Term) (ps : List Pair) (aim : Aim) (rest : List Task) → s.work ≡ task.Become x t ps aim ∷ rest → is_bound_in s.bound x ≡ false → BecomesScoped s.made s.covers s.bound (length s.covers) x t
      → EachState (Follows-on p s) (same_value sat (record s { work = rest }) x (tm_of t) ps aim).states
  become-on x (Var y) ps aim rest e a b =
      let f = task-fits (task.Become x (Var y) ps aim) rest e in
      moved-on (task.Become x (Var y) ps aim) rest e (same_value sat (record s { work = rest }) x (var y) ps aim).states
      (become-moves p (record s { work = rest }) solved clear.bindings h.kept x (Var y) ps aim (found-of s x f.0 a) (found-of s y f.1 b.0.1) b.1 tt f.2 f.3)
  become-on x (Num v) ps aim rest e a b =
      let f = task-fits (task.Become x (Num v) ps aim) rest e in
      moved-on (task.Become x (Num v) ps aim) rest e (same_value sat (record s { work = rest }) x (num v) ps aim).states
      (become-moves p (record s { work = rest }) solved clear.bindings h.kept x (Num v) ps aim (found-of s x f.0 a) tt tt tt f.2 f.3)
  become-on x (App g ts) ps aim rest e a b = absurd b

  step-on : (ts : List Task) → s.work ≡ ts → Front p s.made s.covers s.bound (length s.covers) ts → EachState (Follows-on p s) (step_at p sat s ts).states
  step-on _ e (plain [] w) = tt
  step-on _ e (plain (t ∷ ts) w) = plain-on t ts e w
  step-on _ e (assumes c ts n a w) = assumed-on c ts e
  step-on _ e (numbers x q ps aim ts a pf af w) = assumed-on (con.Num (Var x)) (task.Avoid x q ps aim ∷ ts) e
  step-on _ e (differs ps aim ts pf af w) =
      moved-on (task.Differ ps aim) ts e (differ_terms sat (record s { work = ts }) ps aim).states
      (differ-moves p (record s { work = ts }) solved clear.bindings h.kept ps aim (task-firm (task.Differ ps aim) ts e).0
      (λ k first g z l m. ap is_kind_matched (subst (AimScoped p s.made s.covers s.bound (length s.covers)) g af z l m).1) (task-fits (task.Differ ps aim) ts e).0 (task-fits (task.Differ ps aim) ts e).1)
  step-on _ e (becomes x t ps aim ts a b pf af w) = become-on x t ps aim ts e a.1 b
  step-on _ e (avoids x q ps aim ts a pf af w) =
      let f = task-fits (task.Avoid x q ps aim) ts e in
      moved-on (task.Avoid x q ps aim) ts e (differ_value sat (record s { work = ts }) x q ps aim).states (avoid-moves p (record s { work = ts }) solved clear.bindings h.kept x q ps aim f.0 f.1 f.2)
  step-on _ e (shapes x g us ps aim ts a b pf af w) =
      let f = task-fits (task.Shape x g us ps aim) ts e in
      moved-on (task.Shape x g us ps aim) ts e (same_shape sat (record s { work = ts }) x g us ps aim).states
      (name-moves p (record s { work = ts }) solved clear.bindings h.kept x g us ps aim (found-of s x f.0 a.1) f.1 f.2)
  step-on _ e (begins k first checks_head ts heads w) =
      stayed-on (begin_cases p sat (record s { work = ts }) k first checks_head).states
      (begin-whole p s (task.Begin k first checks_head) ts e refl h (calm-rest (task.Begin k first checks_head) ts e (length s.covers) w) k first checks_head (task-fits (task.Begin k first checks_head) ts e).0
      (begun-line k first (task-fits (task.Begin k first checks_head) ts e).1) (task-firm (task.Begin k first checks_head) ts e))

-- ---- all steps

module _ (p : Problem) (q : Query) (is : IsHeaded p q) where
  pub parts-of : (list_all is_headed p.program.clauses ≡ true) × (list_all (λ i. nat_eq (vars_of_clause p.program i.clause) 0) p.checks ≡ true)
  parts-of = and_parts (list_all is_headed p.program.clauses) (list_all (λ i. nat_eq (vars_of_clause p.program i.clause) 0) p.checks) is.program

  first-firm : (z : ℕ) → z < length q.names → Firm (start q p.checks) z
  first-firm z l =
      let long : length (start q p.checks).made ≡ 0 + length q.names = new-length nothing Existential 0 (length q.names) in
      let k : Kinded (with_new nothing Existential 0 (length q.names)) z = (new-makes nothing Existential 0 (length q.names) refl).fresh z (omega arith) (omega (arith, l, long)) in
      (k.0, inl k.1)

  begun-whole : Whole p.program (start q p.checks)
  begun-whole = record {
    kept = record {
      even = even-new nothing Existential 0 (length q.names) refl (record { kinds = tt; settled = record { sorted = typed refl; bare = tt } });
      triangular = tt;
      met = record { by = record { of = λ x. app 0 nil; ground = λ x. refl }; meets = refl };
      firm = tt;
    };
    covers = tt;
    named = tt;
    work = Each-append (TaskFits p.program (start q p.checks).made [] []) (map task.Show (flat_body q.body)) (map (λ i. task.Check i.clause i.head) p.checks)
        (Each-mapped (TaskFits p.program (start q p.checks).made [] []) task.Show (flat_body q.body)
        (Each-map (ItemOf (λ y. y < length q.names)) (ItemOf (Firm (start q p.checks))) (λ i k. item-of-weaker (λ y. y < length q.names) (Firm (start q p.checks)) first-firm i k) (flat_body q.body) (query-tests q is.query)))
        (Each-mapped (TaskFits p.program (start q p.checks).made [] []) (λ i. task.Check i.clause i.head) p.checks
        (Each-from_test (λ (i : CheckItem). nat_eq (vars_of_clause p.program i.clause) 0) (λ i. vars_of_clause p.program i.clause ≡ 0) (λ i e. eqb-true (vars_of_clause p.program i.clause) 0 e) p.checks parts-of.1));
    lines = tt;
    before = tt;
  }

  next-on : (t : State) → IsReachable p q t → Whole p.program t → EachState (Follows-on p.program t) ((search_for p q).next t)
  next-on t f h =
      subst (λ (test : List Con → Bool). EachState (Follows-on p.program t) (step p.program test t).states) (sym is.test)
      (step-on p.program parts-of.0 t k.neat.orderly.held.solved k.neat.clear k.neat.work h t.work refl k.owning.front)
    where
      k : Known p q is.query t
      k = known p q is.query t f

  pub whole : (s : State) → IsReachable p q s → Whole p.program s
  whole _ itself = begun-whole
  whole _ (after t u f i) = (each-state (Follows-on p.program t) ((search_for p q).next t) u (next-on t f (whole t f)) i).0

  pub goes-on : (s t : State) → IsReachable p q s → Contains ((search_for p q).next s) t → IsLater s t
  goes-on s t f i = (each-state (Follows-on p.program s) ((search_for p q).next s) t (next-on s f (whole s f)) i).1

  -- ---- what the laws say

  quiet-made : (s : State) → Whole p.program s → has_universal_made s ≡ false
  quiet-made s h = list_any-none_from (λ (m : Made). is_kind_universal m.kind) s.made (λ m i. Each-member Tame s.made m h.kept.even.kinds i)

  covers-alone : (s : State) (cs : List Cover) → Each Bare cs → Each (CoverFits p.program s.bound) cs → Each (λ c. Each (Tells (promised s)) c.before) cs → Each (IsAlone p.program s) cs
  covers-alone s [] a b c = tt
  covers-alone s (o ∷ os) a b c = (
    record {
      universals = b.0.0;
      region = a.0.0;
      waiting = a.0.1;
      bound = b.0.1;
      head = b.0.2;
      before = Each-map (Tells (promised s)) (LineHolds (promised s)) (λ l k. tells-hold (promised s) l k) o.before c.0;
    },
    covers-alone s os a.1 b.1 c.1,
  )

  pub calm : (s : State) → IsReachable p q s → Calm p.program s
  calm s f =
      let h = whole s f in
      record {
        no_universal = quiet-made s h;
        covers = covers-alone s s.covers h.kept.even.settled.bare h.covers h.before;
        named = h.named;
        triangular = h.kept.triangular;
        sorted = h.kept.even.settled.sorted;
        met = h.kept.met;
        lines = Each-map (Tells (promised s)) (LineHolds (promised s)) (λ l k. tells-hold (promised s) l k) s.lines h.lines;
      }

  pub shown-there : (s : State) → IsReachable p q s → s.work ≡ [] → Each (LineHolds (holds_of s)) s.lines
  shown-there s f e =
      Each-map (Tells (promised s)) (LineHolds (holds_of s))
      (λ l k. tells-hold (holds_of s) l (tells-more (promised s) (holds_of s) (λ v m. join-all (holds v.of) (holds_of s) (left_of s.work) m (subst (λ (ts : List Task). Meets v.of (left_of ts)) (sym e) refl)) l k)) s.lines (whole s f).lines

  comes-plainly : (s : State) → IsReachable p q s → ComesPlainly p q s
  comes-plainly _ itself = at_start
  comes-plainly _ (after t u f i) = goes_on t u (comes-plainly t f) (quiet-made t (whole t f)) i

  pub decided : (s : State) → IsReachable p q s → Each (λ cs. p.sat cs ≡ true ↔ Sat cs) (asked_next p s)
  decided s f = asked-decided p q is.query is.test s (comes-plainly s f) (quiet-made s (whole s f))
