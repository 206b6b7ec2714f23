-- Each step asks sorted lists and keeps rows whose variables are tested, unless a row that is shown cannot be replaced.
use Rattle.std.specs.Prelude.{◌≡◌, ◌⊎◌, ℕ, suc, nat_eq, Bool, true, false, ◌&&◌, not, if◌then◌else◌, Option, Some, None, List, [], ◌∷◌, ◌++◌, drop, length, map, filter, replicate, ⊤}
use Rattle.std.specs.List.{Contains}
use Rattle.std.proofs.Common.{refl, arith, ap, sym, subst, ◌∙◌, inl, inr}
use Rattle.std.proofs.lemmas.Bool.{true≢false, cases_Bool, or_cases, or_left, or_right, eqb-true, eq-eqb, not-true}
use Rattle.std.proofs.lemmas.List.{append-nil, append_assoc}
use Rattle.std.proofs.lemmas.List.Elements.{Contains-append_left}
use Rattle.scasp_list.specs.Each.{Each}
use Rattle.scasp_list.proofs.EachLemmas.{Each-append}
use Rattle.scasp_list.proofs.MemberLemmas.{list_any-member}
use Rattle.scasp_num.specs.declared.linear.Coeff.{Coeff}
use Rattle.scasp_search_rules.specs.declared.states.covers.Cover.{Cover}
use Rattle.scasp_search_rules.specs.declared.states.covers.Remainder.{Remainder}
use Rattle.scasp_search_rules.specs.declared.states.lines.Line.{Line}
use Rattle.scasp_search_rules.specs.declared.states.lines.Line.TheVariants as line
use Rattle.scasp_search_rules.specs.declared.states.outcomes.Repeated.{Repeated}
use Rattle.scasp_search_rules.specs.declared.states.state.Kind.{Kind}
use Rattle.scasp_search_rules.specs.declared.states.state.Kind.TheVariants.{Existential, Matched}
use Rattle.scasp_search_rules.specs.declared.states.state.Literal.{Literal}
use Rattle.scasp_search_rules.specs.declared.states.state.Made.{Made}
use Rattle.scasp_search_rules.specs.declared.states.state.State.{State}
use Rattle.scasp_search_rules.specs.declared.states.tasks.Aim.TheVariants as aims
use Rattle.scasp_search_rules.specs.declared.states.tasks.Task.{Task}
use Rattle.scasp_search_rules.specs.declared.states.tasks.Task.TheVariants as task
use Rattle.scasp_search_rules.specs.Successors.Assumptions.{assume, assume_all}
use Rattle.scasp_search_rules.specs.Successors.Calls.{ancestors, at_number, by_no_rule, by_rule, call, can_be_seen, covered, differing, entered, finished, head_args, judged, leave_literal, left, looped, marked, moved, nearest, opposites, unrepeated, vars_of_clause}
use Rattle.scasp_search_rules.specs.Successors.Cases.{after_case, begin_cases, cases_of, cases_where, check_clause, close_case, cover_for, ended_case, failing_at, head_call, leaf_at, remainder_of, remaining, replaced_now, taken_up, unbound, unbound_of, universals_at, with_cover, with_head, with_items}
use Rattle.scasp_search_rules.specs.Successors.Differences.{differ_terms, differ_value, same_shape, same_value}
use Rattle.scasp_search_rules.specs.Successors.Equations.{equate_terms, equations}
use Rattle.scasp_search_rules.specs.Successors.Falls.{EachState}
use Rattle.scasp_search_rules.specs.Successors.Items.{body_of, number_tests, test_item, with_line}
use Rattle.scasp_search_rules.specs.Successors.Pairs.{pairs}
use Rattle.scasp_search_rules.specs.Successors.Reading.{among, count_from, term_under}
use Rattle.scasp_search_rules.specs.Successors.Regions.{asked_with, before, context}
use Rattle.scasp_search_rules.specs.Successors.Replacing.{is_unreplaced}
use Rattle.scasp_search_rules.specs.Successors.Search.{done, step_at}
use Rattle.scasp_search_rules.specs.Successors.Splits.{is_bound_in}
use Rattle.scasp_search_rules.specs.Successors.Steps.{Step, gives, goes}
use Rattle.scasp_search_rules.specs.Successors.Variables.{is_empty, is_kind_existential, is_kind_universal, meaning, next_variable, universals_of, with_new}
use Rattle.scasp_syntax.specs.Programs.{numbered, pred_of, rules_of}
use Rattle.scasp_syntax.specs.Tm.{var}
use Rattle.scasp_syntax.specs.Values.{under}
use Rattle.scasp_syntax.specs.View.{tm_of}
use Rattle.scasp_syntax.specs.declared.atom.Atom.{Atom}
use Rattle.scasp_syntax.specs.declared.atom.Lit.{Lit}
use Rattle.scasp_syntax.specs.declared.clause.Clause.{Clause}
use Rattle.scasp_syntax.specs.declared.clause.FlatItem.{FlatItem}
use Rattle.scasp_syntax.specs.declared.clause.FlatItem.TheVariants as flat
use Rattle.scasp_syntax.specs.declared.con.Con.{Con}
use Rattle.scasp_syntax.specs.declared.con.Con.TheVariants as con
use Rattle.scasp_syntax.specs.declared.program.Program.{Program}
use Rattle.scasp_syntax.specs.declared.term.Term.{Term}
use Rattle.scasp_syntax.specs.declared.term.Term.TheVariants.{Var, Num, App}
use Rattle.scasp_unify.specs.declared.bindings.Binding.{Binding}
use Rattle.scasp_unify.proofs.Members.{Each-self}
use Rattle.scasp_hint.specs.Satisfying.{sat}
use Rattle.scasp_law_first_event.proofs.Bindings.{Solved}
use Rattle.scasp_law_first_event.proofs.Calls.{each-of}
use Rattle.scasp_law_first_event.proofs.EachStates.{each_append}
use Rattle.scasp_law_first_event.proofs.Fitting.{ItemEach}
use Rattle.scasp_law_first_event.proofs.Terms.{EachVar}
use Rattle.scasp_law_first_event.proofs.Loose.{universals-length}
use Rattle.scasp_law_no_circle.proofs.Beginning.{new-heads}
use Rattle.scasp_law_no_circle.proofs.Growing.{more-scopes}
use Rattle.scasp_law_no_circle.proofs.Meeting.{bound-there}
use Rattle.scasp_law_no_circle.proofs.Places.{universals-other, Placed}
use Rattle.scasp_law_no_circle.proofs.Scope.{Scoped, Sound}
use Rattle.scasp_law_no_circle.proofs.Scope as scope
use Rattle.scasp_law_no_circle.proofs.Sides.{count-span}
use Rattle.scasp_law_no_circle.proofs.Splitting.{among-filter}
use Rattle.scasp_law_no_circle.proofs.Tasks.{Heads, Front, plain, assumes, numbers, differs, becomes, avoids, shapes, begins, PartScoped, Waiting}
use Rattle.scasp_law_sorted.specs.Asking.{shows_unreplaced}
use Rattle.scasp_law_sorted.proofs.Bodies.{body-orderly, failing-orderly, called-orderly}
use Rattle.scasp_law_sorted.proofs.Ending.{begun-core, ended-core, taken-core}
use Rattle.scasp_law_sorted.proofs.Evenness.{Asks, asks-goes, asks-fails, asks-gives, asks-followed, asks-weaker}
use Rattle.scasp_law_sorted.proofs.Expecting.{Works, works-grow, works-before, works-known, works-shows, Known, Orderly, Quiet, grows-more, lower, needs_con, of_item, tests_con}
use Rattle.scasp_law_sorted.proofs.Judging.{CoreAt, Goes, goes-itself, goes-then, TestSorts, assume-goes, lone-new, read-sort, Sort}
use Rattle.scasp_law_sorted.proofs.Numbers.{IsNumberBy}
use Rattle.scasp_law_sorted.proofs.Rowless.{GivenPlain}
use Rattle.scasp_law_sorted.proofs.RowJudging.{AddsIf, adds-itself, adds-goes, number-shown, row-items}
use Rattle.scasp_law_sorted.proofs.RowParting.{row-parts}
use Rattle.scasp_law_sorted.proofs.Standing.{stands, Lone, Core, core-made, core-push, context-list}
use Rattle.scasp_law_sorted.proofs.Telling.{equations-quiet, equate-asks, terms-told, value-told, same-told, shaped-told}
use Rattle.scasp_law_sorted.proofs.Tested.{stays, stayed}
use Rattle.scasp_law_sorted.proofs.Turning.{Turns, goes-turns}

-- what holds of each state here
pub record Whole (s : State) : Type 0 where
  pub core : CoreAt s
  pub works : Works s.bound s.given s.covers [] s.work

pub turns-whole : (s r : State) → Works s.bound s.given s.covers [] s.work → Turns s r → Whole r
turns-whole s r w t = record { core = t.core; works = t.front (works-grow s.bound r.bound s.given r.given s.covers r.covers [] s.work t.grows w) }

-- ---- cases

module _ (p : Program) (s : State) (k : CoreAt s) (low : Works (lower s.covers s.bound) s.given (drop 1 s.covers) [] s.work) where
  closing : Works s.bound s.given s.covers [] (task.Close ∷ s.work)
  closing = ((λ x i. absurd (true≢false (sym i))), low)

  items-whole : (l : Line) (is : List FlatItem) → Orderly [] is → Whole (with_items s l is)
  items-whole l is o = record {
    core = k;
    works = subst (Works s.bound s.given s.covers []) (sym (append_assoc (map task.Show is) (task.Close ∷ []) s.work)) (works-shows s.bound s.given s.covers [] is (task.Close ∷ s.work) o closing);
  }

  called : (o : Option Clause) (first : ℕ) → Each (λ j. of_item needs_con j ≡ []) (head_call o first)
  called None first = tt
  called (Some c) first = by c.head
    where
      by : (o : Option Atom) → Each (λ j. of_item needs_con j ≡ []) (head_call (Some (record c { head = o })) first)
      by None = tt
      by (Some a) = (refl, tt)

  pub cases-whole : (c : Cover) → Asks Whole (cases_of p sat s c)
  cases-whole c = record { asked = (context-list s.made s.covers s.bound s.given k, tt); states = by (sat (asked_with s (context s))) }
    where
      body : List FlatItem
      body = body_of p c.clause c.first

      orderly : Orderly [] (body_of p c.clause c.first)
      orderly = body-orderly p c.clause c.first

      head : (is : List FlatItem) → Each (λ j. of_item needs_con j ≡ []) is → EachState Whole (with_head s (body_of p c.clause c.first) is)
      head [] h = tt
      head (i ∷ is) h = (items-whole (line.Head (suc (length body))) (body ++ i ∷ []) (called-orderly body (i ∷ []) [] orderly (h.0, tt)), tt)

      ahead : (b : Bool) → EachState Whole (if b then with_head s (body_of p c.clause c.first) (head_call (numbered p.clauses c.clause) c.first) else [])
      ahead true = head (head_call (numbered p.clauses c.clause) c.first) (called (numbered p.clauses c.clause) c.first)
      ahead false = tt

      by : (b : Bool) → EachState Whole (cases_where b p s c)
      by true =
          each_append Whole (map (leaf_at s (body_of p c.clause c.first)) (count_from 0 (length (body_of p c.clause c.first)))) _
          (each-of Whole (leaf_at s (body_of p c.clause c.first)) (λ i. items-whole (line.Leaf (suc i)) (failing_at i body) (failing-orderly i body [] orderly)) (count_from 0 (length (body_of p c.clause c.first))))
          (ahead c.checks_head)
      by false = (record { core = k; works = closing }, tt)

-- ---- a cover begins

module _ (p : Program) (s : State) (h : Sound p s.made s.covers s.bound) (k : CoreAt s) (w : Works s.bound s.given s.covers [] s.work) where
  pub begin-whole : (clause first : ℕ) (checks_head : Bool) → Heads p s.made s.covers s.bound (length s.covers) clause first → Asks Whole (begin_cases p sat s clause first checks_head)
  begin-whole clause first checks_head heads =
      cases-whole p (with_cover s c) (begun-core s.made (with_cover s c).made c s.covers s.bound s.given refl refl lone k)
      (works-grow s.bound (unbound us [] s.bound) s.given s.given s.covers s.covers [] s.work (grows-more s.bound (unbound us [] s.bound) s.given s.given s.covers stay (λ o i. i)) w) c
    where
      us : List ℕ
      us = unbound_of s first (vars_of_clause p clause)

      c : Cover
      c = cover_for p s clause first checks_head (unbound_of s first (vars_of_clause p clause))

      off : (z : ℕ) → (among z (unbound_of s first (vars_of_clause p clause)) ≡ true → ⊥) → among z (unbound_of s first (vars_of_clause p clause)) ≡ false
      off z f = by (cases_Bool (among z us))
        where
          by : (among z (unbound_of s first (vars_of_clause p clause)) ≡ true) ⊎ (among z (unbound_of s first (vars_of_clause p clause)) ≡ false) → among z (unbound_of s first (vars_of_clause p clause)) ≡ false
          by (inl e) = absurd (f e)
          by (inr e) = e

      listed : (z : ℕ) → among z (unbound_of s first (vars_of_clause p clause)) ≡ true → (among z (count_from first (vars_of_clause p clause)) ≡ true) × (is_bound_in s.bound z ≡ false)
      listed z i = let q = among-filter (λ x. not (is_bound_in s.bound x)) z (count_from first (vars_of_clause p clause)) i in (q.0, not-true (is_bound_in s.bound z) q.1)

      stay : (b : Binding) → Contains s.bound b → Contains (unbound us [] s.bound) b
      stay b i = stays us [] s.bound b i (inl (off b.x (λ e. true≢false (sym (bound-there s.bound b b.x i refl) ∙ (listed b.x e).1))))

      lone : (z : ℕ) → Lone s.made z → Lone (universals_at (suc (length s.covers)) us s.made) z
      lone z l = (
        (let n = universals-length (suc (length s.covers)) us s.made in let m = l.0 in omega (arith, n, m)),
        ap (λ (m : Made). m.kind) (universals-other (suc (length s.covers)) us s.made z (off z none)) ∙ l.1,
      )
        where
          none : among z (unbound_of s first (vars_of_clause p clause)) ≡ true → ⊥
          none e =
              let m = count-span first (vars_of_clause p clause) z (listed z e).0 in
              true≢false (sym (ap is_kind_existential l.1) ∙ ap is_kind_existential (heads z m.0 m.1).1)

-- ---- the end of a case

module _ (p : Program) (s : State) (h : Sound p s.made s.covers s.bound) (solved : Solved (length s.made) s.bound) (k : CoreAt s) (low : Works (lower s.covers s.bound) s.given (drop 1 s.covers) [] s.work) where
  module _ (c : Cover) (cs : List Cover) (e : s.covers ≡ c ∷ cs) where
    sound : Sound p s.made (c ∷ cs) s.bound
    sound = subst (λ (os : List Cover). Sound p s.made os s.bound) e h

    core : Core s.made (c ∷ cs) s.bound s.given
    core = subst (λ (os : List Cover). Core s.made os s.bound s.given) e k

    below : Works (unbound c.universals [] s.bound) s.given cs [] s.work
    below = subst (λ (os : List Cover). Works (lower os s.bound) s.given (drop 1 os) [] s.work) e low

    ended-whole : Whole (record (ended_case s c []) { covers = cs })
    ended-whole = record { core = ended-core p s.made c cs s.bound s.given sound core []; works = below }

    taken-whole : (r : Remainder) (rs : List Remainder) → c.waiting ≡ r ∷ rs → Asks Whole (remainder_of p sat (ended_case s c r.replaced) (remaining c r rs (ended_case s c r.replaced).cases (ended_case s c r.replaced).lines) r cs)
    taken-whole r rs f = by r.equation refl wait.equation
      where
        t : State
        t = ended_case s c r.replaced

        a : Cover
        a = remaining c r rs (ended_case s c r.replaced).cases (ended_case s c r.replaced).lines

        u : State
        u = taken_up (ended_case s c r.replaced) r (remaining c r rs (ended_case s c r.replaced).cases (ended_case s c r.replaced).lines) cs

        fewer : List Binding
        fewer = unbound c.universals r.replaced s.bound

        wait : scope.Waits p s.made (c ∷ cs) s.bound c.depth c.clause c.first c.universals r
        wait = (subst (Each (scope.Waits p s.made (c ∷ cs) s.bound c.depth c.clause c.first c.universals)) f sound.covers.0.waiting).0

        now : Core s.made (remaining c r rs (ended_case s c r.replaced).cases (ended_case s c r.replaced).lines ∷ cs) (unbound c.universals r.replaced s.bound) s.given
        now = taken-core p s.made c cs s.bound s.given sound core r rs f a refl refl refl

        -- a variable that waits to be replaced is free then
        free : (z : ℕ) → among z r.universals ≡ true → among z r.replaced ≡ false → is_bound_in (unbound c.universals r.replaced s.bound) z ≡ false
        free z i n = at (cases_Bool (is_bound_in fewer z))
          where
            none : (b : Binding) → Contains s.bound b → b.x ≡ z → (among b.x c.universals ≡ false) ⊎ (among b.x r.replaced ≡ true) → ⊥
            none b j same (inl g) = true≢false (sym (bound-there s.bound b z j same) ∙ wait.hidden z i (ap (λ (y : ℕ). among y c.universals) (sym same) ∙ g))
            none b j same (inr g) = true≢false (sym g ∙ ap (λ (y : ℕ). among y r.replaced) same ∙ n)

            at : (is_bound_in (unbound c.universals r.replaced s.bound) z ≡ true) ⊎ (is_bound_in (unbound c.universals r.replaced s.bound) z ≡ false) → is_bound_in (unbound c.universals r.replaced s.bound) z ≡ false
            at (inr g) = g
            at (inl g) =
                let m = list_any-member (λ (b : Binding). nat_eq b.x z) fewer g in
                let o = stayed c.universals r.replaced s.bound m.0 m.1 in
                absurd (none m.0 o.0 (eqb-true m.0.x z m.2) o.1)

        -- the bindings that are left below
        kept : (bs : List Binding) → ((b : Binding) → Contains fewer b → Contains bs b) → (b : Binding) → Contains (unbound c.universals [] s.bound) b → Contains (unbound r.universals [] bs) b
        kept bs g b i = let o = stayed c.universals [] s.bound b i in at o.0 o.1
          where
            off : Contains s.bound b → among b.x c.universals ≡ false → (among b.x r.universals ≡ true) ⊎ (among b.x r.universals ≡ false) → among b.x r.universals ≡ false
            off j n (inr m) = m
            off j n (inl m) = absurd (true≢false (sym (bound-there s.bound b b.x j refl) ∙ wait.hidden b.x m n))

            at : Contains s.bound b → (among b.x c.universals ≡ false) ⊎ (among b.x [] ≡ true) → Contains (unbound r.universals [] bs) b
            at j (inl n) = stays r.universals [] bs b (g b (stays c.universals r.replaced s.bound b j (inl n))) (inl (off j n (cases_Bool (among b.x r.universals))))
            at j (inr n) = absurd (true≢false (sym n))

        whole : (bs : List Binding) → u.bound ≡ bs → ((b : Binding) → Contains fewer b → Contains bs b) → Core s.made (a ∷ cs) bs s.given → Asks Whole (cases_of p sat u a)
        whole bs same g m =
            cases-whole p u (subst (λ (os : List Binding). Core s.made (a ∷ cs) os s.given) (sym same) m)
            (subst (λ (os : List Binding). Works (unbound r.universals [] os) s.given cs [] s.work) (sym same)
            (works-grow (unbound c.universals [] s.bound) (unbound r.universals [] bs) s.given s.given cs cs [] s.work
            (grows-more (unbound c.universals [] s.bound) (unbound r.universals [] bs) s.given s.given cs (kept bs g) (λ o i. i)) below)) a

        by : (o : Option Binding) → r.equation ≡ o → scope.Equates s.made (c ∷ cs) s.bound c.depth r r.equation → Asks Whole (cases_of p sat u a)
        by None g q = whole fewer (ap (λ (o : Option Binding). t.bound ++ replaced_now t o) g ∙ append-nil t.bound) (λ b i. i) now
        by (Some d) g q =
            let m : scope.Equates s.made (c ∷ cs) s.bound c.depth r (Some d) = subst (scope.Equates s.made (c ∷ cs) s.bound c.depth r) g q in
            let b : Binding = record { x = d.x; term = term_under (meaning t) d.term } in
            let loose : is_bound_in fewer d.x ≡ false = free d.x m.0 m.1 in
            whole (fewer ++ b ∷ []) (ap (λ (o : Option Binding). t.bound ++ replaced_now t o) g) (λ o i. Contains-append_left fewer (b ∷ []) o i)
            (core-push s.made (a ∷ cs) fewer s.given now b loose
            (λ y i v. absurd (true≢false (sym (ap is_kind_universal (wait.owned d.x m.0).1) ∙ ap is_kind_universal (now.lone d.x v).1))))

    waiting-whole : (rs : List Remainder) → c.waiting ≡ rs → Asks Whole (after_case p sat s c cs rs)
    waiting-whole [] f = asks-goes Whole (record (ended_case s c []) { covers = cs }) ended-whole
    waiting-whole (r ∷ rs) f = taken-whole r rs f

  pub close-whole : Asks Whole (close_case p sat s s.covers)
  close-whole = by s.covers refl
    where
      by : (os : List Cover) → s.covers ≡ os → Asks Whole (close_case p sat s os)
      by [] e = asks-fails Whole
      by (c ∷ cs) e = waiting-whole c cs e c.waiting refl

-- ---- calls

works-three : (bs : List Binding) (gs : List Con) (cs : List Cover) (fs es ds us : List Task) → Works bs gs cs [] (fs ++ (es ++ (ds ++ us))) → Works bs gs cs [] (((fs ++ es) ++ ds) ++ us)
works-three bs gs cs fs es ds us w = subst (Works bs gs cs []) (sym (append_assoc (fs ++ es) ds us ∙ append_assoc fs es (ds ++ us))) w

module _ (p : Program) (s : State) (k : CoreAt s) (w : Works s.bound s.given s.covers [] s.work) where
  marked-whole : (bs : List Literal) (xs : List Literal) → Whole (marked bs (record s { literals = xs }))
  marked-whole [] xs = record { core = k; works = w }
  marked-whole (a ∷ bs) xs = record { core = k; works = w }

  moved-whole : (a : Literal) (bs : List Literal) (xs : List Literal) → Whole (moved a bs (record s { literals = xs }))
  moved-whole a [] xs = record { core = k; works = w }
  moved-whole a (c ∷ cs) xs = by (a.loops && a.lit.positive && c.lit.positive)
    where
      by : (d : Bool) → Whole (if d then marked (c ∷ cs) (record s { literals = xs }) else record s { literals = xs })
      by true = marked-whole (c ∷ cs) xs
      by false = record { core = k; works = w }

  pub left-whole : (bs : List Literal) → Whole (left bs s)
  left-whole [] = record { core = k; works = w }
  left-whole (a ∷ bs) = moved-whole a bs (at_number a.number finished s.literals)

  looped-whole : (l : Lit) (r : Repeated) → EachState Whole (looped s l r)
  looped-whole l r = by l.positive r.is_behind_negation
    where
      marks : (bs : List Literal) → Whole (marked bs (with_line s (line.Loop l r.number)))
      marks [] = record { core = k; works = w }
      marks (a ∷ bs) = record { core = k; works = w }

      by : (c d : Bool) → EachState Whole (if not c then with_line s (line.Loop l r.number) ∷ [] else (if d then marked (ancestors s) (with_line s (line.Loop l r.number)) ∷ [] else []))
      by false d = (record { core = k; works = w }, tt)
      by true true = (marks (ancestors s), tt)
      by true false = tt

  pub wider : (kind : Kind) (d n : ℕ) → Core (with_new s kind d n).made s.covers s.bound s.given
  wider kind d n = core-made s.made s.covers s.bound s.given k (with_new s kind d n).made (λ y l. lone-new s.made (replicate n (record { kind = kind; depth = d })) y l)

  rule-whole : (l : Lit) (rule : ℕ) → Whole (by_rule p s l rule)
  rule-whole l rule = record {
    core = wider Existential (length s.covers) (vars_of_clause p rule);
    works = works-three s.bound s.given s.covers (equations l.atom.args (head_args p rule (length s.made))) (map task.Show (body_of p rule (length s.made))) (task.Leave ∷ []) s.work
        (works-before s.bound s.given s.covers [] (equations l.atom.args (head_args p rule (length s.made))) _ (equations-quiet (pairs l.atom.args (head_args p rule (length s.made))))
        (works-shows s.bound s.given s.covers [] (body_of p rule (length s.made)) (task.Leave ∷ s.work) (body-orderly p rule (length s.made)) (works-before s.bound s.given s.covers [] (task.Leave ∷ []) s.work ((refl, refl), tt) w)));
  }

  covers-quiet : (a : Atom) (rules : List ℕ) → Each Quiet (map (task.Cover a) rules)
  covers-quiet a [] = tt
  covers-quiet a (r ∷ rules) = ((refl, refl), covers-quiet a rules)

  no_rule-whole : (l : Lit) → Whole (by_no_rule p s l)
  no_rule-whole l = record {
    core = k;
    works = works-before s.bound s.given s.covers [] (map (task.Cover l.atom) (rules_of p (pred_of l.atom)) ++ task.Leave ∷ []) s.work
        (Each-append Quiet (map (task.Cover l.atom) (rules_of p (pred_of l.atom))) (task.Leave ∷ []) (covers-quiet l.atom (rules_of p (pred_of l.atom))) ((refl, refl), tt)) w;
  }

  entered-whole : (l : Lit) → EachState Whole (entered p s l)
  entered-whole l = by l.positive
    where
      by : (c : Bool) → EachState Whole (if c then map (by_rule p s l) (rules_of p (pred_of l.atom)) else by_no_rule p s l ∷ [])
      by true = each-of Whole (by_rule p s l) (rule-whole l) (rules_of p (pred_of l.atom))
      by false = (no_rule-whole l, tt)

  pub covered-whole : (a : Atom) (rule : ℕ) → Whole (covered p s a rule)
  covered-whole a rule = record {
    core = wider Matched 0 (vars_of_clause p rule);
    works = works-before s.bound s.given s.covers [] (task.Differ (pairs a.args (head_args p rule (length s.made))) (aims.Head rule (length s.made)) ∷ []) s.work ((refl, refl), tt) w;
  }

goes-whole : (s r : State) → Works s.bound s.given s.covers [] s.work → Goes s r → Whole r
goes-whole s r w g = turns-whole s r w (goes-turns s r g)

-- a disequation of terms
abbrev IsDifference : Con → Type 0
IsDifference (con.Neq t u) = ⊤
IsDifference (con.Eq t u) = ⊥
IsDifference (con.NotShape x f m) = ⊥
IsDifference (con.Num t) = ⊥
IsDifference (con.NotNum t) = ⊥
IsDifference (con.Row r) = ⊥

-- disequations that are assumed
all-goes : (cs : List Con) → Each (λ c. IsDifference c) cs → (s : State) → Placed s.covers → CoreAt s → Asks (Goes s) (assume_all sat cs s)
all-goes [] n s h k = asks-goes (Goes s) s (goes-itself s h k)
all-goes (con.Neq t u ∷ cs) n s h k =
    asks-followed (Goes s) (Goes s) (assume sat s (con.Neq t u)) (assume_all sat cs) (assume-goes s h k (con.Neq t u) tt tt)
    (λ r g. asks-weaker (Goes r) (Goes s) (assume_all sat cs r) (λ t m. goes-then s r t g m) (all-goes cs n.1 r g.placed g.core))
all-goes (con.Eq t u ∷ cs) n s h k = absurd n.0
all-goes (con.NotShape x f m ∷ cs) n s h k = absurd n.0
all-goes (con.Num t ∷ cs) n s h k = absurd n.0
all-goes (con.NotNum t ∷ cs) n s h k = absurd n.0
all-goes (con.Row r ∷ cs) n s h k = absurd n.0

differings : (l : Lit) (ls : List Literal) → Each (λ c. IsDifference c) (map (differing l) ls)
differings l [] = tt
differings l (a ∷ ls) = (tt, differings l ls)

call-whole : (p : Program) (s : State) → Sound p s.made s.covers s.bound → CoreAt s → Works s.bound s.given s.covers [] s.work → (l : Lit) → Asks Whole (call p sat s l)
call-whole p s h k w l = by (nearest s l false (ancestors s))
  where
    fresh : (ls : List Literal) → Asks Whole (unrepeated p sat s l ls)
    fresh [] =
        asks-followed Whole Whole (assume_all sat (map (differing l) (opposites s l)) s) (λ t. gives (entered p t l))
        (asks-weaker (Goes s) Whole (assume_all sat (map (differing l) (opposites s l)) s) (λ r g. goes-whole s r w g) (all-goes (map (differing l) (opposites s l)) (differings l (opposites s l)) s h.placed k))
        (λ t m. asks-gives Whole (entered p t l) (entered-whole p t m.core m.works l))
    fresh (a ∷ ls) = asks-goes Whole (with_line s (line.Seen l a.number)) (record { core = k; works = w })

    by : (o : Option Repeated) → Asks Whole (judged p sat s l o)
    by (Some r) = asks-gives Whole (looped s l r) (looped-whole p s k w l r)
    by None = fresh (filter (can_be_seen s l) s.literals)

-- ---- tests

module _ (p : Program) (s : State) (h : Sound p s.made s.covers s.bound) (solved : Solved (length s.made) s.bound) (k : CoreAt s) where
  -- what the term of a number test reads to
  term-sorts : (t : Term) → EachVar (Scoped s.made s.covers s.bound (length s.covers)) (tm_of t) → (z : ℕ) → under (meaning s) (tm_of t) ≡ var z → Sort s z
  term-sorts (Var x) m z e = read-sort s solved (length s.covers) x z m e
  term-sorts (Num q) m z e = absurd (cc e)
  term-sorts (App f ts) m z e = absurd (cc e)

  -- the state behind the test, unless the test is a row that cannot be replaced
  abbrev Behind : Con → State → Type 0
  Behind c r = is_unreplaced (meaning s) c ≡ false → Whole r

  -- a constraint that is no row
  pub plain-whole : (c : Con) → GivenPlain c → TestSorts s h.placed k c → Works s.bound s.given s.covers [] s.work → Asks (Behind c) (assume sat s c)
  plain-whole c n t w = asks-weaker (Goes s) (Behind c) (assume sat s c) (λ r g e. goes-whole s r w g) (assume-goes s h.placed k c n t)

  test-whole : (c : Con) → ItemEach (Scoped s.made s.covers s.bound (length s.covers)) (flat.Test c) → ((x : ℕ) → among x (needs_con c) ≡ true → IsNumberBy s.bound (stands s.given s.covers) x)
      → Works s.bound s.given s.covers (tests_con c ++ []) s.work → Asks (λ r. is_unreplaced (meaning s) c ≡ false → Whole r) (test_item sat s c)
  test-whole (con.Eq t u) b n w = asks-goes (Behind (con.Eq t u)) (before (task.Equate t u ∷ []) s) (λ e. record { core = k; works = works-before s.bound s.given s.covers [] (task.Equate t u ∷ []) s.work ((refl, refl), tt) w })
  test-whole (con.Neq t u) b n w = by (is_empty (universals_of s (con.Neq t u)))
    where
      by : (c : Bool) → Asks (Behind (con.Neq t u)) (if c then assume sat s (con.Neq t u) else goes (before (task.Differ (record { left = t; right = u } ∷ []) aims.Test ∷ []) s))
      by true = plain-whole (con.Neq t u) tt tt w
      by false =
          asks-goes (Behind (con.Neq t u)) (before (task.Differ (record { left = t; right = u } ∷ []) aims.Test ∷ []) s)
          (λ e. record { core = k; works = works-before s.bound s.given s.covers [] (task.Differ (record { left = t; right = u } ∷ []) aims.Test ∷ []) s.work ((refl, refl), tt) w })
  test-whole (con.NotShape x f m) b n w = plain-whole (con.NotShape x f m) tt tt w
  test-whole (con.NotNum t) b n w = plain-whole (con.NotNum t) tt (term-sorts t b.1) w
  test-whole (con.Num (Var x)) b n w =
      asks-weaker (λ r. Goes s r × IsNumberBy r.bound (stands r.given r.covers) x) (Behind (con.Num (Var x))) (assume sat s (con.Num (Var x))) (λ r g e. one r g) (number-shown s h.placed solved k x b.1)
    where
      one : (r : State) → Goes s r × IsNumberBy r.bound (stands r.given r.covers) x → Whole r
      one r g = record {
        core = g.0.core;
        works = subst (Works r.bound r.given r.covers []) (sym g.0.work)
            (works-known r.bound r.given r.covers (x ∷ []) [] known s.work (works-grow s.bound r.bound s.given r.given s.covers r.covers (x ∷ []) s.work g.0.grows w));
      }
        where
          known : (y : ℕ) → among y (x ∷ []) ≡ true → Known r.bound r.given r.covers [] y
          known y i = at (or_cases (nat_eq y x) false i)
            where
              at : (nat_eq y x ≡ true) ⊎ (false ≡ true) → Known r.bound r.given r.covers [] y
              at (inl f) = inr (subst (IsNumberBy r.bound (stands r.given r.covers)) (sym (eqb-true y x f)) g.1)
              at (inr f) = absurd (true≢false (sym f))
  test-whole (con.Num (Num q)) b n w = plain-whole (con.Num (Num q)) tt (λ z f. absurd (cc f)) w
  test-whole (con.Num (App f ts)) b n w = plain-whole (con.Num (App f ts)) tt (λ z g. absurd (cc g)) w
  test-whole (con.Row r) b n w = by (is_empty (universals_of s (con.Row r))) refl
    where
      listed : (ks : List Coeff) → ((x : ℕ) → among x (map (λ k. k.x) ks) ≡ true → IsNumberBy s.bound (stands s.given s.covers) x) → Each (λ k. IsNumberBy s.bound (stands s.given s.covers) k.x) ks
      listed [] f = tt
      listed (k ∷ ks) f = (f k.x (or_left (nat_eq k.x k.x) (among k.x (map (λ k. k.x) ks)) (eq-eqb k.x k.x refl)), listed ks (λ x i. f x (or_right (nat_eq x k.x) (among x (map (λ k. k.x) ks)) i)))

      by : (c : Bool) → is_empty (universals_of s (con.Row r)) ≡ c → Asks (Behind (con.Row r)) (if c then assume_all sat (number_tests r ++ con.Row r ∷ []) s else assume sat s (con.Row r))
      by true q =
          asks-weaker (AddsIf s r) (Behind (con.Row r)) (assume_all sat (number_tests r ++ con.Row r ∷ []) s) (λ t a e. goes-whole s t w (adds-goes s t h.placed (a e)))
          (row-items s h.placed solved r q b.1 r.coeffs (Each-self r.coeffs) s (adds-itself s k) (λ j i. inl i))
      by false q = asks-weaker (λ t. is_unreplaced (meaning s) (con.Row r) ≡ false → Goes s t) (Behind (con.Row r)) (assume sat s (con.Row r)) (λ t g e. goes-whole s t w (g e)) (row-parts s h.placed solved k r q (listed r.coeffs n) b.1)

-- ---- steps

module _ (p : Program) (s : State) (h : Sound p s.made s.covers s.bound) (solved : Solved (length s.made) s.bound) (k : CoreAt s) where
  -- the state behind the step
  abbrev Next : List Task → State → Type 0
  Next ts r = shows_unreplaced s ts ≡ false → Whole r

  whole-next : (ts : List Task) (t : Step) → Asks Whole t → Asks (Next ts) t
  whole-next ts t a = asks-weaker Whole (Next ts) t (λ r m e. m) a

  -- the first of these tasks is done, the others wait
  turned : (ts : List Task) (t : Step) (rest : List Task) → Works s.bound s.given s.covers [] rest → Asks (Turns (record s { work = rest })) t → Asks (Next ts) t
  turned ts t rest w a = asks-weaker (Turns (record s { work = rest })) (Next ts) t (λ r m e. turns-whole (record s { work = rest }) r w m) a

  plain-step : (t : Task) (ts : List Task) → Waiting (Scoped s.made s.covers s.bound) (length s.covers) (t ∷ ts) → Works s.bound s.given s.covers [] (t ∷ ts) → Asks (Next (t ∷ ts)) (done p sat (record s { work = ts }) t)
  plain-step (task.Show (flat.Call l)) ts f w = whole-next (task.Show (flat.Call l) ∷ ts) (call p sat (record s { work = ts }) l) (call-whole p (record s { work = ts }) h k w.1 l)
  plain-step (task.Show (flat.Test c)) ts f w = test-whole p (with_line (record s { work = ts }) (line.Test c)) h solved k c f.0 (λ x i. known (w.0 x i)) w.1
    where
      known : {x : ℕ} → Known s.bound s.given s.covers [] x → IsNumberBy s.bound (stands s.given s.covers) x
      known (inl i) = absurd (true≢false (sym i))
      known (inr n) = n
  plain-step (task.Equate t u) ts f w = turned (task.Equate t u ∷ ts) (equate_terms sat (record s { work = ts }) (tm_of t) (tm_of u)) ts w.1 (equate-asks p (record s { work = ts }) h solved k t u f.0.0 f.0.1)
  plain-step (task.Assume c) ts f w = absurd f.0
  plain-step (task.Differ ps aim) ts f w = absurd f.0
  plain-step (task.Become x t ps aim) ts f w = absurd f.0
  plain-step (task.Avoid x q ps aim) ts f w = absurd f.0
  plain-step (task.Shape x g us ps aim) ts f w = absurd f.0
  plain-step (task.Cover a c) ts f w = asks-goes (Next (task.Cover a c ∷ ts)) (covered p (record s { work = ts }) a c) (λ e. covered-whole p (record s { work = ts }) k w.1 a c)
  plain-step (task.Check c checks_head) ts f w = whole-next (task.Check c checks_head ∷ ts) (check_clause p sat (record s { work = ts }) c checks_head) check
    where
      t : State
      t = with_line (with_new (record s { work = ts }) Matched 0 (vars_of_clause p c)) (line.Check c (next_variable s))

      grown : Sound p (with_new s Matched 0 (vars_of_clause p c)).made s.covers s.bound
      grown = (more-scopes p s.made s.covers s.bound h (replicate (vars_of_clause p c) (record { kind = Matched; depth = 0 }))).sound

      check : Asks Whole (check_clause p sat (record s { work = ts }) c checks_head)
      check = begin-whole p t grown (wider p (record s { work = ts }) k w.1 Matched 0 (vars_of_clause p c)) w.1 c (length s.made) checks_head (new-heads p (record s { work = ts }) h solved c)
  plain-step (task.Begin c first checks_head) ts f w = absurd f.0
  plain-step task.Void ts f w = asks-goes (Next (task.Void ∷ ts)) (with_line (record s { work = ts }) line.Void) (λ e. record { core = k; works = w.1 })
  plain-step task.Leave ts f w = asks-goes (Next (task.Leave ∷ ts)) (leave_literal (record s { work = ts })) (λ e. left-whole p (record s { work = ts }) k w.1 (ancestors (record s { work = ts })))
  plain-step task.Close ts f w = whole-next (task.Close ∷ ts) (close_case p sat (record s { work = ts }) s.covers) (close-whole p (record s { work = ts }) h solved k w.1)

  pub step-whole : (ts : List Task) → Front p s.made s.covers s.bound (length s.covers) ts → Works s.bound s.given s.covers [] ts → Asks (λ r. shows_unreplaced s ts ≡ false → Whole r) (step_at p sat s ts)
  step-whole _ (plain [] f) w = asks-fails (Next [])
  step-whole _ (plain (t ∷ ts) f) w = plain-step t ts f w
  step-whole _ (assumes c ts n a f) w = asks-weaker Whole (Next (task.Assume c ∷ ts)) (assume sat (record s { work = ts }) c) (λ r m e. m) (by c n)
    where
      by : (c : Con) → PartScoped s.made s.covers s.bound (length s.covers) c → Asks Whole (assume sat (record s { work = ts }) c)
      by (con.Neq t u) n = asks-weaker (Goes (record s { work = ts })) Whole (assume sat (record s { work = ts }) (con.Neq t u)) (λ r g. goes-whole (record s { work = ts }) r w.1 g) (assume-goes (record s { work = ts }) h.placed k (con.Neq t u) tt tt)
      by (con.NotShape x g m) n = asks-weaker (Goes (record s { work = ts })) Whole (assume sat (record s { work = ts }) (con.NotShape x g m)) (λ r g. goes-whole (record s { work = ts }) r w.1 g) (assume-goes (record s { work = ts }) h.placed k (con.NotShape x g m) tt tt)
      by (con.NotNum t) n = asks-weaker (Goes (record s { work = ts })) Whole (assume sat (record s { work = ts }) (con.NotNum t)) (λ r g. goes-whole (record s { work = ts }) r w.1 g)
          (assume-goes (record s { work = ts }) h.placed k (con.NotNum t) tt (term-sorts p (record s { work = ts }) h solved k t n))
      by (con.Eq t u) n = absurd n
      by (con.Num t) n = absurd n
      by (con.Row r) n = absurd n
  step-whole _ (numbers x q ps aim ts a pf af f) w =
      asks-weaker (Goes (record s { work = task.Avoid x q ps aim ∷ ts })) (Next (task.Assume (con.Num (Var x)) ∷ task.Avoid x q ps aim ∷ ts)) (assume sat (record s { work = task.Avoid x q ps aim ∷ ts }) (con.Num (Var x)))
      (λ r g e. goes-whole (record s { work = task.Avoid x q ps aim ∷ ts }) r w.1 g)
      (assume-goes (record s { work = task.Avoid x q ps aim ∷ ts }) h.placed k (con.Num (Var x)) tt (λ z e. read-sort s solved (length s.covers) x z a.0 e))
  step-whole _ (differs ps aim ts pf af f) w = turned (task.Differ ps aim ∷ ts) (differ_terms sat (record s { work = ts }) ps aim) ts w.1 (terms-told p (record s { work = ts }) h solved k f ps aim pf)
  step-whole _ (becomes x t ps aim ts a b pf af f) w = turned (task.Become x t ps aim ∷ ts) (same_value sat (record s { work = ts }) x (tm_of t) ps aim) ts w.1 (same-told p (record s { work = ts }) h solved k ps aim x t a b)
  step-whole _ (avoids x q ps aim ts a pf af f) w = turned (task.Avoid x q ps aim ∷ ts) (differ_value sat (record s { work = ts }) x q ps aim) ts w.1 (value-told p (record s { work = ts }) h solved k ps aim x q)
  step-whole _ (shapes x g us ps aim ts a b pf af f) w = turned (task.Shape x g us ps aim ∷ ts) (same_shape sat (record s { work = ts }) x g us ps aim) ts w.1 (shaped-told p (record s { work = ts }) h solved k ps aim x g us a.1)
  step-whole _ (begins c first checks_head ts heads f) w = whole-next (task.Begin c first checks_head ∷ ts) (begin_cases p sat (record s { work = ts }) c first checks_head) (begin-whole p (record s { work = ts }) h k w.1 c first checks_head heads)
