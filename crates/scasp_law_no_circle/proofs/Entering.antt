-- Calls and items keep what is owned, and so each step does.
use Rattle.std.specs.Prelude.{◌≡◌, ℕ, ◌+◌, ◌<◌, ◌≤◌, Bool, true, false, ◌&&◌, ◌||◌, not, if◌then◌else◌, Option, Some, None, List, [], ◌∷◌, ◌++◌, length, map, filter, replicate, ⊤}
use Rattle.std.specs.List.{list_any}
use Rattle.std.proofs.Common.{refl, arith, ap, sym, subst, ◌∙◌, inr}
use Rattle.std.proofs.lemmas.Bool.{and_parts, not-true, or_from, or_parts, true≢false}
use Rattle.std.proofs.lemmas.List.{append-nil}
use Rattle.std.proofs.lemmas.List.Folds.{list_any-append}
use Rattle.scasp_list.specs.Each.{Each}
use Rattle.scasp_list.proofs.EachLemmas.{Each-append, Each-map}
use Rattle.scasp_num.specs.declared.linear.Coeff.{Coeff}
use Rattle.scasp_search_rules.specs.declared.states.lines.Line.{Line}
use Rattle.scasp_search_rules.specs.declared.states.lines.Line.TheVariants as line
use Rattle.scasp_search_rules.specs.declared.states.outcomes.Repeated.{Repeated}
use Rattle.scasp_search_rules.specs.declared.states.state.Kind.TheVariants.{Existential}
use Rattle.scasp_search_rules.specs.declared.states.state.Literal.{Literal}
use Rattle.scasp_search_rules.specs.declared.states.state.Made.{Made}
use Rattle.scasp_search_rules.specs.declared.states.state.State.{State}
use Rattle.scasp_search_rules.specs.declared.states.tasks.Aim.TheVariants as aims
use Rattle.scasp_search_rules.specs.declared.states.tasks.Task.{Task}
use Rattle.scasp_search_rules.specs.declared.states.tasks.Task.TheVariants as task
use Rattle.scasp_search_rules.specs.Successors.Assumptions.{assume, assume_all}
use Rattle.scasp_search_rules.specs.Successors.Calls.{lit_under, nearest, ancestors, can_be_seen, is_free, is_opposite, opposites, differing, marked, looped, moved, left, at_number, finished, looping, vars_of_clause, head_args, by_rule, by_no_rule, entered, unrepeated, judged, call}
use Rattle.scasp_search_rules.specs.Successors.Equations.{equations}
use Rattle.scasp_search_rules.specs.Successors.Falls.{EachState}
use Rattle.scasp_search_rules.specs.Successors.Items.{body_of, with_line, number_tests, test_item}
use Rattle.scasp_search_rules.specs.Successors.Regions.{before}
use Rattle.scasp_search_rules.specs.Successors.Replacing.{is_close, closes}
use Rattle.scasp_search_rules.specs.Successors.Search.{step_at, done}
use Rattle.scasp_search_rules.specs.Successors.Steps.{gives, goes}
use Rattle.scasp_search_rules.specs.Successors.Variables.{has_universal, is_empty, is_universal, meaning, universals_of, with_new}
use Rattle.scasp_syntax.specs.Programs.{numbered, rules_of, pred_of}
use Rattle.scasp_syntax.specs.Same.{same_bool, same_pred}
use Rattle.scasp_syntax.specs.Tm.{Tm, Tms, nil, cons, items}
use Rattle.scasp_syntax.specs.Values.{Sub, under, all_under}
use Rattle.scasp_syntax.specs.View.{tm_of}
use Rattle.scasp_syntax.specs.declared.atom.Atom.{Atom}
use Rattle.scasp_syntax.specs.declared.atom.Lit.{Lit}
use Rattle.scasp_syntax.specs.declared.clause.FlatItem.TheVariants as flat
use Rattle.scasp_syntax.specs.declared.con.Con.{Con}
use Rattle.scasp_syntax.specs.declared.con.Con.TheVariants as con
use Rattle.scasp_syntax.specs.declared.program.Program.{Program}
use Rattle.scasp_syntax.specs.declared.term.Term.TheVariants.{Var}
use Rattle.scasp_unify.specs.SimpleForm.{list_term, term_with}
use Rattle.scasp_unify.specs.Unification.{term_vars, terms_vars}
use Rattle.scasp_unify.specs.declared.bindings.Binding.{Binding}
use Rattle.scasp_unify.proofs.SimpleLemmas.{viewed}
use Rattle.scasp_law_first_event.specs.Replaced.{innermost_inside}
use Rattle.scasp_law_first_event.proofs.Bindings.{Solved, above-unbound}
use Rattle.scasp_law_first_event.proofs.Calls.{each-of}
use Rattle.scasp_law_first_event.proofs.EachStates.{each_followed, each_weaker}
use Rattle.scasp_law_first_event.proofs.Fitting.{ConEach, ItemEach}
use Rattle.scasp_law_first_event.proofs.Keeping.{solved-more}
use Rattle.scasp_law_first_event.proofs.Moves.{new-length}
use Rattle.scasp_law_first_event.proofs.Raising.{BodyEach, Raised, raised-of}
use Rattle.scasp_law_first_event.proofs.Terms.{EachVars, each-weaker, all-weaker}
use Rattle.scasp_law_no_circle.proofs.Assuming.{Assumes, assumes-then, assumes-itself, assume-assumes, Quiet, quiet-assumes}
use Rattle.scasp_law_no_circle.proofs.Beginning.{begin-owns, cover-owns, check-owns}
use Rattle.scasp_law_no_circle.proofs.Closing.{close-owns, close-absent}
use Rattle.scasp_law_no_circle.proofs.Differing.{differ-owns, value-owns, avoid-owns, name-owns, assumed-owns, numbers-own}
use Rattle.scasp_law_no_circle.proofs.Equating.{equate-owning, equations-level}
use Rattle.scasp_law_no_circle.proofs.Growing.{more-scopes}
use Rattle.scasp_law_no_circle.proofs.Meeting.{met-free}
use Rattle.scasp_law_no_circle.proofs.Places.{entry, entry-new}
use Rattle.scasp_law_no_circle.proofs.Scope.{Good, existential, Scoped, Sound, Scopes}
use Rattle.scasp_law_no_circle.proofs.Tasks.{Plain, Either, Waiting, Level, level-before, shows-level, First, Assumed, Front, plain, assumes, numbers, differs, becomes, avoids, shapes, begins, Owning, scoped-kept, work-kept}

-- ---- arguments without universal variables

none-kept : (test : ℕ → Bool) (xs : List ℕ) → list_any test xs ≡ false → is_empty (filter test xs) ≡ true
none-kept test [] e = refl
none-kept test (x ∷ xs) e = let q = or_parts (test x) (list_any test xs) e in by (test x) q.0 (none-kept test xs q.1)
  where
    by : (b : Bool) → b ≡ false → is_empty (filter test xs) ≡ true → is_empty (if b then x ∷ filter test xs else filter test xs) ≡ true
    by true f rest = absurd (true≢false f)
    by false f rest = rest

list-same : (test : ℕ → Bool) (v : Sub) (ts : Tms) → list_any test (term_vars (under v (list_term (items ts)))) ≡ list_any test (terms_vars (all_under v ts))
list-same test v nil = refl
list-same test v (cons t ts) =
    let l : Tm = under v (list_term (items ts)) in
    list_any-append test (term_vars (under v t)) (term_vars l ++ [])
    ∙ ap (λ (xs : List ℕ). list_any test (term_vars (under v t)) || list_any test xs) (append-nil (term_vars l))
    ∙ ap (λ (b : Bool). list_any test (term_vars (under v t)) || b) (list-same test v ts)
    ∙ sym (list_any-append test (term_vars (under v t)) (terms_vars (all_under v ts)))

list-quiet : (s : State) (l : Lit) → is_free s l ≡ true → list_any (is_universal s) (term_vars (under (meaning s) (tm_of (term_with (list_term (items l.atom.args)))))) ≡ false
list-quiet s l e =
    ap (λ (t : Tm). list_any (is_universal s) (term_vars (under (meaning s) t))) (viewed (list_term (items l.atom.args)))
    ∙ list-same (is_universal s) (meaning s) l.atom.args ∙ not-true (has_universal s (terms_vars (lit_under s l).atom.args)) e

differing-quiet : (s : State) (l : Lit) (a : Literal) → is_free s l ≡ true → is_free s a.lit ≡ true → is_empty (universals_of s (differing l a)) ≡ true
differing-quiet s l a e f =
    let one : List ℕ = term_vars (under (meaning s) (tm_of (term_with (list_term (items l.atom.args))))) in
    let two : List ℕ = term_vars (under (meaning s) (tm_of (term_with (list_term (items a.lit.atom.args))))) in
    none-kept (is_universal s) (one ++ two) (list_any-append (is_universal s) one two ∙ or_from (list_any (is_universal s) one) (list_any (is_universal s) two) (list-quiet s l e) (list-quiet s a.lit f))

opposites-quiet : (s : State) (l : Lit) → is_free s l ≡ true → (xs : List Literal) → Each (λ c. is_empty (universals_of s c) ≡ true) (map (differing l) (filter (is_opposite s l) xs))
opposites-quiet s l e [] = tt
opposites-quiet s l e (a ∷ xs) = by (is_opposite s l a) refl (opposites-quiet s l e xs)
  where
    by : (b : Bool) → is_opposite s l a ≡ b → Each (λ c. is_empty (universals_of s c) ≡ true) (map (differing l) (filter (is_opposite s l) xs))
        → Each (λ c. is_empty (universals_of s c) ≡ true) (map (differing l) (if b then a ∷ filter (is_opposite s l) xs else filter (is_opposite s l) xs))
    by true f rest =
        (differing-quiet s l a e (and_parts (not (same_bool a.lit.positive l.positive) && same_pred (pred_of a.lit.atom) (pred_of l.atom) && not a.is_general) (is_free s a.lit) f).1, rest)
    by false f rest = rest

-- ---- quiet assumptions, one after the other

quiet-then : (p : Program) (s r t : State) → Quiet p s r → Quiet p r t → Quiet p s t
quiet-then p s r t a b = record { assumes = assumes-then p s r t a.assumes b.assumes; made = b.made ∙ a.made }

still-quiet : (s r : State) → r.made ≡ s.made → r.bound ≡ s.bound → (c : Con) → is_empty (universals_of s c) ≡ true → is_empty (universals_of r c) ≡ true
still-quiet s r e f c k =
    subst (λ (made : List Made). is_empty (universals_of (record r { made = made }) c) ≡ true) (sym e)
    (subst (λ (bs : List Binding). is_empty (universals_of (record r { made = s.made; bound = bs }) c) ≡ true) (sym f) k)

all-quiet : (p : Program) (sat : List Con → Bool) (s : State) → Sound p s.made s.covers s.bound → Solved (length s.made) s.bound → (cs : List Con) → Each (λ c. is_empty (universals_of s c) ≡ true) cs → EachState (Quiet p s) (assume_all sat cs s).states
all-quiet p sat s h solved [] k = (record { assumes = assumes-itself p s h solved; made = refl }, tt)
all-quiet p sat s h solved (c ∷ cs) k =
    each_followed (Quiet p s) (Quiet p s) (assume_all sat cs) (assume sat s c).states (quiet-assumes p sat s h solved c k.0)
    (λ r q. each_weaker (Quiet p r) (Quiet p s) (assume_all sat cs r).states (λ t l. quiet-then p s r t q l)
    (all-quiet p sat r q.assumes.scopes.sound (subst (Solved (length r.made)) (sym q.assumes.bound) (solved-more (length s.made) (length r.made) q.assumes.scopes.long s.bound solved)) cs
    (Each-map (λ c. is_empty (universals_of s c) ≡ true) (λ c. is_empty (universals_of r c) ≡ true) (λ c e. still-quiet s r q.made q.assumes.bound c e) cs k.1)))

-- the number tests and the row of an item
abbrev Tested : Con → Type 0
Tested (con.Num t) = ⊤
Tested (con.Row r) = ⊤
Tested (con.Eq t u) = ⊥
Tested (con.Neq t u) = ⊥
Tested (con.NotShape x f k) = ⊥
Tested (con.NotNum t) = ⊥

tested : (s : State) (c : Con) → Tested c → Assumed s.made s.covers s.bound (length s.covers) c
tested s (con.Num t) k = tt
tested s (con.Row r) k = tt
tested s (con.Eq t u) k = absurd k
tested s (con.Neq t u) k = absurd k
tested s (con.NotShape x f j) k = absurd k
tested s (con.NotNum t) k = absurd k

all-tested : (p : Program) (sat : List Con → Bool) (s : State) → Sound p s.made s.covers s.bound → Solved (length s.made) s.bound → (cs : List Con) → Each Tested cs → EachState (Assumes p s) (assume_all sat cs s).states
all-tested p sat s h solved [] k = (assumes-itself p s h solved, tt)
all-tested p sat s h solved (c ∷ cs) k =
    each_followed (Assumes p s) (Assumes p s) (assume_all sat cs) (assume sat s c).states (assume-assumes p sat s h solved (length s.covers) c (tested s c k.0))
    (λ r q. each_weaker (Assumes p r) (Assumes p s) (assume_all sat cs r).states (λ t l. assumes-then p s r t q l)
    (all-tested p sat r q.scopes.sound (subst (Solved (length r.made)) (sym q.bound) (solved-more (length s.made) (length r.made) q.scopes.long s.bound solved)) cs k.1))

module _ (p : Program) (sat : List Con → Bool) (s : State) (h : Sound p s.made s.covers s.bound) (solved : Solved (length s.made) s.bound) (w : First s.made s.covers s.bound (length s.covers) s.work) where
  line-owns : (l : Line) → Owning p (with_line s l)
  line-owns l = record { sound = h; front = plain s.work w }

  literals-own : (xs : List Literal) → Owning p (record s { literals = xs })
  literals-own xs = record { sound = h; front = plain s.work w }

  marked-owns : (bs : List Literal) (xs : List Literal) → Owning p (marked bs (record s { literals = xs }))
  marked-owns [] xs = literals-own xs
  marked-owns (a ∷ bs) xs = literals-own (at_number a.number looping xs)

  moved-owns : (a : Literal) (bs : List Literal) (xs : List Literal) → Owning p (moved a bs (record s { literals = xs }))
  moved-owns a [] xs = literals-own xs
  moved-owns a (c ∷ cs) xs = by (a.loops && a.lit.positive && c.lit.positive)
    where
      by : (d : Bool) → Owning p (if d then marked (c ∷ cs) (record s { literals = xs }) else record s { literals = xs })
      by true = marked-owns (c ∷ cs) xs
      by false = literals-own xs

  left-owns : (bs : List Literal) → Owning p (left bs s)
  left-owns [] = literals-own s.literals
  left-owns (a ∷ bs) = moved-owns a bs (at_number a.number finished s.literals)

  -- ---- a literal that is gone into

  rule-owns : (l : Lit) → EachVars (Scoped s.made s.covers s.bound (length s.covers)) l.atom.args → (k : ℕ) → Owning p (by_rule p s l k)
  rule-owns l b k = record {
    sound = grown.sound;
    front = plain ((equations l.atom.args (head_args p k n) ++ map task.Show (body_of p k n) ++ task.Leave ∷ []) ++ s.work)
        (level-before (Scoped more s.covers s.bound) (length s.covers) (equations l.atom.args (head_args p k n) ++ map task.Show (body_of p k n) ++ task.Leave ∷ []) s.work
        (Each-append (λ t. Plain H t × (is_close t ≡ false)) (equations l.atom.args (head_args p k n) ++ map task.Show (body_of p k n)) (task.Leave ∷ [])
        (Each-append (λ t. Plain H t × (is_close t ≡ false)) (equations l.atom.args (head_args p k n)) (map task.Show (body_of p k n))
        (equations-level H l.atom.args (head_args p k n) (all-weaker (Scoped s.made s.covers s.bound (length s.covers)) H (scoped-kept p s.made more s.covers s.covers s.bound s.bound grown) l.atom.args b) raise.head)
        (shows-level H (body_of p k n) (Each-map (BodyEach H) (ItemEach H) (λ i c. c.0) (body_of p k n) raise.body)))
        ((tt, refl), tt)) (work-kept p s.made more s.covers s.covers s.bound s.bound grown s.work w));
  }
    where
      n : ℕ
      n = length s.made

      m : Made
      m = record { kind = Existential; depth = length s.covers }

      more : List Made
      more = (with_new s Existential (length s.covers) (vars_of_clause p k)).made

      H : ℕ → Type 0
      H = Scoped (with_new s Existential (length s.covers) (vars_of_clause p k)).made s.covers s.bound (length s.covers)

      grown : Scopes p s.made (with_new s Existential (length s.covers) (vars_of_clause p k)).made s.covers s.covers s.bound s.bound
      grown = more-scopes p s.made s.covers s.bound h (replicate (vars_of_clause p k) (record { kind = Existential; depth = length s.covers }))

      long : length (with_new s Existential (length s.covers) (vars_of_clause p k)).made ≡ length s.made + vars_of_clause p k
      long = new-length s Existential (length s.covers) (vars_of_clause p k)

      new : (z : ℕ) → length s.made ≤ z → z < length s.made + vars_of_clause p k → Scoped (with_new s Existential (length s.covers) (vars_of_clause p k)).made s.covers s.bound (length s.covers) z
      new z a c =
          let e = entry-new s.made (vars_of_clause p k) (record { kind = Existential; depth = length s.covers }) z a c in
          let depth : (entry more z).depth ≡ length s.covers = ap (λ (d : Made). d.depth) e in
          met-free (Good more s.covers s.bound (length s.covers)) s.bound z (existential (omega (arith, c, long)) (ap (λ (d : Made). d.kind) e) (omega (arith, depth)))
          (above-unbound (length s.made) s.bound solved z a)

      raise : Raised (Scoped (with_new s Existential (length s.covers) (vars_of_clause p k)).made s.covers s.bound (length s.covers)) (numbered p.clauses k) (length s.made)
      raise = raised-of H p k (length s.made) new

  covers-level : (a : Atom) (ks : List ℕ) → EachVars (Scoped s.made s.covers s.bound (length s.covers)) a.args → Level (Scoped s.made s.covers s.bound (length s.covers)) (map (task.Cover a) ks)
  covers-level a [] b = tt
  covers-level a (k ∷ ks) b = ((b, refl), covers-level a ks b)

  no-rule-owns : (l : Lit) → EachVars (Scoped s.made s.covers s.bound (length s.covers)) l.atom.args → Owning p (by_no_rule p s l)
  no-rule-owns l b = record {
    sound = h;
    front = plain ((map (task.Cover l.atom) (rules_of p (pred_of l.atom)) ++ task.Leave ∷ []) ++ s.work)
        (level-before (Scoped s.made s.covers s.bound) (length s.covers) (map (task.Cover l.atom) (rules_of p (pred_of l.atom)) ++ task.Leave ∷ []) s.work
        (Each-append (λ t. Plain (Scoped s.made s.covers s.bound (length s.covers)) t × (is_close t ≡ false)) (map (task.Cover l.atom) (rules_of p (pred_of l.atom))) (task.Leave ∷ []) (covers-level l.atom (rules_of p (pred_of l.atom)) b) ((tt, refl), tt)) w);
  }

  entered-owns : (l : Lit) → EachVars (Scoped s.made s.covers s.bound (length s.covers)) l.atom.args → EachState (Owning p) (entered p s l)
  entered-owns l b = by l.positive
    where
      by : (c : Bool) → EachState (Owning p) (if c then map (by_rule p s l) (rules_of p (pred_of l.atom)) else by_no_rule p s l ∷ [])
      by true = each-of (Owning p) (by_rule p s l) (rule-owns l b) (rules_of p (pred_of l.atom))
      by false = (no-rule-owns l b, tt)

  looped-owns : (l : Lit) (r : Repeated) → EachState (Owning p) (looped s l r)
  looped-owns l r = by l.positive r.is_behind_negation
    where
      by : (c d : Bool) → EachState (Owning p) (if not c then with_line s (line.Loop l r.number) ∷ [] else (if d then marked (ancestors s) (with_line s (line.Loop l r.number)) ∷ [] else []))
      by false d = (line-owns (line.Loop l r.number), tt)
      by true true = (more (ancestors s), tt)
        where
          more : (bs : List Literal) → Owning p (marked bs (with_line s (line.Loop l r.number)))
          more [] = line-owns (line.Loop l r.number)
          more (a ∷ bs) = record { sound = h; front = plain s.work w }
      by true false = tt

-- ---- calls

module _ (p : Program) (sat : List Con → Bool) (s : State) (h : Sound p s.made s.covers s.bound) (solved : Solved (length s.made) s.bound) (w : First s.made s.covers s.bound (length s.covers) s.work) where
  unrepeated-owns : (l : Lit) → EachVars (Scoped s.made s.covers s.bound (length s.covers)) l.atom.args → (seen : List Literal) → EachState (Owning p) (unrepeated p sat s l seen).states
  unrepeated-owns l b (a ∷ seen) = (line-owns p sat s h solved w (line.Seen l a.number), tt)
  unrepeated-owns l b [] =
      each_followed (Quiet p s) (Owning p) (λ t. gives (entered p t l)) (assume_all sat (map (differing l) (opposites s l)) s).states
      (all-quiet p sat s h solved (map (differing l) (opposites s l)) (by (is_free s l) refl))
      (λ r q. entered-owns p sat r q.assumes.scopes.sound (subst (Solved (length r.made)) (sym q.assumes.bound) (solved-more (length s.made) (length r.made) q.assumes.scopes.long s.bound solved))
      (subst (First r.made r.covers r.bound (length r.covers)) (sym q.assumes.work) (work-kept p s.made r.made s.covers r.covers s.bound r.bound q.assumes.scopes s.work w)) l
      (all-weaker (Scoped s.made s.covers s.bound (length s.covers)) (Scoped r.made r.covers r.bound (length r.covers)) (scoped-kept p s.made r.made s.covers r.covers s.bound r.bound q.assumes.scopes) l.atom.args b))
    where
      by : (c : Bool) → is_free s l ≡ c → Each (λ c. is_empty (universals_of s c) ≡ true) (map (differing l) (if c then filter (is_opposite s l) s.literals else []))
      by true e = opposites-quiet s l e s.literals
      by false e = tt

  call-owns : (l : Lit) → EachVars (Scoped s.made s.covers s.bound (length s.covers)) l.atom.args → EachState (Owning p) (call p sat s l).states
  call-owns l b = by (nearest s l false (ancestors s))
    where
      by : (o : Option Repeated) → EachState (Owning p) (judged p sat s l o).states
      by (Some r) = looped-owns p sat s h solved w l r
      by None = unrepeated-owns l b (filter (can_be_seen s l) s.literals)

  -- ---- tests

  tests-tested : (ks : List Coeff) → Each Tested (map (λ k. con.Num (Var k.x)) ks)
  tests-tested [] = tt
  tests-tested (k ∷ ks) = (tt, tests-tested ks)

  kept-owns : (rs : List State) → EachState (Assumes p s) rs → EachState (Owning p) rs
  kept-owns rs k =
      each_weaker (Assumes p s) (Owning p) rs
      (λ r q. record {
        sound = q.scopes.sound;
        front = plain r.work (subst (First r.made r.covers r.bound (length r.covers)) (sym q.work) (work-kept p s.made r.made s.covers r.covers s.bound r.bound q.scopes s.work w));
      }) k

  test-owns : (c : Con) → ConEach (Scoped s.made s.covers s.bound (length s.covers)) c → EachState (Owning p) (test_item sat s c).states
  test-owns (con.Eq t u) b = (record { sound = h; front = plain (task.Equate t u ∷ s.work) (b, w) }, tt)
  test-owns (con.Neq t u) b = by (is_empty (universals_of s (con.Neq t u))) refl
    where
      by : (c : Bool) → is_empty (universals_of s (con.Neq t u)) ≡ c
          → EachState (Owning p) (if c then assume sat s (con.Neq t u) else goes (before (task.Differ (record { left = t; right = u } ∷ []) aims.Test ∷ []) s)).states
      by true e = kept-owns (assume sat s (con.Neq t u)).states (each_weaker (Quiet p s) (Assumes p s) (assume sat s (con.Neq t u)).states (λ r q. q.assumes) (quiet-assumes p sat s h solved (con.Neq t u) e))
      by false e = (
        record {
          sound = h;
          front = differs (record { left = t; right = u } ∷ []) aims.Test s.work
              ((b.0, each-weaker (Scoped s.made s.covers s.bound (length s.covers)) (Either s.made s.covers s.bound (length s.covers)) (λ z m. inr m) (tm_of u) b.1), tt) tt w;
        },
        tt,
      )
  test-owns (con.NotShape x f k) b = assumed-owns p sat s h solved w (con.NotShape x f k) b
  test-owns (con.Num t) b = assumed-owns p sat s h solved w (con.Num t) tt
  test-owns (con.NotNum t) b = assumed-owns p sat s h solved w (con.NotNum t) tt
  test-owns (con.Row r) b = by (is_empty (universals_of s (con.Row r)))
    where
      by : (c : Bool) → EachState (Owning p) (if c then assume_all sat (number_tests r ++ con.Row r ∷ []) s else assume sat s (con.Row r)).states
      by true = kept-owns (assume_all sat (number_tests r ++ con.Row r ∷ []) s).states (all-tested p sat s h solved (number_tests r ++ con.Row r ∷ []) (Each-append Tested (number_tests r) (con.Row r ∷ []) (tests-tested r.coeffs) (tt, tt)))
      by false = assumed-owns p sat s h solved w (con.Row r) tt

-- ---- steps

module _ (p : Program) (sat : List Con → Bool) (s : State) (h : Sound p s.made s.covers s.bound) (solved : Solved (length s.made) s.bound) where
  plain-owns : (t : Task) (ts : List Task) → Waiting (Scoped s.made s.covers s.bound) (length s.covers) (t ∷ ts) → EachState (Owning p) (done p sat (record s { work = ts }) t).states
  plain-owns (task.Show (flat.Call l)) ts w = call-owns p sat (record s { work = ts }) h solved w.1 l w.0
  plain-owns (task.Show (flat.Test c)) ts w = test-owns p sat (with_line (record s { work = ts }) (line.Test c)) h solved w.1 c w.0.0
  plain-owns (task.Equate t u) ts w = equate-owning p sat (record s { work = ts }) h solved w.1 t u w.0.0 w.0.1
  plain-owns (task.Assume c) ts w = absurd w.0
  plain-owns (task.Differ ps aim) ts w = absurd w.0
  plain-owns (task.Become x t ps aim) ts w = absurd w.0
  plain-owns (task.Avoid x q ps aim) ts w = absurd w.0
  plain-owns (task.Shape x f us ps aim) ts w = absurd w.0
  plain-owns (task.Cover a k) ts w = (cover-owns p (record s { work = ts }) h solved k a w.0 w.1, tt)
  plain-owns (task.Check k checks_head) ts w = check-owns p (record s { work = ts }) h solved k sat checks_head w.1
  plain-owns (task.Begin k first checks_head) ts w = absurd w.0
  plain-owns task.Void ts w = (line-owns p sat (record s { work = ts }) h solved w.1 line.Void, tt)
  plain-owns task.Leave ts w = (left-owns p sat (record s { work = ts }) h solved w.1 (ancestors (record s { work = ts })), tt)
  plain-owns task.Close ts w = close-owns p sat (record s { work = ts }) h solved w.1

  pub step-owns : (ts : List Task) → Front p s.made s.covers s.bound (length s.covers) ts → EachState (Owning p) (step_at p sat s ts).states
  step-owns _ (plain [] w) = tt
  step-owns _ (plain (t ∷ ts) w) = plain-owns t ts w
  step-owns _ (assumes c ts n a w) = assumed-owns p sat (record s { work = ts }) h solved w c a
  step-owns _ (numbers x q ps aim ts a pf af w) = numbers-own p sat (record s { work = task.Avoid x q ps aim ∷ ts }) h solved x q ps aim ts refl a pf af w
  step-owns _ (differs ps aim ts pf af w) = differ-owns p sat (record s { work = ts }) h solved w ps aim pf af
  step-owns _ (becomes x t ps aim ts a b pf af w) = value-owns p sat (record s { work = ts }) h solved w ps aim pf af x t a b
  step-owns _ (avoids x q ps aim ts a pf af w) = avoid-owns p sat (record s { work = ts }) h solved w ps aim pf af x q a
  step-owns _ (shapes x f us ps aim ts a b pf af w) = name-owns p sat (record s { work = ts }) h solved w ps aim pf af x f us a b
  step-owns _ (begins k first checks_head ts heads w) = begin-owns p sat (record s { work = ts }) h w k first checks_head heads

  -- no case ends next where the other side of its split replaces a variable by a term in which it stands
  pub step-absent : (ts : List Task) → Front p s.made s.covers s.bound (length s.covers) ts → (closes ts && innermost_inside s.bound s.covers) ≡ false
  step-absent _ (plain [] w) = refl
  step-absent _ (plain (t ∷ ts) w) = by t w
    where
      by : (t : Task) → Waiting (Scoped s.made s.covers s.bound) (length s.covers) (t ∷ ts) → (is_close t && innermost_inside s.bound s.covers) ≡ false
      by task.Close v = close-absent p sat (record s { work = ts }) h solved v.1
      by (task.Show i) v = refl
      by (task.Equate t u) v = refl
      by (task.Assume c) v = refl
      by (task.Differ ps aim) v = refl
      by (task.Become x t ps aim) v = refl
      by (task.Avoid x q ps aim) v = refl
      by (task.Shape x f us ps aim) v = refl
      by (task.Cover a k) v = refl
      by (task.Check k checks_head) v = refl
      by (task.Begin k first checks_head) v = refl
      by task.Void v = refl
      by task.Leave v = refl
  step-absent _ (assumes c ts n a w) = refl
  step-absent _ (numbers x q ps aim ts a pf af w) = refl
  step-absent _ (differs ps aim ts pf af w) = refl
  step-absent _ (becomes x t ps aim ts a b pf af w) = refl
  step-absent _ (avoids x q ps aim ts a pf af w) = refl
  step-absent _ (shapes x f us ps aim ts a b pf af w) = refl
  step-absent _ (begins k first checks_head ts heads w) = refl
