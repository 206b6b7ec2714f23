-- Steps that equate, assume and tell apart: no variable is bound to a term in which it stands.
use Rattle.std.specs.Prelude.{◌≡◌, ◌≢◌, ℕ, zero, suc, ◌+◌, ◌<◌, nat_eq, Bool, true, false, ◌||◌, if◌then◌else◌, List, [], ◌∷◌, ◌++◌, length, map}
use Rattle.std.proofs.Common.{refl, arith, ap, sym, subst, ◌∙◌, inl, inr}
use Rattle.std.proofs.lemmas.Bool.{ne_eqb, or_from, true≢false}
use Rattle.std.proofs.lemmas.List.Folds.{list_any-append}
use Rattle.scasp_list.specs.Each.{Each}
use Rattle.scasp_list.proofs.EachLemmas.{Each-map, Each-append}
use Rattle.scasp_num.specs.Linear.{Linear}
use Rattle.scasp_num.specs.Number.{Number}
use Rattle.scasp_num.specs.declared.linear.Coeff.{Coeff}
use Rattle.scasp_search_rules.specs.declared.states.outcomes.Status.{Status}
use Rattle.scasp_search_rules.specs.declared.states.outcomes.Status.TheVariants.{Entailed, Impossible, Added, Parts}
use Rattle.scasp_search_rules.specs.declared.states.state.State.{State}
use Rattle.scasp_search_rules.specs.declared.states.tasks.Aim.{Aim}
use Rattle.scasp_search_rules.specs.declared.states.tasks.Aim.TheVariants as aims
use Rattle.scasp_search_rules.specs.declared.states.tasks.Pair.{Pair}
use Rattle.scasp_search_rules.specs.declared.states.tasks.Task.{Task}
use Rattle.scasp_search_rules.specs.declared.states.tasks.Task.TheVariants as task
use Rattle.scasp_search_rules.specs.Successors.Assumptions.{status, assume, assume_all}
use Rattle.scasp_search_rules.specs.Successors.Differences.{when_apart, alternatives, at_part, part_of_variables, stands_first, differ_variables, differ_number, differ_value, differ_shape, differ_pair, differ_first, differ_pairs, differ_terms, same_value, same_shape, is_matched, take_up}
use Rattle.scasp_search_rules.specs.Successors.Equations.{becomes_shape, equated, equate_pairs, equate_terms, equations_of}
use Rattle.scasp_search_rules.specs.Successors.Falls.{EachState}
use Rattle.scasp_search_rules.specs.Successors.Items.{test_item, number_tests}
use Rattle.scasp_search_rules.specs.Successors.Pairs.{pairs, pairs_of, from_first}
use Rattle.scasp_search_rules.specs.Successors.Regions.{before}
use Rattle.scasp_search_rules.specs.Successors.Steps.{goes}
use Rattle.scasp_search_rules.specs.Successors.Variables.{binding, meaning, next_variable, with_binding, universals_of, is_empty}
use Rattle.scasp_syntax.specs.Tm.{Tm, Tms, var, num, app, nil, cons, items}
use Rattle.scasp_syntax.specs.Values.{under}
use Rattle.scasp_syntax.specs.View.{tm_of}
use Rattle.scasp_syntax.specs.declared.con.Con.{Con}
use Rattle.scasp_syntax.specs.declared.con.Con.TheVariants as con
use Rattle.scasp_syntax.specs.declared.program.Program.{Program}
use Rattle.scasp_syntax.specs.declared.term.Term.{Term}
use Rattle.scasp_syntax.specs.declared.term.Term.TheVariants.{Var}
use Rattle.scasp_unify.specs.Negations.{new_parts}
use Rattle.scasp_unify.specs.Parts.{occurs, occurs_among}
use Rattle.scasp_unify.specs.SimpleForm.{differ, term_with}
use Rattle.scasp_unify.specs.declared.bindings.Binding.{Binding}
use Rattle.scasp_unify.proofs.SimpleLemmas.{viewed}
use Rattle.scasp_law_first_event.specs.Solved.{has_circle}
use Rattle.scasp_law_first_event.proofs.Apart.{Other, Apart, Both, apart-left, apart-right, pairs-both, First, ReadPair, first-read, first-firm, pairs-firm}
use Rattle.scasp_law_first_event.proofs.Bindings.{Solved, Free}
use Rattle.scasp_law_first_event.proofs.EachStates.{each_map, each_weaker, each_followed}
use Rattle.scasp_law_first_event.proofs.Firmness.{as-many, is_loose, Kinded, Firm, TermFirm, ArgsFirm, ConFirm, AssumedFirm, PairFirm, PairsFirm, BindingFirm, LiteralFirm, TaskFirm, Clear, bindings-onto, literals-onto, work-onto, assumed-onto, pairs-onto, args-below-onto, kinded-firm, kinded-term, read-kinded}
use Rattle.scasp_law_first_event.proofs.Firming.{Makes, makes-by, makes-work, onto-by, still-bound, Assumes, assumes-itself, assumes-then, assume-assumes, equated-makes, shape-makes, parts-each}
use Rattle.scasp_law_first_event.proofs.Fitting.{TermBelow, ArgsBelow, AimBelow, aim-more}
use Rattle.scasp_law_first_event.proofs.Keeping.{solved-more}
use Rattle.scasp_law_first_event.proofs.Loads.{assume-same, all-assumed-same}
use Rattle.scasp_law_first_event.proofs.Moves.{Puts, After, equated-after, equated-states, shape-puts}
use Rattle.scasp_law_first_event.proofs.Steps.{each_both}
use Rattle.scasp_law_first_event.proofs.Terms.{EachVar, EachVars, each-weaker, all-weaker, each-absent}

-- the state is clear, with its work; and where it has a circle, so has the state before
pub record Goes (p : Program) (s r : State) : Type 0 where
  pub clear : Clear p r
  pub work : Each (TaskFirm p r) r.work
  pub circle : has_circle r.bound ≡ true → has_circle s.bound ≡ true

pub goes-then : (p : Program) (s r t : State) → Goes p s r → Goes p r t → Goes p s t
goes-then p s r t a b = record { clear = b.clear; work = b.work; circle = (λ c. a.circle (b.circle c)) }

pub circle-pushed : (bs : List Binding) (z : ℕ) (v : Tm) → occurs z v ≡ false → has_circle (bs ++ binding z v ∷ []) ≡ true → has_circle bs ≡ true
circle-pushed bs z v o c = by (has_circle bs) (sym (list_any-append (λ (b : Binding). occurs b.x (tm_of b.term)) bs (binding z v ∷ [])) ∙ c)
  where
    none : (occurs z (tm_of (term_with v)) || false) ≡ false
    none = or_from (occurs z (tm_of (term_with v))) false (ap (occurs z) (viewed v) ∙ o) refl

    by : (b : Bool) → (b || (occurs z (tm_of (term_with v)) || false)) ≡ true → b ≡ true
    by true e = refl
    by false e = absurd (true≢false (sym e ∙ none))

parts-absent : (x k n : ℕ) → x < k → occurs_among x (new_parts k n) ≡ false
parts-absent x k zero l = refl
parts-absent x k (suc n) l =
    or_from (nat_eq x k) (occurs_among x (new_parts (suc k) n)) (ne_eqb x k (λ e. absurd (omega (arith, e, l)))) (parts-absent x (suc k) n (omega (arith, l)))

-- both sides of a pair
abbrev BothFirm : State → Pair → Type 0
BothFirm s o = TermFirm s (tm_of o.left) × TermFirm s (tm_of o.right)

equations-firm : (p : Program) (s : State) (ps : List Pair) → Each (BothFirm s) ps → Each (TaskFirm p s) (equations_of ps)
equations-firm p s [] h = tt
equations-firm p s (o ∷ ps) h = (h.0, equations-firm p s ps h.1)

args-both : (s : State) (ts us : Tms) → ArgsFirm s ts → ArgsFirm s us → Each (BothFirm s) (pairs ts us)
args-both s nil us h k = tt
args-both s (cons t ts) nil h k = tt
args-both s (cons t ts) (cons u us) h k = ((subst (TermFirm s) (sym (viewed t)) h.0, subst (TermFirm s) (sym (viewed u)) k.0), args-both s ts us h.1 k.1)

pub args-equated : (p : Program) (s : State) (ts us : Tms) → ArgsFirm s ts → ArgsFirm s us → Each (TaskFirm p s) (equations_of (pairs ts us))
args-equated p s ts us h k = equations-firm p s (pairs ts us) (args-both s ts us h k)

-- the new arguments of a name
new-kinded : (s r : State) (n : ℕ) → Makes s r → length r.made ≡ length s.made + n → EachVars (Kinded r) (new_parts (length s.made) n)
new-kinded s r n m e = parts-each (Kinded r) (length s.made) (length s.made) n (omega arith) (λ z a b. m.fresh z a (omega (arith, b, e)))

firm-below : (s : State) (t : Tm) → TermFirm s t → TermBelow (length s.made) t
firm-below s t h = each-weaker (Firm s) (λ y. y < length s.made) (λ y k. k.0) t h

module _ (p : Program) (sat : List Con → Bool) (s : State) (h : Clear p s) (w : Each (TaskFirm p s) s.work) where
  -- the same bindings, with these tasks in front of the work
  pub same-goes : (r : State) → Makes s r → r.bound ≡ s.bound → (ts : List Task) → r.work ≡ ts ++ s.work → Each (TaskFirm p r) ts → Goes p s r
  same-goes r m e ts f g = record {
    clear = record {
      bindings = subst (Each (BindingFirm r)) (sym e) (bindings-onto s r m.onto s.bound h.bindings);
      covers = m.covers p h.covers;
      literals = subst (Each (LiteralFirm r)) (sym m.literals) (literals-onto s r m.onto s.literals h.literals);
    };
    work = subst (Each (TaskFirm p r)) (sym f) (Each-append (TaskFirm p r) ts s.work g (work-onto s r m.onto p s.work w));
    circle = (λ c. sym (ap has_circle e) ∙ c);
  }

  -- one binding more
  push-goes : (r : State) → Makes s r → (z : ℕ) (v : Tm) → r.bound ≡ s.bound ++ binding z v ∷ [] → EachVar (Kinded r) v → occurs z v ≡ false
      → (ts : List Task) → r.work ≡ ts ++ s.work → Each (TaskFirm p r) ts → Goes p s r
  push-goes r m z v e k o ts f g = record {
    clear = record {
      bindings =
          subst (Each (BindingFirm r)) (sym e)
          (Each-append (BindingFirm r) s.bound (binding z v ∷ []) (bindings-onto s r m.onto s.bound h.bindings) (subst (EachVar (Kinded r)) (sym (viewed v)) k, tt));
      covers = m.covers p h.covers;
      literals = subst (Each (LiteralFirm r)) (sym m.literals) (literals-onto s r m.onto s.literals h.literals);
    };
    work = subst (Each (TaskFirm p r)) (sym f) (Each-append (TaskFirm p r) ts s.work g (work-onto s r m.onto p s.work w));
    circle = (λ c. circle-pushed s.bound z v o (sym (ap has_circle e) ∙ c));
  }

  -- these tasks in front
  pub before-goes : (ts : List Task) → Each (TaskFirm p s) ts → Goes p s (before ts s)
  before-goes ts f = record { clear = record { bindings = h.bindings; covers = h.covers; literals = h.literals }; work = Each-append (TaskFirm p s) ts s.work f w; circle = (λ c. c) }

  put-goes : (r : State) → Makes s r → (z : ℕ) (v : Tm) (n : ℕ) (ts : List Task) → Puts s z v n (ts ++ s.work) r → EachVar (Kinded r) v → occurs z v ≡ false
      → Each (TaskFirm p r) ts → Goes p s r
  put-goes r m z v n ts put k o g = push-goes r m z v put.bound k o ts put.work_is g

  -- x against a term, with more tasks in front where the term has no arguments
  pub after-goes : (x : ℕ) (t : Tm) → Kinded s x → EachVar (Kinded s) t → Other x t → (r : State) → Makes s r → After s equations_of x t r → Goes p s r
  after-goes x (var y) kx kt n r m (inl put) = put-goes r m x (var y) 0 [] put (m.onto.kinded y kt) (ne_eqb x y n) tt
  after-goes x (var y) kx kt n r m (inr put) = put-goes r m y (var x) 0 [] put (m.onto.kinded x kx) (ne_eqb y x (λ e. n (sym e))) tt
  after-goes x (num q) kx kt n r m put = put-goes r m x (num q) 0 [] put tt refl tt
  after-goes x (app g us) kx kt n r m put =
      put-goes r m x (app g (new_parts (next_variable s) (length (items us)))) (length (items us))
      (equations_of (pairs (new_parts (next_variable s) (length (items us))) us)) put.0 new (parts-absent x (length s.made) (length (items us)) kx.0)
      (args-equated p r (new_parts (next_variable s) (length (items us))) us
      (all-weaker (Kinded r) (Firm r) (kinded-firm r) (new_parts (next_variable s) (length (items us))) new)
      (all-weaker (Kinded s) (Firm r) (λ z k. kinded-firm r z (m.onto.kinded z k)) us kt))
    where
      new : EachVars (Kinded r) (new_parts (length s.made) (length (items us)))
      new = new-kinded s r (length (items us)) m put.0.made

  -- ---- assuming

  module _ (solved : Solved (length s.made) s.bound) where
    pub assumed-goes : (c : Con) → AssumedFirm s c → EachState (Goes p s) (assume sat s c).states
    assumed-goes c a =
        each_weaker (λ r. Assumes s r × (r.work ≡ s.work)) (Goes p s) (assume sat s c).states (λ r k. same-goes r k.0.makes k.0.bound [] k.1 tt)
        (each_both (Assumes s) (λ r. r.work ≡ s.work) (assume sat s c).states (assume-assumes sat s solved h.bindings c a) (assume-same sat s c))

    all-assume : (r : State) → Assumes s r → (cs : List Con) → Each (AssumedFirm s) cs → EachState (Assumes s) (assume_all sat cs r).states
    all-assume r a [] b = (a, tt)
    all-assume r a (c ∷ cs) b =
        each_followed (Assumes r) (Assumes s) (assume_all sat cs) (assume sat r c).states
        (assume-assumes sat r (subst (Solved (length r.made)) (sym a.bound) (solved-more (length s.made) (length r.made) a.makes.onto.more s.bound solved))
        (subst (Each (BindingFirm r)) (sym a.bound) (bindings-onto s r a.makes.onto s.bound h.bindings)) c (assumed-onto s r a.makes.onto c b.0))
        (λ t l. all-assume t (assumes-then s r t a l) cs b.1)

    pub all-assumed-goes : (cs : List Con) → Each (AssumedFirm s) cs → EachState (λ r. Goes p s r × Assumes s r) (assume_all sat cs s).states
    all-assumed-goes cs b =
        each_weaker (λ r. Assumes s r × (r.work ≡ s.work)) (λ r. Goes p s r × Assumes s r) (assume_all sat cs s).states (λ r k. (same-goes r k.0.makes k.0.bound [] k.1 tt, k.0))
        (each_both (Assumes s) (λ r. r.work ≡ s.work) (assume_all sat cs s).states (all-assume s (assumes-itself s) cs b) (all-assumed-same sat s s cs refl))

    -- ---- telling apart

    apart-firm : (a : Aim) → Each (TaskFirm p s) (when_apart a)
    apart-firm aims.Test = tt
    apart-firm (aims.Head k first) = (tt, tt)

    module _ (rest : List Pair) (aim : Aim) (pf : PairsFirm s rest) (af : AimBelow p (length s.made) aim) where
      apart-goes : Goes p s (before (when_apart aim) s)
      apart-goes = before-goes (when_apart aim) (apart-firm aim)

      part-goes : (c : Con) → AssumedFirm s c → (other : List Task) → Each (TaskFirm p s) other → EachState (Goes p s) (at_part sat s c aim other).states
      part-goes c b other f = by (status sat s c)
        where
          one : Goes p s (before (task.Assume c ∷ when_apart aim) s)
          one = before-goes (task.Assume c ∷ when_apart aim) (b, apart-firm aim)

          two : Goes p s (before other s)
          two = before-goes other f

          by : (a : Status) → EachState (Goes p s) (alternatives s (task.Assume c ∷ when_apart aim) other a)
          by Entailed = (one, (two, tt))
          by Impossible = (two, tt)
          by Added = (one, (two, tt))
          by Parts = (one, tt)

      variables-go : (x y : ℕ) → Kinded s x → Kinded s y → x ≢ y → EachState (Goes p s) (differ_variables sat s x y rest aim).states
      variables-go x y kx ky n = by (stands_first s x y)
        where
          by : (b : Bool) → EachState (Goes p s) (if b then part_of_variables sat s x y rest aim else part_of_variables sat s y x rest aim).states
          by true =
              part-goes (differ (var x) (var y)) (kinded-firm s x kx, kinded-firm s y ky) (task.Become x (Var y) rest aim ∷ []) (((kx, ky, n), pf, af), tt)
          by false =
              part-goes (differ (var y) (var x)) (kinded-firm s y ky, kinded-firm s x kx) (task.Become y (Var x) rest aim ∷ []) (((ky, kx, (λ e. n (sym e))), pf, af), tt)

      number-goes : (x : ℕ) (v : Number) → Kinded s x → EachState (Goes p s) (differ_number sat s x v rest aim).states
      number-goes x v kx =
          part-goes (con.NotNum (Var x)) tt (task.Assume (con.Num (Var x)) ∷ task.Avoid x v rest aim ∷ []) (tt, ((kinded-firm s x kx, pf, af), tt))

      shape-part-goes : (x f : ℕ) (ts : Tms) → Kinded s x → ArgsBelow (length s.made) ts → EachState (Goes p s) (differ_shape sat s x f ts rest aim).states
      shape-part-goes x f ts kx b = by (occurs_among x ts)
        where
          by : (c : Bool) → EachState (Goes p s) (if c then goes (before (when_apart aim) s) else at_part sat s (con.NotShape x f (length (items ts))) aim (task.Shape x f ts rest aim ∷ [])).states
          by true = (apart-goes, tt)
          by false = part-goes (con.NotShape x f (length (items ts))) (kinded-firm s x kx) (task.Shape x f ts rest aim ∷ []) ((kx.0, b, pf, af), tt)

      -- a variable that is free and of no head
      of-kind : (y : ℕ) → Free (length s.made) s.bound y → is_loose s y ≡ false → Kinded s y
      of-kind y f e = (f.1, e)

      kinded-below : (ts : Tms) → EachVars (Kinded s) ts → ArgsBelow (length s.made) ts
      kinded-below ts k = all-weaker (Kinded s) (λ y. y < length s.made) (λ y l. l.0) ts k

      free-below : (ts : Tms) → EachVars (Free (length s.made) s.bound) ts → ArgsBelow (length s.made) ts
      free-below ts k = all-weaker (Free (length s.made) s.bound) (λ y. y < length s.made) (λ y l. l.1) ts k

      pair-goes : (t u : Tm) → EachVar (Kinded s) t → EachVar (Free (length s.made) s.bound) u → Apart t u → ((y : ℕ) → u ≡ var y → is_loose s y ≡ false)
          → EachState (Goes p s) (differ_pair sat s t u rest aim).states
      pair-goes (var x) (var y) kt fu n l = variables-go x y kt (of-kind y fu (l y refl)) n
      pair-goes (var x) (num v) kt fu n l = number-goes x v kt
      pair-goes (var x) (app f ts) kt fu n l = shape-part-goes x f ts kt (free-below ts fu)
      pair-goes (num v) (var y) kt fu n l = number-goes y v (of-kind y fu (l y refl))
      pair-goes (num v) (num o) kt fu n l = (apart-goes, tt)
      pair-goes (num v) (app f ts) kt fu n l = (apart-goes, tt)
      pair-goes (app f ts) (var y) kt fu n l = shape-part-goes y f ts (of-kind y fu (l y refl)) (kinded-below ts kt)
      pair-goes (app f ts) (num o) kt fu n l = (apart-goes, tt)
      pair-goes (app f ts) (app g us) kt fu n l = (apart-goes, tt)

      -- the head's variable stands for the literal's part, which has no variable of a head
      taken-goes : (t : Tm) (y : ℕ) → EachVar (Kinded s) t → is_loose s y ≡ true → Goes p s (before (task.Differ rest aim ∷ []) (with_binding s y t))
      taken-goes t y kt e =
          push-goes r m y t refl (each-weaker (Kinded s) (Kinded r) m.onto.kinded t kt)
          (each-absent y t (each-weaker (Kinded s) (λ z. z ≢ y) (λ z k same. true≢false (sym e ∙ ap (is_loose s) (sym same) ∙ k.1)) t kt)) (task.Differ rest aim ∷ []) refl
          ((pairs-onto s r m.onto rest pf, af), tt)
        where
          r : State
          r = before (task.Differ rest aim ∷ []) (with_binding s y t)

          m : Makes s (before (task.Differ rest aim ∷ []) (with_binding s y t))
          m =
              makes-by s (before (task.Differ rest aim ∷ []) (with_binding s y t))
              (onto-by s (before (task.Differ rest aim ∷ []) (with_binding s y t)) (as-many (length s.made)) (λ z l. refl) (λ z f. still-bound s.bound (binding y t) z f)) refl refl refl

      first-goes : (t u : Tm) → EachVar (Kinded s) t → EachVar (Free (length s.made) s.bound) u → Apart t u → EachState (Goes p s) (differ_first sat s t u rest aim).states
      first-goes t (num v) kt fu n = pair-goes t (num v) kt fu n (λ y e. absurd (cc e))
      first-goes t (app f ts) kt fu n = pair-goes t (app f ts) kt fu n (λ y e. absurd (cc e))
      first-goes t (var y) kt fu n = by (is_matched s (var y)) refl
        where
          same : (z : ℕ) → var y ≡ var z → y ≡ z
          same z e = cc

          by : (b : Bool) → is_loose s y ≡ b → EachState (Goes p s) (if b then goes (before (task.Differ rest aim ∷ []) (take_up s t (var y))) else differ_pair sat s t (var y) rest aim).states
          by true e = (taken-goes t y kt e, tt)
          by false e = pair-goes t (var y) kt fu n (λ z f. ap (is_loose s) (sym (same z f)) ∙ e)

      -- the variable is this one, or a term without variables
      become-goes : (x : ℕ) (t : Tm) → ((r : State) → Makes s r → After s equations_of x t r → Goes p s (before (task.Differ rest aim ∷ []) r))
          → EachState (Goes p s) (same_value sat s x t rest aim).states
      become-goes x t k =
          each_map (λ r. Makes s r × After s equations_of x t r) (Goes p s) (before (task.Differ rest aim ∷ [])) (equated sat s (var x) t).states
          (each_both (Makes s) (After s equations_of x t) (equated sat s (var x) t).states (equated-makes sat s (var x) t) (equated-after sat s x t))
          (λ r a. k r a.0 a.1)

      pushed-goes : (r : State) (z : ℕ) (v : Tm) → Makes s r → Puts s z v 0 s.work r → EachVar (Kinded s) v → occurs z v ≡ false → Goes p s (before (task.Differ rest aim ∷ []) r)
      pushed-goes r z v m put kv o =
          push-goes (before (task.Differ rest aim ∷ []) r) (makes-work s r (task.Differ rest aim ∷ r.work) m) z v put.bound
          (each-weaker (Kinded s) (Kinded r) m.onto.kinded v kv) o (task.Differ rest aim ∷ []) (ap (λ (ts : List Task). task.Differ rest aim ∷ ts) put.work_is)
          ((pairs-onto s r m.onto rest pf, aim-more p (length s.made) (length r.made) m.onto.more aim af), tt)

      pub variable-goes : (x y : ℕ) → Kinded s x → Kinded s y → x ≢ y → EachState (Goes p s) (same_value sat s x (var y) rest aim).states
      variable-goes x y kx ky n = become-goes x (var y) by
        where
          by : (r : State) → Makes s r → After s equations_of x (var y) r → Goes p s (before (task.Differ rest aim ∷ []) r)
          by r m (inl put) = pushed-goes r x (var y) m put ky (ne_eqb x y n)
          by r m (inr put) = pushed-goes r y (var x) m put kx (ne_eqb y x (λ e. n (sym e)))

      pub value-goes : (x : ℕ) (v : Number) → EachState (Goes p s) (same_value sat s x (num v) rest aim).states
      value-goes x v = become-goes x (num v) (λ r m put. pushed-goes r x (num v) m put tt refl)

      pub avoid-goes : (x : ℕ) (v : Number) → Firm s x → EachState (Goes p s) (differ_value sat s x v rest aim).states
      avoid-goes x v f = part-goes (differ (var x) (num v)) (f, tt) (task.Become x (term_with (num v)) rest aim ∷ []) ((tt, pf, af), tt)

      pub name-goes : (x f : ℕ) (us : Tms) → x < length s.made → ArgsBelow (length s.made) us → EachState (Goes p s) (same_shape sat s x f us rest aim).states
      name-goes x f us l b =
          each_map (λ r. Makes s r × Puts s x (app f (new_parts n k)) k s.work r) (Goes p s) (before tasks) (becomes_shape sat s x f (length (items us))).states
          (each_both (Makes s) (Puts s x (app f (new_parts (next_variable s) (length (items us)))) (length (items us)) s.work) (becomes_shape sat s x f (length (items us))).states
          (shape-makes sat s x f (length (items us))) (shape-puts sat s x f (length (items us))))
          one
        where
          n : ℕ
          n = length s.made

          k : ℕ
          k = length (items us)

          tasks : List Task
          tasks = task.Differ (pairs (new_parts (next_variable s) (length (items us))) us ++ rest) aim ∷ []

          one : (r : State) → Makes s r × Puts s x (app f (new_parts (next_variable s) (length (items us)))) (length (items us)) s.work r
              → Goes p s (before (task.Differ (pairs (new_parts (next_variable s) (length (items us))) us ++ rest) aim ∷ []) r)
          one r a =
              push-goes (before tasks r) (makes-work s r (tasks ++ r.work) a.0) x (app f (new_parts (next_variable s) (length (items us)))) a.1.bound new
              (parts-absent x (length s.made) (length (items us)) l) tasks (ap (λ (ts : List Task). tasks ++ ts) a.1.work_is) (
                (
                  Each-append (PairFirm r) (pairs (new_parts (next_variable s) (length (items us))) us) rest
                      (pairs-firm r (new_parts (next_variable s) (length (items us))) us (all-weaker (Kinded r) (Firm r) (kinded-firm r) (new_parts (next_variable s) (length (items us))) new)
                      (args-below-onto s r a.0.onto us b))
                      (pairs-onto s r a.0.onto rest pf),
                  aim-more p (length s.made) (length r.made) a.0.onto.more aim af,
                ),
                tt,
              )
            where
              new : EachVars (Kinded r) (new_parts (length s.made) (length (items us)))
              new = new-kinded s r (length (items us)) a.0 a.1.made

    pairs-go : (ps : List Pair) (aim : Aim) → PairsFirm s ps → First (ReadPair s solved h.bindings) ps → AimBelow p (length s.made) aim → EachState (Goes p s) (differ_pairs sat s ps aim).states
    pairs-go [] aims.Test pf f af = tt
    pairs-go [] (aims.Head k first) pf f af = (before-goes (task.Begin k first false ∷ []) (af, tt), tt)
    pairs-go (o ∷ ps) aim pf f af = first-goes ps aim pf.1 af (tm_of o.left) (tm_of o.right) f.0 f.1 f.2

    pub differ-goes : (ps : List Pair) (aim : Aim) → PairsFirm s ps → AimBelow p (length s.made) aim → EachState (Goes p s) (differ_terms sat s ps aim).states
    differ-goes ps aim pf af = pairs-go (from_first (meaning s) ps) aim (first-firm s solved h.bindings ps pf) (first-read s solved h.bindings ps pf) af

    -- ---- items

    tests-firm : (ks : List Coeff) → Each (AssumedFirm s) (map (λ k. con.Num (Var k.x)) ks)
    tests-firm [] = tt
    tests-firm (k ∷ ks) = (tt, tests-firm ks)

    row-firm : (r : Linear) → Each (AssumedFirm s) (number_tests r ++ con.Row r ∷ [])
    row-firm r = Each-append (AssumedFirm s) (number_tests r) (con.Row r ∷ []) (tests-firm r.coeffs) (tt, tt)

    pub test-goes : (c : Con) → ConFirm s c → EachState (Goes p s) (test_item sat s c).states
    test-goes (con.Eq t u) b = (before-goes (task.Equate t u ∷ []) (b, tt), tt)
    test-goes (con.Neq t u) b = by (is_empty (universals_of s (con.Neq t u)))
      where
        by : (c : Bool) → EachState (Goes p s) (if c then assume sat s (con.Neq t u) else goes (before (task.Differ (record { left = t; right = u } ∷ []) aims.Test ∷ []) s)).states
        by true = assumed-goes (con.Neq t u) b
        by false = (before-goes (task.Differ (record { left = t; right = u } ∷ []) aims.Test ∷ []) ((((b.0, firm-below s (tm_of u) b.1), tt), tt), tt), tt)
    test-goes (con.NotShape x f k) b = assumed-goes (con.NotShape x f k) b
    test-goes (con.Num t) b = assumed-goes (con.Num t) tt
    test-goes (con.NotNum t) b = assumed-goes (con.NotNum t) tt
    test-goes (con.Row r) b = by (is_empty (universals_of s (con.Row r)))
      where
        by : (c : Bool) → EachState (Goes p s) (if c then assume_all sat (number_tests r ++ con.Row r ∷ []) s else assume sat s (con.Row r)).states
        by true =
            each_weaker (λ o. Goes p s o × Assumes s o) (Goes p s) (assume_all sat (number_tests r ++ con.Row r ∷ []) s).states (λ o g. g.0)
            (all-assumed-goes (number_tests r ++ con.Row r ∷ []) (row-firm r))
        by false = assumed-goes (con.Row r) tt

-- ---- equations

-- from the state with other work
makes-since : (s r : State) (ws : List Task) → Makes (record s { work = ws }) r → Makes s r
makes-since s r ws m = record {
  onto = record { more = m.onto.more; kinded = m.onto.kinded; firm = m.onto.firm };
  fresh = m.fresh;
  covers = m.covers;
  literals = m.literals;
}

pairs-equated : (p : Program) (sat : List Con → Bool) (s : State) → Clear p s → Each (TaskFirm p s) s.work → (ps : List Pair) → Each (Both (Kinded s) (Kinded s)) ps
    → EachState (Goes p s) (equate_pairs sat s ps).states
pairs-equated p sat s h w [] f = (record { clear = h; work = w; circle = (λ c. c) }, tt)
pairs-equated p sat s h w (o ∷ ps) f =
    each_weaker (λ r. Makes next r × (Makes next r → Goes p s r)) (Goes p s) (equated sat next (tm_of o.left) (tm_of o.right)).states (λ r k. k.1 k.0)
    (each_both (Makes next) (λ r. Makes next r → Goes p s r) (equated sat next (tm_of o.left) (tm_of o.right)).states (equated-makes sat next (tm_of o.left) (tm_of o.right))
    (equated-states (λ r. Makes next r → Goes p s r) sat next (tm_of o.left) (tm_of o.right)
    (λ x e r a m. since r (after-goes p sat next k v x (tm_of o.right) (subst (EachVar (Kinded s)) e f.0.0) f.0.1 (apart-left (tm_of o.left) (tm_of o.right) x f.0.2 e) r m a))
    (λ y e r a m. since r (after-goes p sat next k v y (tm_of o.left) (subst (EachVar (Kinded s)) e f.0.1) f.0.0 (apart-right (tm_of o.left) (tm_of o.right) y f.0.2 e) r m a))))
  where
    next : State
    next = before (equations_of ps) s

    k : Clear p (before (equations_of ps) s)
    k = record { bindings = h.bindings; covers = h.covers; literals = h.literals }

    v : Each (TaskFirm p s) (equations_of ps ++ s.work)
    v =
        Each-append (TaskFirm p s) (equations_of ps) s.work
        (equations-firm p s ps (Each-map (Both (Kinded s) (Kinded s)) (BothFirm s) (λ o g. (kinded-term s (tm_of o.left) g.0, kinded-term s (tm_of o.right) g.1)) ps f.1)) w

    since : (r : State) → Goes p (before (equations_of ps) s) r → Goes p s r
    since r g = record { clear = g.clear; work = g.work; circle = g.circle }

pub equate-goes : (p : Program) (sat : List Con → Bool) (s : State) → Clear p s → Each (TaskFirm p s) s.work → Solved (length s.made) s.bound → (t u : Term)
    → TermFirm s (tm_of t) → TermFirm s (tm_of u) → EachState (Goes p s) (equate_terms sat s (tm_of t) (tm_of u)).states
equate-goes p sat s h w solved t u kt ku =
    pairs-equated p sat s h w (pairs_of (under (meaning s) (tm_of t)) (under (meaning s) (tm_of u)))
    (pairs-both (Kinded s) (Kinded s) (under (meaning s) (tm_of t)) (under (meaning s) (tm_of u)) (read-kinded s solved h.bindings (tm_of t) kt) (read-kinded s solved h.bindings (tm_of u) ku))
