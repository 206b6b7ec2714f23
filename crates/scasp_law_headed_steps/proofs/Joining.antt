-- What comes of a state where two terms that differ are equated: one binding more, and maybe a number test and more equations.
use Rattle.std.specs.List.{list_all}
use Rattle.std.specs.Prelude.{Bool, List, [], false, if◌then◌else◌, length, map, max, min, nat_eq, nat_lt, not, true, zero, ℕ, ◌&&◌, ◌++◌, ◌<◌, ◌∷◌, ◌≡◌, ◌≤◌, ◌⊎◌}
use Rattle.std.proofs.Common.{ap, append_assoc, arith, inl, inr, refl, subst, suc, sym, ◌∙◌, ◌≢◌}
use Rattle.std.proofs.lemmas.Bool.{and_parts, eqb-false, eqb-true, ltb-false, ltb-true, ne_eqb, or_cases, or_parts, true≢false}
use Rattle.std.proofs.lemmas.List.{append-nil, map-append}
use Rattle.std.proofs.lemmas.List.Elements.{Contains-push}
use Rattle.scasp_hint.proofs.SatisfyingLemmas.{sat-sorted}
use Rattle.scasp_hint.specs.Satisfying.{sat}
use Rattle.scasp_law_first_event.proofs.Apart.{Apart}
use Rattle.scasp_law_first_event.proofs.Bindings.{Solved, above-unbound}
use Rattle.scasp_law_first_event.proofs.EachStates.{each_followed, each_map, each_weaker}
use Rattle.scasp_law_first_event.proofs.Firming.{bind-makes, new-onto, onto-by, parts-each, still-bound}
use Rattle.scasp_law_first_event.proofs.Firmness.{BindingFirm, Firm, Kinded, Onto, as-many, is_loose, kinded-firm, onto-then, read-kinded}
use Rattle.scasp_law_first_event.proofs.Terms.{EachVar, each-absent, each-weaker}
use Rattle.scasp_law_parts.proofs.BoundLemmas.{bound-read}
use Rattle.scasp_law_parts.proofs.TriangularLemmas.{more-met, more-triangular, solved-self}
use Rattle.scasp_law_parts.specs.Bound.{IsFree, Triangular}
use Rattle.scasp_law_parts.specs.Parts.{lies_within}
use Rattle.scasp_law_sorted.proofs.Evenness.{even-bind, even-binding, even-new, tame-at}
use Rattle.scasp_list.proofs.EachLemmas.{Each-left, Each-map, Each-right, test_from-Each}
use Rattle.scasp_list.proofs.MemberLemmas.{Contains-map}
use Rattle.scasp_list.specs.Each.{Each}
use Rattle.scasp_num.specs.Number.{Number}
use Rattle.scasp_search_rules.specs.Successors.Assumptions.{assume}
use Rattle.scasp_search_rules.specs.Successors.Equations.{becomes_number, becomes_shape, bound_if, equated, equations, equations_of, replaced_if, two_existentials, two_variables, variable_app, variable_number}
use Rattle.scasp_search_rules.specs.Successors.Falls.{EachState}
use Rattle.scasp_search_rules.specs.Successors.Pairs.{all_pairs_of, pair, pairs, pairs_of}
use Rattle.scasp_search_rules.specs.Successors.Regions.{before, equation}
use Rattle.scasp_search_rules.specs.Successors.Splits.{is_bound_in}
use Rattle.scasp_search_rules.specs.Successors.Steps.{each, fails, only_if}
use Rattle.scasp_search_rules.specs.Successors.Variables.{bind, binding, depth_of, is_universal, next_variable, with_binding, with_new}
use Rattle.scasp_search_rules.specs.declared.states.state.Kind.TheVariants.{Existential, Universal}
use Rattle.scasp_search_rules.specs.declared.states.state.State.{State}
use Rattle.scasp_search_rules.specs.declared.states.tasks.Pair.{Pair}
use Rattle.scasp_search_rules.specs.declared.states.tasks.Task.{Task}
use Rattle.scasp_search_rules.specs.declared.states.tasks.Task.TheVariants as task
use Rattle.scasp_syntax.proofs.SameLemmas.{tm_decided}
use Rattle.scasp_syntax.specs.Same.{same_number}
use Rattle.scasp_syntax.specs.Tm.{Tm, Tms, app, cons, items, nil, num, var}
use Rattle.scasp_syntax.specs.Values.{Sub, all_under, under}
use Rattle.scasp_syntax.specs.View.{tm_of}
use Rattle.scasp_syntax.specs.declared.con.Con.{Con}
use Rattle.scasp_syntax.specs.declared.con.Con.TheVariants as con
use Rattle.scasp_syntax.specs.declared.term.Term.TheVariants.{Var}
use Rattle.scasp_unify.proofs.Members.{Each-member}
use Rattle.scasp_unify.proofs.SimpleLemmas.{viewed}
use Rattle.scasp_unify.specs.Negations.{new_parts}
use Rattle.scasp_unify.specs.Parts.{occurs, occurs_among}
use Rattle.scasp_unify.specs.Resolver.{Equal}
use Rattle.scasp_unify.specs.Solving.{sub_of}
use Rattle.scasp_unify.specs.declared.bindings.Binding.{Binding}
use Rattle.scasp_law_headed_steps.proofs.Assuming.{Found, Kept, KeptAt, assume-plain}
use Rattle.scasp_law_headed_steps.proofs.Forms.{ConAll, all-con-weaker, con-vars-test}
use Rattle.scasp_law_headed_steps.specs.Calm.{holds_of}

-- ---- bindings

-- of bindings that bind none of the variables of this one
free-of : (bs : List Binding) (b : Binding) → is_bound_in bs b.x ≡ false → EachVar (λ y. is_bound_in bs y ≡ false) (tm_of b.term) → Each (λ a. IsFree a.x b) bs
free-of [] b e h = tt
free-of (a ∷ bs) b e h =
    let q = or_parts (nat_eq a.x b.x) (is_bound_in bs b.x) e in (
      (
        ne_eqb b.x a.x (λ f. eqb-false a.x b.x q.0 (sym f)),
        each-absent a.x (tm_of b.term) (each-weaker (λ y. is_bound_in (a ∷ bs) y ≡ false) (λ y. y ≢ a.x) (λ y f g. eqb-false a.x y (or_parts (nat_eq a.x y) (is_bound_in bs y) f).0 (sym g)) (tm_of b.term) h),
      ),
      free-of bs b q.1 (each-weaker (λ y. is_bound_in (a ∷ bs) y ≡ false) (λ y. is_bound_in bs y ≡ false) (λ y f. (or_parts (nat_eq a.x y) (is_bound_in bs y) f).1) (tm_of b.term) h),
    )

-- a free variable, bound to a term of free variables in which it does not stand
pub triangular-push : (bs : List Binding) (x : ℕ) (t : Tm) → Triangular bs → is_bound_in bs x ≡ false → EachVar (λ y. (is_bound_in bs y ≡ false) × (y ≢ x)) t → Triangular (bs ++ binding x t ∷ [])
triangular-push bs x t h e k =
    more-triangular bs (binding x t) h
    (ap (occurs x) (viewed t) ∙ each-absent x t (each-weaker (λ y. (is_bound_in bs y ≡ false) × (y ≢ x)) (λ y. y ≢ x) (λ y a. a.1) t k))
    (free-of bs (binding x t) e (subst (EachVar (λ y. is_bound_in bs y ≡ false)) (sym (viewed t)) (each-weaker (λ y. (is_bound_in bs y ≡ false) × (y ≢ x)) (λ y. is_bound_in bs y ≡ false) (λ y a. a.0) t k)))

onto-firm : (s r : State) → Onto s r → (gs : List Con) → Each (ConAll (Firm s)) gs → Each (ConAll (Firm r)) gs
onto-firm s r o gs h = Each-map (ConAll (Firm s)) (ConAll (Firm r)) (λ c k. all-con-weaker (Firm s) (Firm r) o.firm c k) gs h

-- where the list with the binding passes the test
bind-kept : (s : State) (x : ℕ) (t : Tm) → Kept s → is_bound_in s.bound x ≡ false → EachVar (λ y. (is_bound_in s.bound y ≡ false) × (y ≢ x)) t → sat (holds_of (bind s x t)) ≡ true → Kept (bind s x t)
bind-kept s x t h e k m = record {
  even = even-bind s x t h.even;
  triangular = triangular-push s.bound x t h.triangular e k;
  met = (sat-sorted (holds_of (bind s x t)) (even-bind s x t h.even).settled.sorted).0 m;
  firm = onto-firm s (bind s x t) (bind-makes s x t).onto s.given h.firm;
}

-- ---- pairs

abbrev pub PairEqual : Sub → Pair → Type 0
PairEqual v o = under v (tm_of o.left) ≡ under v (tm_of o.right)

pub args-equal : (v : Sub) (ts us : Tms) → length (items ts) ≡ length (items us) → Each (PairEqual v) (pairs ts us) → all_under v ts ≡ all_under v us
args-equal v nil nil e h = refl
args-equal v nil (cons u us) e h = absurd (omega (arith, e))
args-equal v (cons t ts) nil e h = absurd (omega (arith, e))
args-equal v (cons t ts) (cons u us) e h =
    let first : under v t ≡ under v u = ap (under v) (sym (viewed t)) ∙ h.0 ∙ ap (under v) (viewed u) in
    let rest : all_under v ts ≡ all_under v us = args-equal v ts us (omega (arith, e)) h.1 in
    λ i. cons (first i) (rest i)

pub parts-many : (k n : ℕ) → length (items (new_parts k n)) ≡ n
parts-many k zero = refl
parts-many k (suc n) = ap suc (parts-many (suc k) n)

one-equal : (v : Sub) (t u : Tm) → PairEqual v (pair t u) → under v t ≡ under v u
one-equal v t u h = ap (under v) (sym (viewed t)) ∙ h ∙ ap (under v) (viewed u)

names-equal : (v : Sub) (f g : ℕ) (ts us : Tms) → (length (items ts) ≡ length (items us) → Each (PairEqual v) (all_pairs_of ts us) → all_under v ts ≡ all_under v us)
    → (b : Bool) → (nat_eq f g && nat_eq (length (items ts)) (length (items us))) ≡ b → Each (PairEqual v) (if b then all_pairs_of ts us else pair (app f ts) (app g us) ∷ [])
    → app f (all_under v ts) ≡ app g (all_under v us)
names-equal v f g ts us rec true e k =
    let q = and_parts (nat_eq f g) (nat_eq (length (items ts)) (length (items us))) e in
    let name : f ≡ g = eqb-true f g q.0 in
    let args : all_under v ts ≡ all_under v us = rec (eqb-true (length (items ts)) (length (items us)) q.1) k in
    λ i. app (name i) (args i)
names-equal v f g ts us rec false e k = k.0

-- the pairs that two terms come to are equal only where the terms are
mutual
  pub pairs-equal : (v : Sub) (t u : Tm) → Each (PairEqual v) (pairs_of t u) → under v t ≡ under v u
  pairs-equal v (var x) (var y) h = by (nat_eq x y) refl h
    where
      by : (b : Bool) → nat_eq x y ≡ b → Each (PairEqual v) (if b then [] else pair (var x) (var y) ∷ []) → v x ≡ v y
      by true e k = ap v (eqb-true x y e)
      by false e k = k.0
  pairs-equal v (var x) (num q) h = h.0
  pairs-equal v (var x) (app f ts) h = h.0
  pairs-equal v (num q) (var y) h = h.0
  pairs-equal v (num q) (num r) h = by (same_number q r) refl h
    where
      by : (b : Bool) → same_number q r ≡ b → Each (PairEqual v) (if b then [] else pair (num q) (num r) ∷ []) → num q ≡ num r
      by true e k = (tm_decided (num q) (num r)).0 e
      by false e k = k.0
  pairs-equal v (num q) (app f ts) h = h.0
  pairs-equal v (app f ts) (var y) h = h.0
  pairs-equal v (app f ts) (num r) h = h.0
  pairs-equal v (app f ts) (app g us) h =
      names-equal v f g ts us (all-pairs-equal v ts us) (nat_eq f g && nat_eq (length (items ts)) (length (items us))) refl h

  all-pairs-equal : (v : Sub) (ts us : Tms) → length (items ts) ≡ length (items us) → Each (PairEqual v) (all_pairs_of ts us) → all_under v ts ≡ all_under v us
  all-pairs-equal v nil nil e h = refl
  all-pairs-equal v nil (cons u us) e h = absurd (omega (arith, e))
  all-pairs-equal v (cons t ts) nil e h = absurd (omega (arith, e))
  all-pairs-equal v (cons t ts) (cons u us) e h =
      let first : under v t ≡ under v u = pairs-equal v t u (Each-left (PairEqual v) (pairs_of t u) (all_pairs_of ts us) h) in
      let rest : all_under v ts ≡ all_under v us = all-pairs-equal v ts us (omega (arith, e)) (Each-right (PairEqual v) (pairs_of t u) (all_pairs_of ts us) h) in
      λ i. cons (first i) (rest i)

-- ---- joins

-- r comes of s by making the two terms equal: where its bindings and given constraints hold, and the equations that are left, they are
pub record Joins (s : State) (t u : Tm) (r : State) : Type 0 where
  pub onto : Onto s r
  pub more_bound : List Binding
  pub bound : r.bound ≡ s.bound ++ more_bound
  pub more_given : List Con
  pub given : r.given ≡ s.given ++ more_given
  pub kept : Kept r
  pub covers : r.covers ≡ s.covers
  pub literals : r.literals ≡ s.literals
  pub lines : r.lines ≡ s.lines
  pub left : List Pair
  pub work : r.work ≡ equations_of left ++ s.work
  pub same : (v : Sub) → Each (Equal v) (map equation r.bound) → Each (PairEqual v) left → under v t ≡ under v u
  pub case_count : r.cases ≡ s.cases
  pub binders : (z : ℕ) → is_bound_in more_bound z ≡ true → (t ≡ var z) ⊎ (u ≡ var z)

-- no equation is left
abbrev pub JoinsAlone : State → Tm → Tm → State → Type 0
JoinsAlone s t u r = (j : Joins s t u r) × (j.left ≡ [])

-- the last binding holds
pub last-equal : (bs : List Binding) (x : ℕ) (t : Tm) (v : Sub) → Each (Equal v) (map equation (bs ++ binding x t ∷ [])) → v x ≡ under v t
last-equal bs x t v h =
    Each-member (Equal v) (map equation (bs ++ binding x t ∷ [])) (equation (binding x t)) h (Contains-map equation (bs ++ binding x t ∷ []) (binding x t) (Contains-push bs (binding x t)))
    ∙ ap (under v) (viewed t)

one-binder : (x : ℕ) (t : Tm) (z : ℕ) → is_bound_in (binding x t ∷ []) z ≡ true → x ≡ z
one-binder x t z e = by (or_cases (nat_eq x z) false e)
  where
    by : (nat_eq x z ≡ true) ⊎ (false ≡ true) → x ≡ z
    by (inl h) = eqb-true x z h
    by (inr h) = absurd (true≢false (sym h))

-- one binding more
bound-joins : (s : State) (x : ℕ) (t : Tm) → Kept s → is_bound_in s.bound x ≡ false → EachVar (λ y. (is_bound_in s.bound y ≡ false) × (y ≢ x)) t → EachState (JoinsAlone s (var x) t) (bound_if sat (bind s x t)).states
bound-joins s x t h e k = by (sat (holds_of (bind s x t))) refl
  where
    by : (b : Bool) → sat (holds_of (bind s x t)) ≡ b → EachState (JoinsAlone s (var x) t) (only_if b (bind s x t))
    by false f = tt
    by true f = (
      (
        record {
          onto = (bind-makes s x t).onto;
          more_bound = binding x t ∷ [];
          bound = refl;
          more_given = [];
          given = sym (append-nil s.given);
          kept = bind-kept s x t h e k f;
          covers = refl;
          literals = refl;
          lines = refl;
          left = [];
          work = refl;
          same = λ v m n. last-equal s.bound x t v m;
          case_count = refl;
          binders = λ z f. inl (ap var (one-binder x t z f));
        },
        refl,
      ),
      tt,
    )

turned-joins : (s : State) (t u : Tm) (r : State) → Joins s t u r → Joins s u t r
turned-joins s t u r j = record {
  onto = j.onto;
  more_bound = j.more_bound;
  bound = j.bound;
  more_given = j.more_given;
  given = j.given;
  kept = j.kept;
  covers = j.covers;
  literals = j.literals;
  lines = j.lines;
  left = j.left;
  work = j.work;
  same = λ v m n. sym (j.same v m n);
  case_count = j.case_count;
  binders = λ z f. turned (j.binders z f);
}
  where
    turned : {A B : Type 0} → A ⊎ B → B ⊎ A
    turned (inl a) = inr a
    turned (inr b) = inl b

turned-alone : (s : State) (t u : Tm) (r : State) → JoinsAlone s t u r → JoinsAlone s u t r
unfolding turned-joins
turned-alone s t u r k = (turned-joins s t u r k.0, k.1)

module _ (s : State) (solved : Solved (length s.made) s.bound) (bindings : Each (BindingFirm s) s.bound) (h : Kept s) where
  pub variables-join : (x y : ℕ) → Found s x → Found s y → x ≢ y → EachState (JoinsAlone s (var x) (var y)) (two_variables sat s x y (is_universal s x) (is_universal s y)).states
  variables-join x y a b n = by (is_universal s x) (is_universal s y) (tame-at s.made h.even.kinds x) (tame-at s.made h.even.kinds y)
    where
      one : (z w : ℕ) → Found s z → Found s w → z ≢ w → EachState (JoinsAlone s (var z) (var w)) (bound_if sat (bind s z (var w))).states
      one z w c d m = bound-joins s z (var w) h c.1 (d.1, (λ e. m (sym e)))

      ordered : (c : Bool) → nat_lt x y ≡ c → EachState (JoinsAlone s (var x) (var y)) (two_existentials sat s x y).states
      ordered true e =
          let l : x < y = ltb-true x y e in
          let p : max x y ≡ y = omega (arith, l) in
          let q : min x y ≡ x = omega (arith, l) in
          subst (λ (z : ℕ). EachState (JoinsAlone s (var x) (var y)) (bound_if sat (bind s z (var (min x y)))).states) (sym p)
          (subst (λ (z : ℕ). EachState (JoinsAlone s (var x) (var y)) (bound_if sat (bind s y (var z))).states) (sym q)
          (each_weaker (JoinsAlone s (var y) (var x)) (JoinsAlone s (var x) (var y)) (bound_if sat (bind s y (var x))).states (turned-alone s (var y) (var x)) (one y x b a (λ e. n (sym e)))))
      ordered false e =
          let l : y ≤ x = ltb-false x y e in
          let p : max x y ≡ x = omega (arith, l) in
          let q : min x y ≡ y = omega (arith, l) in
          subst (λ (z : ℕ). EachState (JoinsAlone s (var x) (var y)) (bound_if sat (bind s z (var (min x y)))).states) (sym p)
          (subst (λ (z : ℕ). EachState (JoinsAlone s (var x) (var y)) (bound_if sat (bind s x (var z))).states) (sym q) (one x y a b n))

      by : (i j : Bool) → i ≡ false → j ≡ false → EachState (JoinsAlone s (var x) (var y)) (two_variables sat s x y i j).states
      by false false f g = ordered (nat_lt x y) refl
      by false true f g = absurd (true≢false g)
      by true j f g = absurd (true≢false f)

  -- x gets the name with new arguments
  pub shape-joins : (x f n : ℕ) → Found s x → EachState (JoinsAlone s (var x) (app f (new_parts (next_variable s) n))) (becomes_shape sat s x f n).states
  shape-joins x f n a = by (is_universal s x) (tame-at s.made h.even.kinds x)
    where
      t : Tm
      t = app f (new_parts (next_variable s) n)

      r : State
      r = with_new s Existential (depth_of s x) n

      o : Onto s (with_new s Existential (depth_of s x) n)
      o = new-onto s Existential (depth_of s x) n

      kept : Kept (with_new s Existential (depth_of s x) n)
      kept = record {
        even = even-new s Existential (depth_of s x) n refl h.even;
        triangular = h.triangular;
        met = h.met;
        firm = onto-firm s (with_new s Existential (depth_of s x) n) o s.given h.firm;
      }

      fresh : (z : ℕ) → length s.made ≤ z → (is_bound_in s.bound z ≡ false) × (z ≢ x)
      fresh z l = (above-unbound (length s.made) s.bound solved z l, λ e. (let m : x < length s.made = a.0.0 in absurd (omega (arith, l, m, e))))

      lifted : (q : State) → Joins (with_new s Existential (depth_of s x) n) (var x) (app f (new_parts (next_variable s) n)) q → Joins s (var x) (app f (new_parts (next_variable s) n)) q
      lifted q j = record {
        onto = onto-then s (with_new s Existential (depth_of s x) n) q o j.onto;
        more_bound = j.more_bound;
        bound = j.bound;
        more_given = j.more_given;
        given = j.given;
        kept = j.kept;
        covers = j.covers;
        literals = j.literals;
        lines = j.lines;
        left = j.left;
        work = j.work;
        same = j.same;
        case_count = j.case_count;
        binders = j.binders;
      }

      by : (b : Bool) → b ≡ false
          → EachState (JoinsAlone s (var x) (app f (new_parts (next_variable s) n))) (if b then replaced_if sat (with_new s Universal (depth_of s x) n) x (app f (new_parts (next_variable s) n)) else bound_if sat (bind (with_new s Existential (depth_of s x) n) x (app f (new_parts (next_variable s) n)))).states
      by true g = absurd (true≢false g)
      by false g =
          each_weaker (JoinsAlone r (var x) t) (JoinsAlone s (var x) t) (bound_if sat (bind r x t)).states
          (λ q k. (lifted q k.0, k.1)) (bound-joins r x t kept a.1 (parts-each (λ y. (is_bound_in s.bound y ≡ false) × (y ≢ x)) (length s.made) (length s.made) n (omega arith) (λ z l m. fresh z l)))

  -- with more that is given
  more-joins : (gs : List Con) (t u : Tm) (r : State) → Joins (record s { given = s.given ++ gs }) t u r → Joins s t u r
  more-joins gs t u r j = record {
    onto = record { more = j.onto.more; kinded = j.onto.kinded; firm = j.onto.firm };
    more_bound = j.more_bound;
    bound = j.bound;
    more_given = gs ++ j.more_given;
    given = j.given ∙ append_assoc s.given gs j.more_given;
    kept = j.kept;
    covers = j.covers;
    literals = j.literals;
    lines = j.lines;
    left = j.left;
    work = j.work;
    same = j.same;
    case_count = j.case_count;
    binders = j.binders;
  }

  pub number-joins : (x : ℕ) (q : Number) → Found s x → EachState (JoinsAlone s (var x) (num q)) (variable_number sat s x q).states
  unfolding more-joins
  number-joins x q a =
      each_followed (λ t. EachState (JoinsAlone s (var x) (num q)) (becomes_number sat x q t).states) (JoinsAlone s (var x) (num q)) (becomes_number sat x q) (assume sat s (con.Num (Var x))).states
      (assume-plain s solved bindings h (con.Num (Var x)) tt (kinded-firm s x a.0) (λ t. EachState (JoinsAlone s (var x) (num q)) (becomes_number sat x q t).states) (λ gs kept e. becomes gs kept)) (λ t l. l)
    where
      becomes : (gs : List Con) → KeptAt s.made s.bound (s.given ++ gs) s.covers → EachState (JoinsAlone s (var x) (num q)) (becomes_number sat x q (record s { given = s.given ++ gs })).states
      becomes gs kept = by (is_universal s x) (tame-at s.made h.even.kinds x)
        where
          r : State
          r = record s { given = s.given ++ gs }

          by : (b : Bool) → b ≡ false
              → EachState (JoinsAlone s (var x) (num q)) (if b then replaced_if sat (record s { given = s.given ++ gs }) x (num q) else bound_if sat (bind (record s { given = s.given ++ gs }) x (num q))).states
          by true f = absurd (true≢false f)
          by false f = each_weaker (JoinsAlone r (var x) (num q)) (JoinsAlone s (var x) (num q)) (bound_if sat (bind r x (num q))).states (λ o j. (more-joins gs (var x) (num q) o j.0, j.1)) (bound-joins r x (num q) kept a.1 tt)

  app-joins : (x f : ℕ) (ts : Tms) → Found s x → EachState (Joins s (var x) (app f ts)) (variable_app sat s x f ts).states
  app-joins x f ts a = by (occurs_among x ts)
    where
      n : ℕ
      n = length (items ts)

      new : Tms
      new = new_parts (next_variable s) (length (items ts))

      put : (r : State) → Joins s (var x) (app f (new_parts (next_variable s) (length (items ts)))) r → Joins s (var x) (app f ts) (before (equations (new_parts (next_variable s) (length (items ts))) ts) r)
      put r j = record {
        onto = record { more = j.onto.more; kinded = j.onto.kinded; firm = j.onto.firm };
        more_bound = j.more_bound;
        bound = j.bound;
        more_given = j.more_given;
        given = j.given;
        kept = j.kept;
        covers = j.covers;
        literals = j.literals;
        lines = j.lines;
        left = pairs new ts ++ j.left;
        work =
            ap (λ (ws : List Task). equations_of (pairs new ts) ++ ws) j.work ∙ sym (append_assoc (equations_of (pairs new ts)) (equations_of j.left) s.work)
            ∙ ap (λ (ws : List Task). ws ++ s.work) (sym (map-append (λ (o : Pair). task.Equate o.left o.right) (pairs new ts) j.left));
        same = λ v m e.
            j.same v m (Each-right (PairEqual v) (pairs new ts) j.left e)
            ∙ ap (app f) (args-equal v new ts (parts-many (next_variable s) (length (items ts))) (Each-left (PairEqual v) (pairs new ts) j.left e));
        case_count = j.case_count;
        binders = λ z k. by z (j.binders z k);
      }
        where
          by : (z : ℕ) → (var x ≡ var z) ⊎ (app f (new_parts (next_variable s) (length (items ts))) ≡ var z) → (var x ≡ var z) ⊎ (app f ts ≡ var z)
          by z (inl k) = inl k
          by z (inr k) = absurd (cc k)

      by : (b : Bool) → EachState (Joins s (var x) (app f ts)) (if b then fails else each (before (equations (new_parts (next_variable s) (length (items ts))) ts)) (becomes_shape sat s x f (length (items ts)))).states
      by true = tt
      by false =
          each_map (JoinsAlone s (var x) (app f new)) (Joins s (var x) (app f ts)) (before (equations new ts)) (becomes_shape sat s x f n).states (shape-joins x f n a) (λ r k. put r k.0)

  -- the sides of a pair that terms come to as they read
  pub terms-join : (t u : Tm) → EachVar (Found s) t → EachVar (Found s) u → Apart t u → EachState (Joins s t u) (equated sat s t u).states
  terms-join (var x) (var y) a b n = each_weaker (JoinsAlone s (var x) (var y)) (Joins s (var x) (var y)) (equated sat s (var x) (var y)).states (λ r k. k.0) (variables-join x y a b n)
  terms-join (var x) (num q) a b n = each_weaker (JoinsAlone s (var x) (num q)) (Joins s (var x) (num q)) (variable_number sat s x q).states (λ r k. k.0) (number-joins x q a)
  terms-join (var x) (app f ts) a b n = app-joins x f ts a
  terms-join (num q) (var y) a b n = each_weaker (JoinsAlone s (var y) (num q)) (Joins s (num q) (var y)) (variable_number sat s y q).states (λ r k. turned-joins s (var y) (num q) r k.0) (number-joins y q b)
  terms-join (num q) (num r) a b n = tt
  terms-join (num q) (app f ts) a b n = tt
  terms-join (app f ts) (var y) a b n = each_weaker (Joins s (var y) (app f ts)) (Joins s (app f ts) (var y)) (variable_app sat s y f ts).states (turned-joins s (var y) (app f ts)) (app-joins y f ts b)
  terms-join (app f ts) (num r) a b n = tt
  terms-join (app f ts) (app g us) a b n = tt

-- ---- a variable of a head

-- the head's variable stands for the literal's part, whatever is given
pub taken-kept : (s : State) (y : ℕ) (t : Tm) → Solved (length s.made) s.bound → Each (BindingFirm s) s.bound → Kept s → is_loose s y ≡ true → is_bound_in s.bound y ≡ false → EachVar (Found s) t → Kept (with_binding s y t)
taken-kept s y t solved bindings h l e k = record {
  even = even-binding s y t h.even;
  triangular = now;
  met = (bound-read (s.bound ++ binding y t ∷ []) s.given (solved-self (s.bound ++ binding y t ∷ []) now)).1
      (more-met s.bound (binding y t) s.given within ((bound-read s.bound s.given (solved-self s.bound h.triangular)).0 h.met));
  firm = onto-firm s (with_binding s y t) (onto-by s (with_binding s y t) (as-many (length s.made)) (λ z m. refl) (λ z f. still-bound s.bound (binding y t) z f)) s.given h.firm;
}
  where
    other : (z : ℕ) → Kinded s z → z ≢ y
    other z m f = true≢false (sym l ∙ ap (is_loose s) (sym f) ∙ m.1)

    now : Triangular (s.bound ++ binding y t ∷ [])
    now = triangular-push s.bound y t h.triangular e (each-weaker (Found s) (λ z. (is_bound_in s.bound z ≡ false) × (z ≢ y)) (λ z m. (m.1, other z m.0)) t k)

    within : list_all (lies_within (sub_of s.bound) (λ z. not (nat_eq z y))) s.given ≡ true
    within =
        test_from-Each (lies_within (sub_of s.bound) (λ z. not (nat_eq z y))) (ConAll (Firm s))
        (λ c m.
        con-vars-test (Kinded s) (λ z. not (nat_eq z y)) (λ z q. ap not (ne_eqb z y (other z q))) (Firm s) (sub_of s.bound) (λ x q. read-kinded s solved bindings (var x) q) c m) s.given h.firm
