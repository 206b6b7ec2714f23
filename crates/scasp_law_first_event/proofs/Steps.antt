-- Free steps keep what is held, and what stands in front, but where a variable is bound to a term in which it stands.
use Rattle.std.specs.Prelude.{◌≡◌, ◌⊎◌, ℕ, zero, suc, ◌+◌, ◌<◌, ◌≤◌, Bool, true, false, if◌then◌else◌, List, [], ◌∷◌, ◌++◌, length, map}
use Rattle.std.proofs.Common.{refl, arith, sym, subst, inl, inr}
use Rattle.scasp_list.specs.Each.{Each}
use Rattle.scasp_list.proofs.EachLemmas.{Each-append}
use Rattle.scasp_num.specs.Linear.{Linear}
use Rattle.scasp_num.specs.Number.{Number}
use Rattle.scasp_num.specs.declared.linear.Coeff.{Coeff}
use Rattle.scasp_search_rules.specs.declared.states.outcomes.Status.{Status}
use Rattle.scasp_search_rules.specs.declared.states.outcomes.Status.TheVariants.{Entailed, Impossible, Added, Parts}
use Rattle.scasp_search_rules.specs.declared.states.state.State.{State}
use Rattle.scasp_search_rules.specs.declared.states.tasks.Aim.{Aim}
use Rattle.scasp_search_rules.specs.declared.states.tasks.Aim.TheVariants as aims
use Rattle.scasp_search_rules.specs.declared.states.tasks.Pair.{Pair}
use Rattle.scasp_search_rules.specs.declared.states.tasks.Task.{Task}
use Rattle.scasp_search_rules.specs.declared.states.tasks.Task.TheVariants as task
use Rattle.scasp_search_rules.specs.Successors.Assumptions.{status, assume, assume_all}
use Rattle.scasp_search_rules.specs.Successors.Differences.{when_apart, alternatives, at_part, part_of_variables, stands_first, differ_variables, differ_number, differ_value, differ_shape, differ_pair, differ_first, differ_pairs, differ_terms, same_value, same_shape, is_matched, take_up}
use Rattle.scasp_search_rules.specs.Successors.Equations.{becomes_shape, equated, equate_pairs, equate_terms, equations_of}
use Rattle.scasp_search_rules.specs.Successors.Falls.{EachState}
use Rattle.scasp_search_rules.specs.Successors.Items.{test_item, number_tests}
use Rattle.scasp_search_rules.specs.Successors.Pairs.{pairs, pairs_of, from_first}
use Rattle.scasp_search_rules.specs.Successors.Regions.{before}
use Rattle.scasp_search_rules.specs.Successors.Steps.{goes}
use Rattle.scasp_search_rules.specs.Successors.Variables.{meaning, next_variable, with_binding, universals_of, is_empty}
use Rattle.scasp_syntax.specs.Tm.{Tm, Tms, var, num, app, items}
use Rattle.scasp_syntax.specs.Values.{under}
use Rattle.scasp_syntax.specs.View.{tm_of}
use Rattle.scasp_syntax.specs.declared.con.Con.{Con}
use Rattle.scasp_syntax.specs.declared.con.Con.TheVariants as con
use Rattle.scasp_syntax.specs.declared.program.Program.{Program}
use Rattle.scasp_syntax.specs.declared.term.Term.{Term}
use Rattle.scasp_syntax.specs.declared.term.Term.TheVariants.{Var}
use Rattle.scasp_unify.specs.Negations.{new_parts}
use Rattle.scasp_unify.specs.Parts.{occurs_among}
use Rattle.scasp_unify.specs.SimpleForm.{differ, term_with}
use Rattle.scasp_unify.specs.Solving.{sub_of}
use Rattle.scasp_unify.specs.declared.bindings.Binding.{Binding}
use Rattle.scasp_law_first_event.specs.Events.{IsCircular}
use Rattle.scasp_law_first_event.proofs.Bindings.{Solved, Free, above-unbound}
use Rattle.scasp_law_first_event.proofs.EachStates.{each_map, each_weaker}
use Rattle.scasp_law_first_event.proofs.Fitting.{TermBelow, ArgsBelow, ConBelow, PairsBelow, AimBelow, Later, Front, later, becomes, args-more, pairs-more, aim-more, all-later-more, equations-later, pairs-below, parts-below}
use Rattle.scasp_law_first_event.proofs.Keeping.{Held, Orderly, Keep, held-work, keep-itself, keep-same, keep-bound, keep-puts, keep-assumed, keep-all-assumed}
use Rattle.scasp_law_first_event.proofs.Loads.{assume-same, all-assumed-same}
use Rattle.scasp_law_first_event.proofs.Moves.{Puts, After, equated-after, equated-states, shape-puts, in-front}
use Rattle.scasp_law_first_event.proofs.Pairing.{Sides, FirstSides, read-pairs, first-sides, sides-below, first-below}
use Rattle.scasp_law_first_event.proofs.Parting.{differs}
use Rattle.scasp_law_first_event.proofs.Terms.{EachVar, EachVars, each-weaker, all-weaker}

-- the state is orderly, or has a circle
abbrev pub Out : Program → State → Type 0
Out p r = Orderly p r ⊎ IsCircular r

pub each_both : (P Q : State → Type 0) (ss : List State) → EachState P ss → EachState Q ss → EachState (λ s. P s × Q s) ss
each_both P Q [] h k = tt
each_both P Q (s ∷ ss) h k = ((h.0, k.0), each_both P Q ss h.1 k.1)

-- with these tasks in front of the work
pub out-goes : (p : Program) (s r : State) → Keep p s r → Held p s → (ts : List Task) → r.work ≡ ts ++ s.work → Each (Later p (length r.made)) ts
    → Each (Later p (length s.made)) s.work → Out p r
out-goes p s r k h ts e f w = by (k.held h)
  where
    by : Held p r ⊎ IsCircular r → Out p r
    by (inl g) =
        inl (record {
          held = g;
          front =
              subst (Front p (length r.made) r.bound) (sym e)
              (later (ts ++ s.work) (Each-append (Later p (length r.made)) ts s.work f (all-later-more p (length s.made) (length r.made) k.more s.work w)));
        })
    by (inr c) = inr c

free-more : (n m : ℕ) (bs : List Binding) (y : ℕ) → n ≤ m → Free n bs y → Free m bs y
free-more n m bs y l f = let k : y < n = f.1 in (f.0, omega (arith, k, l))

new-free : (n : ℕ) (bs : List Binding) → Solved n bs → (k m j : ℕ) → n ≤ k → k + m ≤ j → EachVars (Free j bs) (new_parts k m)
new-free n bs solved k zero j l e = tt
new-free n bs solved k (suc m) j l e = ((above-unbound n bs solved k l, omega (arith, e)), new-free n bs solved (suc k) m j (omega (arith, l)) (omega (arith, e)))

-- the tasks that a form makes of pairs
abbrev pub Forms : Program → ℕ → (List Pair → List Task) → Type 0
Forms p n f = (m : ℕ) → n ≤ m → (qs : List Pair) → PairsBelow m qs → Each (Later p m) (f qs)

module _ (p : Program) (sat : List Con → Bool) (s : State) (h : Held p s) (w : Each (Later p (length s.made)) s.work) where
  pub before-out : (ts : List Task) → Each (Later p (length s.made)) ts → Out p (before ts s)
  before-out ts f = out-goes p s (before ts s) (keep-same p s (before ts s) refl (omega arith) (λ c. c) refl) h ts refl f w

  put-out : (f : List Pair → List Task) → Forms p (length s.made) f → (z : ℕ) (v : Tm) → z < length s.made → EachVar (Free (length s.made) s.bound) v
      → (r : State) → Puts s z v 0 (f [] ++ s.work) r → Out p r
  put-out f ok z v l fv r put =
      let e = put.made in
      let more : length s.made ≤ length r.made = omega (arith, e) in
      out-goes p s r
      (keep-puts p s z v 0 (f [] ++ s.work) r put (λ _. (l, each-weaker (Free (length s.made) s.bound) (Free (length s.made + 0) s.bound) (λ y g. free-more (length s.made) (length s.made + 0) s.bound y (omega arith) g) v fv)))
      h (f []) put.work_is (ok (length r.made) more [] tt) w

  shape-out : (f : List Pair → List Task) → Forms p (length s.made) f → (x g : ℕ) (us : Tms) → x < length s.made → ArgsBelow (length s.made) us → (r : State)
      → Puts s x (app g (new_parts (next_variable s) (length (items us)))) (length (items us)) (f (pairs (new_parts (next_variable s) (length (items us))) us) ++ s.work) r → Out p r
  shape-out f ok x g us l below r put =
      let n : ℕ = length s.made in
      let k : ℕ = length (items us) in
      let e = put.made in
      let more : n ≤ length r.made = omega (arith, e) in
      out-goes p s r
      (keep-puts p s x (app g (new_parts n k)) k (f (pairs (new_parts n k) us) ++ s.work) r put (λ _. (l, new-free n s.bound h.solved n k (n + k) (omega arith) (omega arith))))
      h (f (pairs (new_parts n k) us)) put.work_is
      (ok (length r.made) more (pairs (new_parts n k) us) (pairs-below (length r.made) (new_parts n k) us (parts-below (length r.made) n k (omega (arith, e))) (args-more p n (length r.made) more us below))) w

  pub after-out : (f : List Pair → List Task) → Forms p (length s.made) f → (x : ℕ) (t : Tm) → Free (length s.made) s.bound x → EachVar (Free (length s.made) s.bound) t
      → (r : State) → After s f x t r → Out p r
  after-out f ok x (var y) fx ft r (inl put) = put-out f ok x (var y) fx.1 ft r put
  after-out f ok x (var y) fx ft r (inr put) = put-out f ok y (var x) ft.1 fx r put
  after-out f ok x (num v) fx ft r put = put-out f ok x (num v) fx.1 tt r put
  after-out f ok x (app g us) fx ft r put = shape-out f ok x g us fx.1 (all-weaker (Free (length s.made) s.bound) (λ y. y < length s.made) (λ y k. k.1) us ft) r put.0

  -- ---- assuming

  pub assumed-out : (c : Con) → ConBelow (length s.made) c → EachState (Out p) (assume sat s c).states
  assumed-out c b =
      each_weaker (λ r. Keep p s r × (r.work ≡ s.work)) (Out p) (assume sat s c).states (λ r k. out-goes p s r k.0 h [] k.1 tt w)
      (each_both (Keep p s) (λ r. r.work ≡ s.work) (assume sat s c).states (keep-assumed p sat s c b) (assume-same sat s c))

  pub all-assumed-out : (cs : List Con) → Each (ConBelow (length s.made)) cs → EachState (Out p) (assume_all sat cs s).states
  all-assumed-out cs b =
      each_weaker (λ r. Keep p s r × (r.work ≡ s.work)) (Out p) (assume_all sat cs s).states (λ r k. out-goes p s r k.0 h [] k.1 tt w)
      (each_both (Keep p s) (λ r. r.work ≡ s.work) (assume_all sat cs s).states (keep-all-assumed p sat s s cs (keep-itself p s) b) (all-assumed-same sat s s cs refl))

  -- ---- telling apart

  module _ (rest : List Pair) (aim : Aim) (pb : PairsBelow (length s.made) rest) (ab : AimBelow p (length s.made) aim) where
    differs-form : Forms p (length s.made) (differs rest aim)
    differs-form m l qs q =
        ((Each-append (λ (o : Pair). TermBelow m (tm_of o.left) × TermBelow m (tm_of o.right)) qs rest q (pairs-more p (length s.made) m l rest pb), aim-more p (length s.made) m l aim ab), tt)

    apart-later : (a : Aim) → Each (Later p (length s.made)) (when_apart a)
    apart-later aims.Test = tt
    apart-later (aims.Head k first) = (tt, tt)

    apart-out : Out p (before (when_apart aim) s)
    apart-out = before-out (when_apart aim) (apart-later aim)

    part-out : (c : Con) → ConBelow (length s.made) c → (other : List Task) → Out p (before other s) → EachState (Out p) (at_part sat s c aim other).states
    part-out c b other o = by (status sat s c)
      where
        one : Out p (before (task.Assume c ∷ when_apart aim) s)
        one = before-out (task.Assume c ∷ when_apart aim) (b, apart-later aim)

        by : (a : Status) → EachState (Out p) (alternatives s (task.Assume c ∷ when_apart aim) other a)
        by Entailed = (one, (o, tt))
        by Impossible = (o, tt)
        by Added = (one, (o, tt))
        by Parts = (one, tt)

    becomes-out : (x y : ℕ) → Free (length s.made) s.bound x → Free (length s.made) s.bound y → Out p (before (task.Become x (Var y) rest aim ∷ []) s)
    becomes-out x y fx fy = inl (record { held = held-work p s (task.Become x (Var y) rest aim ∷ s.work) h; front = becomes x y rest aim s.work fx fy pb ab w })

    variables-out : (x y : ℕ) → Free (length s.made) s.bound x → Free (length s.made) s.bound y → EachState (Out p) (differ_variables sat s x y rest aim).states
    variables-out x y fx fy = by (stands_first s x y)
      where
        by : (b : Bool) → EachState (Out p) (if b then part_of_variables sat s x y rest aim else part_of_variables sat s y x rest aim).states
        by true = part-out (differ (var x) (var y)) (fx.1, fy.1) (task.Become x (Var y) rest aim ∷ []) (becomes-out x y fx fy)
        by false = part-out (differ (var y) (var x)) (fy.1, fx.1) (task.Become y (Var x) rest aim ∷ []) (becomes-out y x fy fx)

    number-out : (x : ℕ) (v : Number) → x < length s.made → EachState (Out p) (differ_number sat s x v rest aim).states
    number-out x v l =
        part-out (con.NotNum (Var x)) tt (task.Assume (con.Num (Var x)) ∷ task.Avoid x v rest aim ∷ [])
        (before-out (task.Assume (con.Num (Var x)) ∷ task.Avoid x v rest aim ∷ []) (tt, ((l, pb, ab), tt)))

    shape-part-out : (x f : ℕ) (ts : Tms) → x < length s.made → ArgsBelow (length s.made) ts → EachState (Out p) (differ_shape sat s x f ts rest aim).states
    shape-part-out x f ts l b = by (occurs_among x ts)
      where
        by : (c : Bool) → EachState (Out p) (if c then goes (before (when_apart aim) s) else at_part sat s (con.NotShape x f (length (items ts))) aim (task.Shape x f ts rest aim ∷ [])).states
        by true = (apart-out, tt)
        by false = part-out (con.NotShape x f (length (items ts))) l (task.Shape x f ts rest aim ∷ []) (before-out (task.Shape x f ts rest aim ∷ []) ((l, b, pb, ab), tt))

    args-below : (ts : Tms) → EachVars (Free (length s.made) s.bound) ts → ArgsBelow (length s.made) ts
    args-below ts f = all-weaker (Free (length s.made) s.bound) (λ y. y < length s.made) (λ y k. k.1) ts f

    pair-out : (t u : Tm) → EachVar (Free (length s.made) s.bound) t → EachVar (Free (length s.made) s.bound) u → EachState (Out p) (differ_pair sat s t u rest aim).states
    pair-out (var x) (var y) ft fu = variables-out x y ft fu
    pair-out (var x) (num v) ft fu = number-out x v ft.1
    pair-out (var x) (app f ts) ft fu = shape-part-out x f ts ft.1 (args-below ts fu)
    pair-out (num v) (var y) ft fu = number-out y v fu.1
    pair-out (num v) (num o) ft fu = (apart-out, tt)
    pair-out (num v) (app f ts) ft fu = (apart-out, tt)
    pair-out (app f ts) (var y) ft fu = shape-part-out y f ts fu.1 (args-below ts ft)
    pair-out (app f ts) (num o) ft fu = (apart-out, tt)
    pair-out (app f ts) (app g us) ft fu = (apart-out, tt)

    first-out : (t u : Tm) → EachVar (Free (length s.made) s.bound) t → EachVar (Free (length s.made) s.bound) u → EachState (Out p) (differ_first sat s t u rest aim).states
    first-out t (num v) ft fu = pair-out t (num v) ft fu
    first-out t (app f ts) ft fu = pair-out t (app f ts) ft fu
    first-out t (var y) ft fu = by (is_matched s (var y))
      where
        by : (b : Bool) → EachState (Out p) (if b then goes (before (task.Differ rest aim ∷ []) (take_up s t (var y))) else differ_pair sat s t (var y) rest aim).states
        by true = (
          out-goes p s (before (task.Differ rest aim ∷ []) (with_binding s y t))
              (keep-bound p s (before (task.Differ rest aim ∷ []) (with_binding s y t)) y t refl (omega arith) (λ c. c) refl (λ _. (fu.1, ft)))
              h (task.Differ rest aim ∷ []) refl ((pb, ab), tt) w,
          tt,
        )
        by false = pair-out t (var y) ft fu

    -- the variable is this one, or a term without variables
    become-out : (x : ℕ) (t : Tm) → ((r : State) → After s (differs rest aim) x t r → Out p r)
        → ((r : State) → After s equations_of x t r → After s (differs rest aim) x t (before (task.Differ rest aim ∷ []) r)) → EachState (Out p) (same_value sat s x t rest aim).states
    become-out x t k lift =
        each_map (After s equations_of x t) (Out p) (before (task.Differ rest aim ∷ [])) (equated sat s (var x) t).states (equated-after sat s x t)
        (λ r a. k (before (task.Differ rest aim ∷ []) r) (lift r a))

    pub variable-out : (x y : ℕ) → Free (length s.made) s.bound x → Free (length s.made) s.bound y → EachState (Out p) (same_value sat s x (var y) rest aim).states
    variable-out x y fx fy = become-out x (var y) (after-out (differs rest aim) differs-form x (var y) fx fy) lift
      where
        lift : (r : State) → After s equations_of x (var y) r → After s (differs rest aim) x (var y) (before (task.Differ rest aim ∷ []) r)
        lift r (inl a) = inl (in-front s x (var y) 0 (task.Differ rest aim ∷ []) r a)
        lift r (inr a) = inr (in-front s y (var x) 0 (task.Differ rest aim ∷ []) r a)

    pub value-out : (x : ℕ) (v : Number) → x < length s.made → EachState (Out p) (same_value sat s x (num v) rest aim).states
    value-out x v l =
        become-out x (num v) (λ r a. put-out (differs rest aim) differs-form x (num v) l tt r a) (λ r a. in-front s x (num v) 0 (task.Differ rest aim ∷ []) r a)

    pub avoid-out : (x : ℕ) (v : Number) → x < length s.made → EachState (Out p) (differ_value sat s x v rest aim).states
    avoid-out x v l =
        part-out (differ (var x) (num v)) (l, tt) (task.Become x (term_with (num v)) rest aim ∷ [])
        (before-out (task.Become x (term_with (num v)) rest aim ∷ []) ((l, tt, pb, ab), tt))

    pub name-out : (x f : ℕ) (ts : Tms) → x < length s.made → ArgsBelow (length s.made) ts → EachState (Out p) (same_shape sat s x f ts rest aim).states
    name-out x f ts l b =
        each_map (Puts s x (app f (new_parts (next_variable s) (length (items ts)))) (length (items ts)) s.work) (Out p)
        (before (task.Differ (pairs (new_parts (next_variable s) (length (items ts))) ts ++ rest) aim ∷ [])) (becomes_shape sat s x f (length (items ts))).states
        (shape-puts sat s x f (length (items ts)))
        (λ r a. shape-out (differs rest aim) differs-form x f ts l b (before (task.Differ (pairs (new_parts (next_variable s) (length (items ts))) ts ++ rest) aim ∷ []) r)
        (in-front s x (app f (new_parts (next_variable s) (length (items ts)))) (length (items ts)) (task.Differ (pairs (new_parts (next_variable s) (length (items ts))) ts ++ rest) aim ∷ []) r a))

  pairs-out : (ps : List Pair) (aim : Aim) → PairsBelow (length s.made) ps → FirstSides (Free (length s.made) s.bound) ps → AimBelow p (length s.made) aim
      → EachState (Out p) (differ_pairs sat s ps aim).states
  pairs-out [] aims.Test pb f ab = tt
  pairs-out [] (aims.Head k first) pb f ab = (before-out (task.Begin k first false ∷ []) (ab, tt), tt)
  pairs-out (o ∷ ps) aim pb f ab = first-out ps aim pb.1 ab (tm_of o.left) (tm_of o.right) f.0 f.1

  pub differ-out : (ps : List Pair) (aim : Aim) → PairsBelow (length s.made) ps → AimBelow p (length s.made) aim → EachState (Out p) (differ_terms sat s ps aim).states
  differ-out ps aim pb ab =
      pairs-out (from_first (sub_of s.bound) ps) aim (first-below (length s.made) s.bound h.solved ps pb) (first-sides (length s.made) s.bound h.solved ps pb) ab

  -- ---- items

  tests-below : (ks : List Coeff) → Each (ConBelow (length s.made)) (map (λ k. con.Num (Var k.x)) ks)
  tests-below [] = tt
  tests-below (k ∷ ks) = (tt, tests-below ks)

  row-below : (r : Linear) → Each (ConBelow (length s.made)) (number_tests r ++ con.Row r ∷ [])
  row-below r = Each-append (ConBelow (length s.made)) (number_tests r) (con.Row r ∷ []) (tests-below r.coeffs) (tt, tt)

  pub test-out : (c : Con) → ConBelow (length s.made) c → EachState (Out p) (test_item sat s c).states
  test-out (con.Eq t u) b = (before-out (task.Equate t u ∷ []) (b, tt), tt)
  test-out (con.Neq t u) b = by (is_empty (universals_of s (con.Neq t u)))
    where
      by : (c : Bool) → EachState (Out p) (if c then assume sat s (con.Neq t u) else goes (before (task.Differ (record { left = t; right = u } ∷ []) aims.Test ∷ []) s)).states
      by true = assumed-out (con.Neq t u) b
      by false = (before-out (task.Differ (record { left = t; right = u } ∷ []) aims.Test ∷ []) (((b, tt), tt), tt), tt)
  test-out (con.NotShape x f k) b = assumed-out (con.NotShape x f k) b
  test-out (con.Num t) b = assumed-out (con.Num t) b
  test-out (con.NotNum t) b = assumed-out (con.NotNum t) b
  test-out (con.Row r) b = by (is_empty (universals_of s (con.Row r)))
    where
      by : (c : Bool) → EachState (Out p) (if c then assume_all sat (number_tests r ++ con.Row r ∷ []) s else assume sat s (con.Row r)).states
      by true = all-assumed-out (number_tests r ++ con.Row r ∷ []) (row-below r)
      by false = assumed-out (con.Row r) tt

-- ---- equations

equations-form : (p : Program) (n : ℕ) → Forms p n equations_of
equations-form p n m l qs q = equations-later p m qs q

pairs-equated : (p : Program) (sat : List Con → Bool) (s : State) → Held p s → Each (Later p (length s.made)) s.work → (ps : List Pair) → Each (Sides (Free (length s.made) s.bound)) ps
    → EachState (Out p) (equate_pairs sat s ps).states
pairs-equated p sat s h w [] f = (inl (record { held = h; front = later s.work w }), tt)
pairs-equated p sat s h w (o ∷ ps) f =
    let next : State = before (equations_of ps) s in
    let k : Held p next = held-work p s (equations_of ps ++ s.work) h in
    let v : Each (Later p (length s.made)) (equations_of ps ++ s.work) =
    Each-append (Later p (length s.made)) (equations_of ps) s.work (equations-later p (length s.made) ps (sides-below (length s.made) s.bound ps f.1)) w in
    equated-states (Out p) sat next (tm_of o.left) (tm_of o.right)
    (λ x e r a. after-out p sat next k v equations_of (equations-form p (length s.made)) x (tm_of o.right) (subst (EachVar (Free (length s.made) s.bound)) e f.0.0) f.0.1 r a)
    (λ y e r a. after-out p sat next k v equations_of (equations-form p (length s.made)) y (tm_of o.left) (subst (EachVar (Free (length s.made) s.bound)) e f.0.1) f.0.0 r a)

pub equate-out : (p : Program) (sat : List Con → Bool) (s : State) → Held p s → Each (Later p (length s.made)) s.work → (t u : Term)
    → TermBelow (length s.made) (tm_of t) → TermBelow (length s.made) (tm_of u) → EachState (Out p) (equate_terms sat s (tm_of t) (tm_of u)).states
equate-out p sat s h w t u tb ub =
    pairs-equated p sat s h w (pairs_of (under (meaning s) (tm_of t)) (under (meaning s) (tm_of u)))
    (read-pairs (length s.made) s.bound h.solved (record { left = t; right = u }) (tb, ub))
