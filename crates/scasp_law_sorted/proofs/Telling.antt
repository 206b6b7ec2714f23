-- Tasks in front: equations, parts that are to be apart, and heads that are matched.
use Rattle.std.specs.Prelude.{◌≡◌, ◌≢◌, ℕ, Bool, true, false, if◌then◌else◌, List, [], ◌∷◌, ◌++◌, length}
use Rattle.std.proofs.Common.{refl, ap, sym, ◌∙◌, inl, inr}
use Rattle.std.proofs.lemmas.Bool.{true≢false}
use Rattle.std.proofs.lemmas.List.Elements.{Contains-append_left}
use Rattle.scasp_list.specs.Each.{Each}
use Rattle.scasp_num.specs.Number.{Number}
use Rattle.scasp_search_rules.specs.declared.states.outcomes.Status.{Status}
use Rattle.scasp_search_rules.specs.declared.states.outcomes.Status.TheVariants.{Entailed, Impossible, Added, Parts}
use Rattle.scasp_search_rules.specs.declared.states.state.State.{State}
use Rattle.scasp_search_rules.specs.declared.states.tasks.Aim.{Aim}
use Rattle.scasp_search_rules.specs.declared.states.tasks.Aim.TheVariants as aims
use Rattle.scasp_search_rules.specs.declared.states.tasks.Pair.{Pair}
use Rattle.scasp_search_rules.specs.declared.states.tasks.Task.{Task}
use Rattle.scasp_search_rules.specs.declared.states.tasks.Task.TheVariants as task
use Rattle.scasp_search_rules.specs.Successors.Assumptions.{status}
use Rattle.scasp_search_rules.specs.Successors.Differences.{alternatives, at_part, differ_first, differ_number, differ_pair, differ_pairs, differ_shape, differ_terms, differ_value, differ_variables, is_matched, part_of_variables, same_shape, same_value, stands_first, take_up, when_apart, when_same}
use Rattle.scasp_search_rules.specs.Successors.Equations.{becomes_shape, equate_pairs, equate_terms, equated, equations, equations_of, two_variables, variable_app, variable_number}
use Rattle.scasp_search_rules.specs.Successors.Falls.{EachState}
use Rattle.scasp_search_rules.specs.Successors.Pairs.{from_first, pairs, pairs_of}
use Rattle.scasp_search_rules.specs.Successors.Regions.{before}
use Rattle.scasp_search_rules.specs.Successors.Splits.{is_bound_in}
use Rattle.scasp_search_rules.specs.Successors.Steps.{Step, each, fails, goes}
use Rattle.scasp_search_rules.specs.Successors.Variables.{binding, is_kind_matched, is_universal, meaning, next_variable}
use Rattle.scasp_syntax.specs.Tm.{Tm, Tms, var, num, app, items}
use Rattle.scasp_syntax.specs.Values.{under}
use Rattle.scasp_syntax.specs.View.{tm_of}
use Rattle.scasp_syntax.specs.declared.con.Con.{Con}
use Rattle.scasp_syntax.specs.declared.con.Con.TheVariants as con
use Rattle.scasp_syntax.specs.declared.program.Program.{Program}
use Rattle.scasp_syntax.specs.declared.term.Term.{Term}
use Rattle.scasp_syntax.specs.declared.term.Term.TheVariants.{Var, Num, App}
use Rattle.scasp_unify.specs.Negations.{new_parts}
use Rattle.scasp_unify.specs.Parts.{occurs_among}
use Rattle.scasp_unify.specs.SimpleForm.{differ, term_with}
use Rattle.scasp_hint.specs.Satisfying.{sat}
use Rattle.scasp_law_first_event.proofs.Bindings.{Solved}
use Rattle.scasp_law_first_event.proofs.Apart.{Apart, Both, pairs-both}
use Rattle.scasp_law_first_event.proofs.Terms.{EachVar}
use Rattle.scasp_law_no_circle.proofs.Differing.{RightFree, Reads, first-reads}
use Rattle.scasp_law_no_circle.proofs.Equating.{read-frees}
use Rattle.scasp_law_no_circle.proofs.Scope.{Scoped, Sound}
use Rattle.scasp_law_no_circle.proofs.Tasks.{Frees, PairScoped, BecomesScoped, First, NoRow}
use Rattle.scasp_law_sorted.proofs.Evenness.{Asks, asks-goes, asks-fails, asks-gives, asks-each, asks-weaker}
use Rattle.scasp_law_sorted.proofs.Expecting.{works-before, Quiet, grows-more}
use Rattle.scasp_law_sorted.proofs.Judging.{CoreAt, Goes, goes-itself, asked-plain}
use Rattle.scasp_law_sorted.proofs.Standing.{core-push}
use Rattle.scasp_law_sorted.proofs.Tested.{Tested}
use Rattle.scasp_law_sorted.proofs.Turning.{Turns, goes-turns, goes-front, front-front, variables-asks, number-asks, shape-asks, lone-free}

pub equations-quiet : (ps : List Pair) → Each Quiet (equations_of ps)
equations-quiet [] = tt
equations-quiet (o ∷ ps) = ((refl, refl), equations-quiet ps)

module _ (p : Program) (s : State) (h : Sound p s.made s.covers s.bound) (solved : Solved (length s.made) s.bound) (k : CoreAt s) where
  -- ---- equations

  value-asks : (x y : ℕ) → Frees s.made s.covers s.bound (length s.covers) x → Frees s.made s.covers s.bound (length s.covers) y → x ≢ y → Asks (Goes s) (two_variables sat s x y (is_universal s x) (is_universal s y))
  value-asks x y a b d = variables-asks s h.placed k x y solved a.1 b.1 d (lone-free p s h solved k x a) (lone-free p s h solved k y b)

  turned : (t : Step) → Asks (Goes s) t → Asks (Turns s) t
  turned t a = asks-weaker (Goes s) (Turns s) t (goes-turns s) a

  app-asks : (x f : ℕ) (ts : Tms) → is_bound_in s.bound x ≡ false → Asks (Turns s) (variable_app sat s x f ts)
  app-asks x f ts free = by (occurs_among x ts)
    where
      by : (c : Bool) → Asks (Turns s) (if c then fails else each (before (equations (new_parts (next_variable s) (length (items ts))) ts)) (becomes_shape sat s x f (length (items ts))))
      by true = asks-fails (Turns s)
      by false =
          asks-each (Goes s) (Turns s) (before (equations (new_parts (next_variable s) (length (items ts))) ts)) (becomes_shape sat s x f (length (items ts)))
          (λ r g. goes-front s r (equations (new_parts (next_variable s) (length (items ts))) ts) (equations-quiet (pairs (new_parts (next_variable s) (length (items ts))) ts)) g) (shape-asks p s h solved k x f (length (items ts)) free)

  equated-asks : (t u : Tm) → EachVar (Frees s.made s.covers s.bound (length s.covers)) t → EachVar (Frees s.made s.covers s.bound (length s.covers)) u → Apart t u → Asks (Turns s) (equated sat s t u)
  equated-asks (var x) (var y) a b d = turned (two_variables sat s x y (is_universal s x) (is_universal s y)) (value-asks x y a b d)
  equated-asks (var x) (num q) a b d = turned (variable_number sat s x q) (number-asks p s h solved k x q a)
  equated-asks (var x) (app f ts) a b d = app-asks x f ts a.1
  equated-asks (num q) (var y) a b d = turned (variable_number sat s y q) (number-asks p s h solved k y q b)
  equated-asks (num q) (num r) a b d = asks-fails (Turns s)
  equated-asks (num q) (app f ts) a b d = asks-fails (Turns s)
  equated-asks (app f ts) (var y) a b d = app-asks y f ts b.1
  equated-asks (app f ts) (num r) a b d = asks-fails (Turns s)
  equated-asks (app f ts) (app g us) a b d = asks-fails (Turns s)

turned-behind : (s r : State) (ps : List Pair) → Turns (before (equations_of ps) s) r → Turns s r
turned-behind s r ps t = record { core = t.core; grows = t.grows; front = λ w. t.front (works-before r.bound r.given r.covers [] (equations_of ps) s.work (equations-quiet ps) w) }

pub equate-asks : (p : Program) (s : State) → Sound p s.made s.covers s.bound → Solved (length s.made) s.bound → CoreAt s → (t u : Term) → EachVar (Scoped s.made s.covers s.bound (length s.covers)) (tm_of t)
    → EachVar (Scoped s.made s.covers s.bound (length s.covers)) (tm_of u) → Asks (Turns s) (equate_terms sat s (tm_of t) (tm_of u))
equate-asks p s h solved k t u a b =
    by (pairs_of (under (meaning s) (tm_of t)) (under (meaning s) (tm_of u)))
    (pairs-both F F (under (meaning s) (tm_of t)) (under (meaning s) (tm_of u)) (read-frees s solved (length s.covers) (tm_of t) a) (read-frees s solved (length s.covers) (tm_of u) b))
  where
    F : ℕ → Type 0
    F = Frees s.made s.covers s.bound (length s.covers)

    by : (ps : List Pair) → Each (Both (Frees s.made s.covers s.bound (length s.covers)) (Frees s.made s.covers s.bound (length s.covers))) ps → Asks (Turns s) (equate_pairs sat s ps)
    by [] q = asks-goes (Turns s) s (goes-turns s s (goes-itself s h.placed k))
    by (o ∷ ps) q =
        asks-weaker (Turns (before (equations_of ps) s)) (Turns s) (equated sat (before (equations_of ps) s) (tm_of o.left) (tm_of o.right)) (λ r m. turned-behind s r ps m)
        (equated-asks p (before (equations_of ps) s) h solved k (tm_of o.left) (tm_of o.right) q.0.0 q.0.1 q.0.2)

-- ---- parts that are to be apart

module _ (p : Program) (s : State) (h : Sound p s.made s.covers s.bound) (solved : Solved (length s.made) s.bound) (k : CoreAt s) where
  itself : (ts : List Task) → Each Quiet ts → Turns s (before ts s)
  itself ts q = goes-front s s ts q (goes-itself s h.placed k)

  apart-quiet : (aim : Aim) → Each Quiet (when_apart aim)
  apart-quiet aims.Test = tt
  apart-quiet (aims.Head rule first) = ((refl, refl), tt)

  part-asks : (c : Con) → NoRow c → (aim : Aim) (other : List Task) → Each Quiet other → Asks (Turns s) (at_part sat s c aim other)
  part-asks c n aim other q = record { asked = asked-plain s h.placed k c n; states = by (status sat s c) }
    where
      one : Turns s (before (task.Assume c ∷ when_apart aim) s)
      one = itself (task.Assume c ∷ when_apart aim) ((refl, refl), apart-quiet aim)

      two : Turns s (before other s)
      two = itself other q

      by : (o : Status) → EachState (Turns s) (alternatives s (task.Assume c ∷ when_apart aim) other o)
      by Entailed = (one, (two, tt))
      by Impossible = (two, tt)
      by Added = (one, (two, tt))
      by Parts = (one, tt)

  module _ (rest : List Pair) (aim : Aim) where
    apart-asks : Asks (Turns s) (goes (before (when_apart aim) s))
    apart-asks = asks-goes (Turns s) (before (when_apart aim) s) (itself (when_apart aim) (apart-quiet aim))

    variables-told : (x y : ℕ) → Asks (Turns s) (differ_variables sat s x y rest aim)
    variables-told x y = by (stands_first s x y)
      where
        by : (b : Bool) → Asks (Turns s) (if b then part_of_variables sat s x y rest aim else part_of_variables sat s y x rest aim)
        by true = part-asks (differ (var x) (var y)) tt aim (task.Become x (Var y) rest aim ∷ []) ((refl, refl), tt)
        by false = part-asks (differ (var y) (var x)) tt aim (task.Become y (Var x) rest aim ∷ []) ((refl, refl), tt)

    number-told : (x : ℕ) (q : Number) → Asks (Turns s) (differ_number sat s x q rest aim)
    number-told x q = part-asks (con.NotNum (Var x)) tt aim (task.Assume (con.Num (Var x)) ∷ task.Avoid x q rest aim ∷ []) ((refl, refl), ((refl, refl), tt))

    pub value-told : (x : ℕ) (q : Number) → Asks (Turns s) (differ_value sat s x q rest aim)
    value-told x q = part-asks (differ (var x) (num q)) tt aim (task.Become x (term_with (num q)) rest aim ∷ []) ((refl, refl), tt)

    shape-told : (x f : ℕ) (ts : Tms) → Asks (Turns s) (differ_shape sat s x f ts rest aim)
    shape-told x f ts = by (occurs_among x ts)
      where
        by : (b : Bool) → Asks (Turns s) (if b then goes (before (when_apart aim) s) else at_part sat s (con.NotShape x f (length (items ts))) aim (task.Shape x f ts rest aim ∷ []))
        by true = apart-asks
        by false = part-asks (con.NotShape x f (length (items ts))) tt aim (task.Shape x f ts rest aim ∷ []) ((refl, refl), tt)

    pair-told : (t u : Tm) → Asks (Turns s) (differ_pair sat s t u rest aim)
    pair-told (var x) (var y) = variables-told x y
    pair-told (var x) (num q) = number-told x q
    pair-told (var x) (app f ts) = shape-told x f ts
    pair-told (num q) (var y) = number-told y q
    pair-told (num q) (num r) = apart-asks
    pair-told (num q) (app f ts) = apart-asks
    pair-told (app f ts) (var y) = shape-told y f ts
    pair-told (app f ts) (num r) = apart-asks
    pair-told (app f ts) (app g us) = apart-asks

    -- a variable of a head is bound
    taken-up : (t u : Tm) → is_matched s u ≡ true → EachVar (RightFree s) u → Goes s (take_up s t u)
    taken-up t (num q) e f = goes-itself s h.placed k
    taken-up t (app g us) e f = goes-itself s h.placed k
    taken-up t (var x) e f = record {
      core = core-push s.made s.covers s.bound s.given k (binding x t) free (λ y i t. absurd (none t));
      grows = grows-more s.bound (s.bound ++ binding x t ∷ []) s.given s.given s.covers (λ b i. Contains-append_left s.bound (binding x t ∷ []) b i) (λ c i. i);
      work = refl;
      placed = h.placed;
    }
      where
        free : is_bound_in s.bound x ≡ false
        free = by f
          where
            by : RightFree s x → is_bound_in s.bound x ≡ false
            by (inl m) = m.2
            by (inr m) = m.1

        none : Tested s.bound s.given x → ⊥
        none t = true≢false (sym e ∙ ap is_kind_matched (k.lone x t).1)

    first-told : (t u : Tm) → EachVar (RightFree s) u → Asks (Turns s) (differ_first sat s t u rest aim)
    first-told t u f = by (is_matched s u) refl
      where
        by : (b : Bool) → is_matched s u ≡ b → Asks (Turns s) (if b then goes (before (task.Differ rest aim ∷ []) (take_up s t u)) else differ_pair sat s t u rest aim)
        by true e = asks-goes (Turns s) (before (task.Differ rest aim ∷ []) (take_up s t u)) (goes-front s (take_up s t u) (task.Differ rest aim ∷ []) ((refl, refl), tt) (taken-up t u e f))
        by false e = pair-told t u

    -- ---- where a part is not apart

    behind : (r : State) → Turns s r → Turns s (before (task.Differ rest aim ∷ []) r)
    behind r t = front-front s r (task.Differ rest aim ∷ []) ((refl, refl), tt) t

    pub same-told : (x : ℕ) (t : Term) → Frees s.made s.covers s.bound (length s.covers) x → BecomesScoped s.made s.covers s.bound (length s.covers) x t → Asks (Turns s) (same_value sat s x (tm_of t) rest aim)
    same-told x (Var y) a b =
        asks-each (Goes s) (Turns s) (before (task.Differ rest aim ∷ [])) (two_variables sat s x y (is_universal s x) (is_universal s y)) (λ r g. behind r (goes-turns s r g)) (value-asks p s h solved k x y a b.0 b.1)
    same-told x (Num q) a b = asks-each (Goes s) (Turns s) (before (task.Differ rest aim ∷ [])) (variable_number sat s x q) (λ r g. behind r (goes-turns s r g)) (number-asks p s h solved k x q a)
    same-told x (App f ts) a b = absurd b

    pub shaped-told : (x f : ℕ) (ts : Tms) → is_bound_in s.bound x ≡ false → Asks (Turns s) (same_shape sat s x f ts rest aim)
    shaped-told x f ts free =
        asks-each (Goes s) (Turns s) (before (task.Differ (pairs (new_parts (next_variable s) (length (items ts))) ts ++ rest) aim ∷ [])) (becomes_shape sat s x f (length (items ts)))
        (λ r g. goes-front s r (task.Differ (pairs (new_parts (next_variable s) (length (items ts))) ts ++ rest) aim ∷ []) ((refl, refl), tt) g) (shape-asks p s h solved k x f (length (items ts)) free)

  same-states : (aim : Aim) → EachState (Turns s) (when_same aim s)
  same-states aims.Test = tt
  same-states (aims.Head rule first) = (itself (task.Begin rule first false ∷ []) ((refl, refl), tt), tt)

  pairs-told : (ps : List Pair) (aim : Aim) → Reads s ps → Asks (Turns s) (differ_pairs sat s ps aim)
  pairs-told [] aim q = asks-gives (Turns s) (when_same aim s) (same-states aim)
  pairs-told (o ∷ rest) aim q = first-told rest aim (tm_of o.left) (tm_of o.right) q.1

  pub terms-told : First s.made s.covers s.bound (length s.covers) s.work → (ps : List Pair) (aim : Aim) → Each (PairScoped s.made s.covers s.bound (length s.covers)) ps → Asks (Turns s) (differ_terms sat s ps aim)
  terms-told w ps aim q = pairs-told (from_first (meaning s) ps) aim (first-reads p sat s h solved w ps q)
