-- Terms that are to be equal, or apart, lead to states within the table.
use Rattle.std.specs.Prelude.{◌≡◌, ℕ, ◌<◌, ◌^◌, Bool, true, false, ◌&&◌, not, max, min, nat_le, if◌then◌else◌, List, [], ◌∷◌, ◌++◌, length}
use Rattle.scasp_law_program_text.specs.CompoundReadback.Fitting.{number_fits}
use Rattle.scasp_list.specs.Each.{Each}
use Rattle.scasp_num.specs.Number.{Number}
use Rattle.scasp_search_rules.specs.declared.states.outcomes.Status.{Status}
use Rattle.scasp_search_rules.specs.declared.states.outcomes.Status.TheVariants.{Entailed, Impossible, Added, Parts}
use Rattle.scasp_search_rules.specs.declared.states.state.Kind.TheVariants.{Existential, Universal}
use Rattle.scasp_search_rules.specs.declared.states.state.State.{State}
use Rattle.scasp_search_rules.specs.declared.states.tasks.Aim.{Aim}
use Rattle.scasp_search_rules.specs.declared.states.tasks.Aim.TheVariants as aims
use Rattle.scasp_search_rules.specs.declared.states.tasks.Pair.{Pair}
use Rattle.scasp_search_rules.specs.declared.states.tasks.Task.{Task}
use Rattle.scasp_search_rules.specs.declared.states.tasks.Task.TheVariants as task
use Rattle.scasp_search_rules.specs.Successors.Assumptions.{assume, status}
use Rattle.scasp_search_rules.specs.Successors.Differences.{alternatives, at_part, differ_first, differ_number, differ_pair, differ_pairs, differ_shape, differ_variables, is_matched, part_of_variables, stands_first, take_up, when_apart, when_same}
use Rattle.scasp_search_rules.specs.Successors.Equations.{becomes_number, becomes_shape, bound_if, equate_pairs, equated, equations, equations_of, is_inside, mixed, replaced_if, two_universals, two_variables, variable_app, variable_number}
use Rattle.scasp_search_rules.specs.Successors.Pairs.{pairs}
use Rattle.scasp_search_rules.specs.Successors.Regions.{asked_with, before, context, is_constrained}
use Rattle.scasp_search_rules.specs.Successors.Splits.{split_at}
use Rattle.scasp_search_rules.specs.Successors.Steps.{each, fails, goes}
use Rattle.scasp_search_rules.specs.Successors.Variables.{bind, binding, depth_of, is_universal, next_variable, with_new}
use Rattle.scasp_syntax.specs.Tm.{Tm, Tms, var, num, app, items}
use Rattle.scasp_syntax.specs.View.{tm_of}
use Rattle.scasp_syntax.specs.declared.con.Con.{Con}
use Rattle.scasp_syntax.specs.declared.con.Con.TheVariants as con
use Rattle.scasp_syntax.specs.declared.term.Term.TheVariants.{Var, Num}
use Rattle.scasp_unify.specs.Negations.{new_parts}
use Rattle.scasp_unify.specs.Parts.{occurs_among}
use Rattle.scasp_unify.specs.SimpleForm.{differ, term_with}
use Rattle.scasp_law_outcomes.proofs.Standing.{each-followed, each-mapped, each-only_if}
use Rattle.scasp_law_printable.specs.Within.{Within, ConWithin}
use Rattle.scasp_law_printable.proofs.Standing.{Held, TaskWithin, assumed-held, bound-one, front, split-at-held}
use Rattle.scasp_law_printable.proofs.Terms.{PairWithin, new-within, pairs-within, seen, shape-within}

pub equations-within : (count : ℕ) (ps : List Pair) → Each (PairWithin count) ps → Each (TaskWithin count) (equations_of ps)
equations-within count [] h = tt
equations-within count (o ∷ ps) h = (h.0, equations-within count ps h.1)

module _ (count : ℕ) (sat : List Con → Bool) (s : State) (e : Held count s) where
  bound-held : (x : ℕ) (t : Tm) → Within count t → Each (Held count) (bound_if sat (bind s x t)).states
  bound-held x t h = each-only_if (Held count) (sat (asked_with (bind s x t) s.given)) (bind s x t) (bound-one count (binding x t) (seen count t h) s.bound s.given s.covers s.literals s.work s.lines e)

  replaced-held : (x : ℕ) (t : Tm) → Within count t → Each (Held count) (replaced_if sat s x t).states
  replaced-held x t h =
      let c : Con = con.Eq (Var x) (term_with t) in
      each-only_if (Held count) (sat (asked_with s (context s ++ c ∷ []))) (split_at s (depth_of s x) c) (split-at-held count s (depth_of s x) c (tt, seen count t h) e)

  mixed-held : (x u : ℕ) → Each (Held count) (mixed sat s x u).states
  mixed-held x u = by (nat_le (depth_of s u) (depth_of s x) && not (is_constrained s x))
    where
      by : (b : Bool) → Each (Held count) (if b then goes (bind s x (var u)) else replaced_if sat s u (var x)).states
      by true = (bound-one count (binding x (var u)) tt s.bound s.given s.covers s.literals s.work s.lines e, tt)
      by false = replaced-held u (var x) tt

  universals-held : (x y : ℕ) → Each (Held count) (two_universals sat s x y).states
  universals-held x y = by (is_inside s x y)
    where
      by : (b : Bool) → Each (Held count) (if b then replaced_if sat s x (var y) else replaced_if sat s y (var x)).states
      by true = replaced-held x (var y) tt
      by false = replaced-held y (var x) tt

  variables-held : (x y : ℕ) (i j : Bool) → Each (Held count) (two_variables sat s x y i j).states
  variables-held x y false false = bound-held (max x y) (var (min x y)) tt
  variables-held x y false true = mixed-held x y
  variables-held x y true false = mixed-held y x
  variables-held x y true true = universals-held x y

  becomes-held : (x : ℕ) (q : Number) → number_fits q ≡ true → Each (Held count) (becomes_number sat x q s).states
  becomes-held x q h = by (is_universal s x)
    where
      by : (b : Bool) → Each (Held count) (if b then replaced_if sat s x (num q) else bound_if sat (bind s x (num q))).states
      by true = replaced-held x (num q) h
      by false = bound-held x (num q) h

module _ (count : ℕ) (two : 1 < count) (sat : List Con → Bool) (s : State) (e : Held count s) where
  number-held : (x : ℕ) (q : Number) → number_fits q ≡ true → Each (Held count) (variable_number sat s x q).states
  number-held x q h =
      each-followed (Held count) (becomes_number sat x q) (λ r k. becomes-held count sat r k x q h) (assume sat s (con.Num (Var x))).states (assumed-held count two sat s e (con.Num (Var x)) tt)

  pub shape-held : (x f n : ℕ) → f < count → n < 2 ^ 64 → Each (Held count) (becomes_shape sat s x f n).states
  shape-held x f n h l = by (is_universal s x)
    where
      by : (b : Bool)
          → Each (Held count)
          (if b then replaced_if sat (with_new s Universal (depth_of s x) n) x (app f (new_parts (next_variable s) n)) else bound_if sat (bind (with_new s Existential (depth_of s x) n) x (app f (new_parts (next_variable s) n)))).states
      by true = replaced-held count sat (with_new s Universal (depth_of s x) n) e x (app f (new_parts (next_variable s) n)) (shape-within count f (next_variable s) n h l)
      by false = bound-held count sat (with_new s Existential (depth_of s x) n) e x (app f (new_parts (next_variable s) n)) (shape-within count f (next_variable s) n h l)

  app-held : (x f : ℕ) (ts : Tms) → Within count (app f ts) → Each (Held count) (variable_app sat s x f ts).states
  app-held x f ts h = by (occurs_among x ts)
    where
      parts : Tms
      parts = new_parts (next_variable s) (length (items ts))

      same : Each (TaskWithin count) (equations parts ts)
      same = equations-within count (pairs parts ts) (pairs-within count parts ts (new-within count (next_variable s) (length (items ts))) h.2)

      by : (b : Bool) → Each (Held count) (if b then fails else each (before (equations (new_parts (next_variable s) (length (items ts))) ts)) (becomes_shape sat s x f (length (items ts)))).states
      by true = tt
      by false =
          each-mapped (Held count) (before (equations parts ts)) (λ r k. front count (equations parts ts) same r.bound r.given r.covers r.literals r.work r.lines k)
          (becomes_shape sat s x f (length (items ts))).states (shape-held x f (length (items ts)) h.0 h.1)

  pub terms-held : (t u : Tm) → Within count t → Within count u → Each (Held count) (equated sat s t u).states
  terms-held (var x) (var y) h k = variables-held count sat s e x y (is_universal s x) (is_universal s y)
  terms-held (var x) (num q) h k = number-held x q k
  terms-held (var x) (app f ts) h k = app-held x f ts k
  terms-held (num q) (var y) h k = number-held y q h
  terms-held (num q) (num r) h k = tt
  terms-held (num q) (app f ts) h k = tt
  terms-held (app f ts) (var y) h k = app-held y f ts h
  terms-held (app f ts) (num r) h k = tt
  terms-held (app f ts) (app g us) h k = tt

pub equated-held : (count : ℕ) → 1 < count → (sat : List Con → Bool) (s : State) → Held count s → (ps : List Pair) → Each (PairWithin count) ps → Each (Held count) (equate_pairs sat s ps).states
equated-held count two sat s e [] h = (e, tt)
equated-held count two sat s e (o ∷ ps) h =
    terms-held count two sat (before (equations_of ps) s) (front count (equations_of ps) (equations-within count ps h.1) s.bound s.given s.covers s.literals s.work s.lines e) (tm_of o.left) (tm_of o.right) h.0.0 h.0.1

-- ---- telling apart

module _ (count : ℕ) (two : 1 < count) (sat : List Con → Bool) (s : State) (e : Held count s) where
  pub ahead : (ts : List Task) → Each (TaskWithin count) ts → Held count (before ts s)
  ahead ts h = front count ts h s.bound s.given s.covers s.literals s.work s.lines e

  apart-within : (aim : Aim) → Each (TaskWithin count) (when_apart aim)
  apart-within aims.Test = tt
  apart-within (aims.Head k first) = (tt, tt)

  pub part-held : (c : Con) → ConWithin count c → (aim : Aim) (other : List Task) → Each (TaskWithin count) other → Each (Held count) (at_part sat s c aim other).states
  part-held c n aim other h = by (status sat s c)
    where
      one : Held count (before (task.Assume c ∷ when_apart aim) s)
      one = ahead (task.Assume c ∷ when_apart aim) (n, apart-within aim)

      by : (o : Status) → Each (Held count) (alternatives s (task.Assume c ∷ when_apart aim) other o)
      by Entailed = (one, (ahead other h, tt))
      by Impossible = (ahead other h, tt)
      by Added = (one, (ahead other h, tt))
      by Parts = (one, tt)

  module _ (rest : List Pair) (h : Each (PairWithin count) rest) (aim : Aim) where
    apart-goes : Each (Held count) (goes (before (when_apart aim) s)).states
    apart-goes = (ahead (when_apart aim) (apart-within aim), tt)

    two-held : (x y : ℕ) → Each (Held count) (differ_variables sat s x y rest aim).states
    two-held x y = by (stands_first s x y)
      where
        by : (b : Bool) → Each (Held count) (if b then part_of_variables sat s x y rest aim else part_of_variables sat s y x rest aim).states
        by true = part-held (differ (var x) (var y)) (tt, tt) aim (task.Become x (Var y) rest aim ∷ []) ((tt, h), tt)
        by false = part-held (differ (var y) (var x)) (tt, tt) aim (task.Become y (Var x) rest aim ∷ []) ((tt, h), tt)

    value-held : (x : ℕ) (q : Number) → number_fits q ≡ true → Each (Held count) (differ_number sat s x q rest aim).states
    value-held x q f = part-held (con.NotNum (Var x)) tt aim (task.Assume (con.Num (Var x)) ∷ task.Avoid x q rest aim ∷ []) (tt, ((f, h), tt))

    name-held : (x f : ℕ) (ts : Tms) → Within count (app f ts) → Each (Held count) (differ_shape sat s x f ts rest aim).states
    name-held x f ts k = by (occurs_among x ts)
      where
        by : (b : Bool) → Each (Held count) (if b then goes (before (when_apart aim) s) else at_part sat s (con.NotShape x f (length (items ts))) aim (task.Shape x f ts rest aim ∷ [])).states
        by true = apart-goes
        by false = part-held (con.NotShape x f (length (items ts))) (k.0, k.1) aim (task.Shape x f ts rest aim ∷ []) ((k, h), tt)

    pair-held : (t u : Tm) → Within count t → Within count u → Each (Held count) (differ_pair sat s t u rest aim).states
    pair-held (var x) (var y) k l = two-held x y
    pair-held (var x) (num q) k l = value-held x q l
    pair-held (var x) (app f ts) k l = name-held x f ts l
    pair-held (num q) (var y) k l = value-held y q k
    pair-held (num q) (num r) k l = apart-goes
    pair-held (num q) (app f ts) k l = apart-goes
    pair-held (app f ts) (var y) k l = name-held y f ts k
    pair-held (app f ts) (num r) k l = apart-goes
    pair-held (app f ts) (app g us) k l = apart-goes

    taken-held : (t u : Tm) → Within count t → Held count (before (task.Differ rest aim ∷ []) (take_up s t u))
    taken-held t (var x) k =
        front count (task.Differ rest aim ∷ []) (h, tt) (s.bound ++ binding x t ∷ []) s.given s.covers s.literals s.work s.lines
        (bound-one count (binding x t) (seen count t k) s.bound s.given s.covers s.literals s.work s.lines e)
    taken-held t (num q) k = ahead (task.Differ rest aim ∷ []) (h, tt)
    taken-held t (app f us) k = ahead (task.Differ rest aim ∷ []) (h, tt)

    first-held : (t u : Tm) → Within count t → Within count u → Each (Held count) (differ_first sat s t u rest aim).states
    first-held t u k l = by (is_matched s u)
      where
        by : (b : Bool) → Each (Held count) (if b then goes (before (task.Differ rest aim ∷ []) (take_up s t u)) else differ_pair sat s t u rest aim).states
        by true = (taken-held t u k, tt)
        by false = pair-held t u k l

  same-held : (aim : Aim) → Each (Held count) (when_same aim s)
  same-held aims.Test = tt
  same-held (aims.Head k first) = (ahead (task.Begin k first false ∷ []) (tt, tt), tt)

  pub differ-held : (ps : List Pair) → Each (PairWithin count) ps → (aim : Aim) → Each (Held count) (differ_pairs sat s ps aim).states
  differ-held [] h aim = same-held aim
  differ-held (o ∷ rest) h aim = first-held rest h.1 aim (tm_of o.left) (tm_of o.right) h.0.0 h.0.1
