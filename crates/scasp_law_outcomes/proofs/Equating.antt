-- Where terms are to be equal, what is told and owed stays the same.
use Rattle.std.specs.Prelude.{ℕ, Bool, true, false, ◌&&◌, not, nat_le, min, max, if◌then◌else◌, List, [], ◌∷◌, ◌++◌, length}
use Rattle.std.proofs.Common.{refl}
use Rattle.scasp_list.specs.Each.{Each}
use Rattle.scasp_num.specs.Number.{Number}
use Rattle.scasp_search_rules.specs.declared.states.state.Kind.TheVariants.{Existential, Universal}
use Rattle.scasp_search_rules.specs.declared.states.state.State.{State}
use Rattle.scasp_search_rules.specs.declared.states.tasks.Pair.{Pair}
use Rattle.scasp_syntax.specs.Tm.{Tm, Tms, var, num, app, items}
use Rattle.scasp_syntax.specs.Values.{under}
use Rattle.scasp_syntax.specs.View.{tm_of}
use Rattle.scasp_syntax.specs.declared.con.Con.{Con}
use Rattle.scasp_syntax.specs.declared.con.Con.TheVariants as con
use Rattle.scasp_syntax.specs.declared.term.Term.TheVariants.{Var}
use Rattle.scasp_unify.specs.Negations.{new_parts}
use Rattle.scasp_unify.specs.Parts.{occurs_among}
use Rattle.scasp_unify.specs.SimpleForm.{term_with}
use Rattle.scasp_search_rules.specs.Successors.Assumptions.{assume}
use Rattle.scasp_search_rules.specs.Successors.Equations.{equations_of, equations, bound_if, replaced_if, is_inside, mixed, two_variables, becomes_number, variable_number, becomes_shape, variable_app, equated, equate_pairs, equate_terms}
use Rattle.scasp_search_rules.specs.Successors.Pairs.{pairs, pairs_of}
use Rattle.scasp_search_rules.specs.Successors.Regions.{before, context, asked_with, is_constrained}
use Rattle.scasp_search_rules.specs.Successors.Splits.{split_at}
use Rattle.scasp_search_rules.specs.Successors.Steps.{fails, goes, each}
use Rattle.scasp_search_rules.specs.Successors.Variables.{meaning, depth_of, is_universal, with_new, next_variable, bind}
use Rattle.scasp_law_outcomes.proofs.Assuming.{split_at-keeps, assume-keep}
use Rattle.scasp_law_outcomes.proofs.Standing.{Idle, Keeps, keeps-before, each-only_if, each-followed, each-mapped}

pub idle-equations : (ps : List Pair) → Idle (equations_of ps)
idle-equations [] us = refl
idle-equations (p ∷ ps) us = idle-equations ps us

bound_if-keep : (all : List ℕ) (sat : List Con → Bool) (s : State) → Keeps all s → Each (Keeps all) (bound_if sat s).states
bound_if-keep all sat s h = each-only_if (Keeps all) (sat (asked_with s s.given)) s h

replaced_if-keep : (all : List ℕ) (sat : List Con → Bool) (s : State) (u : ℕ) (t : Tm) → Keeps all s → Each (Keeps all) (replaced_if sat s u t).states
replaced_if-keep all sat s u t h =
    let c : Con = con.Eq (Var u) (term_with t) in
    each-only_if (Keeps all) (sat (asked_with s (context s ++ c ∷ []))) (split_at s (depth_of s u) c) (split_at-keeps all s (depth_of s u) c h)

mixed-keep : (all : List ℕ) (sat : List Con → Bool) (s : State) (e u : ℕ) → Keeps all s → Each (Keeps all) (mixed sat s e u).states
mixed-keep all sat s e u h = by (nat_le (depth_of s u) (depth_of s e) && not (is_constrained s e))
  where
    by : (b : Bool) → Each (Keeps all) (if b then goes (bind s e (var u)) else replaced_if sat s u (var e)).states
    by true = (h, tt)
    by false = replaced_if-keep all sat s u (var e) h

two_variables-keep : (all : List ℕ) (sat : List Con → Bool) (s : State) (x y : ℕ) (a b : Bool) → Keeps all s → Each (Keeps all) (two_variables sat s x y a b).states
two_variables-keep all sat s x y false false h = bound_if-keep all sat (bind s (max x y) (var (min x y))) h
two_variables-keep all sat s x y false true h = mixed-keep all sat s x y h
two_variables-keep all sat s x y true false h = mixed-keep all sat s y x h
two_variables-keep all sat s x y true true h = by (is_inside s x y)
  where
    by : (b : Bool) → Each (Keeps all) (if b then replaced_if sat s x (var y) else replaced_if sat s y (var x)).states
    by true = replaced_if-keep all sat s x (var y) h
    by false = replaced_if-keep all sat s y (var x) h

becomes_number-keep : (all : List ℕ) (sat : List Con → Bool) (x : ℕ) (q : Number) (s : State) → Keeps all s → Each (Keeps all) (becomes_number sat x q s).states
becomes_number-keep all sat x q s h = by (is_universal s x)
  where
    by : (b : Bool) → Each (Keeps all) (if b then replaced_if sat s x (num q) else bound_if sat (bind s x (num q))).states
    by true = replaced_if-keep all sat s x (num q) h
    by false = bound_if-keep all sat (bind s x (num q)) h

variable_number-keep : (all : List ℕ) (sat : List Con → Bool) (s : State) (x : ℕ) (q : Number) → Keeps all s → Each (Keeps all) (variable_number sat s x q).states
variable_number-keep all sat s x q h =
    let c : Con = con.Num (Var x) in
    each-followed (Keeps all) (becomes_number sat x q) (becomes_number-keep all sat x q) (assume sat s c).states (assume-keep all sat s c h)

pub becomes_shape-keep : (all : List ℕ) (sat : List Con → Bool) (s : State) (x f n : ℕ) → Keeps all s → Each (Keeps all) (becomes_shape sat s x f n).states
becomes_shape-keep all sat s x f n h = by (is_universal s x)
  where
    t : Tm
    t = app f (new_parts (next_variable s) n)

    by : (b : Bool) → Each (Keeps all) (if b then replaced_if sat (with_new s Universal (depth_of s x) n) x t else bound_if sat (bind (with_new s Existential (depth_of s x) n) x t)).states
    by true = replaced_if-keep all sat (with_new s Universal (depth_of s x) n) x t h
    by false = bound_if-keep all sat (bind (with_new s Existential (depth_of s x) n) x t) h

variable_app-keep : (all : List ℕ) (sat : List Con → Bool) (s : State) (x f : ℕ) (ts : Tms) → Keeps all s → Each (Keeps all) (variable_app sat s x f ts).states
variable_app-keep all sat s x f ts h = by (occurs_among x ts)
  where
    n : ℕ
    n = length (items ts)

    us : Tms
    us = new_parts (next_variable s) n

    by : (b : Bool) → Each (Keeps all) (if b then fails else each (before (equations us ts)) (becomes_shape sat s x f n)).states
    by true = tt
    by false =
        each-mapped (Keeps all) (before (equations us ts)) (λ r. keeps-before all r (equations us ts) (idle-equations (pairs us ts)))
        (becomes_shape sat s x f n).states (becomes_shape-keep all sat s x f n h)

pub equated-keep : (all : List ℕ) (sat : List Con → Bool) (s : State) (t u : Tm) → Keeps all s → Each (Keeps all) (equated sat s t u).states
equated-keep all sat s (var x) (var y) h = two_variables-keep all sat s x y (is_universal s x) (is_universal s y) h
equated-keep all sat s (var x) (num q) h = variable_number-keep all sat s x q h
equated-keep all sat s (var x) (app f ts) h = variable_app-keep all sat s x f ts h
equated-keep all sat s (num q) (var y) h = variable_number-keep all sat s y q h
equated-keep all sat s (app f ts) (var y) h = variable_app-keep all sat s y f ts h
equated-keep all sat s t u h = tt

pairs-keep : (all : List ℕ) (sat : List Con → Bool) (s : State) (ps : List Pair) → Keeps all s → Each (Keeps all) (equate_pairs sat s ps).states
pairs-keep all sat s [] h = (h, tt)
pairs-keep all sat s (p ∷ ps) h =
    equated-keep all sat (before (equations_of ps) s) (tm_of p.left) (tm_of p.right) (keeps-before all s (equations_of ps) (idle-equations ps) h)

pub equate-keep : (all : List ℕ) (sat : List Con → Bool) (s : State) (t u : Tm) → Keeps all s → Each (Keeps all) (equate_terms sat s t u).states
equate-keep all sat s t u h = pairs-keep all sat s (pairs_of (under (meaning s) t) (under (meaning s) u)) h
