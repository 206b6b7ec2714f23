-- Equations.
use Rattle.std.specs.Prelude.{ℕ, nat_eq, Bool, true, false, ◌&&◌, ◌||◌, not, min, max, nat_lt, nat_le, if◌then◌else◌, List, [], ◌∷◌, ◌++◌, map, length}
use Rattle.scasp_num.specs.Number.{Number}
use Rattle.scasp_search_rules.specs.declared.states.state.Kind.TheVariants.{Existential, Universal}
use Rattle.scasp_search_rules.specs.declared.states.state.State.{State}
use Rattle.scasp_search_rules.specs.declared.states.tasks.Pair.{Pair}
use Rattle.scasp_search_rules.specs.declared.states.tasks.Task.{Task}
use Rattle.scasp_search_rules.specs.declared.states.tasks.Task.TheVariants as task
use Rattle.scasp_syntax.specs.Tm.{Tm, Tms, var, num, app, items}
use Rattle.scasp_syntax.specs.Values.{under}
use Rattle.scasp_syntax.specs.View.{tm_of}
use Rattle.scasp_syntax.specs.declared.con.Con.{Con}
use Rattle.scasp_syntax.specs.declared.con.Con.TheVariants as con
use Rattle.scasp_syntax.specs.declared.term.Term.TheVariants.{Var}
use Rattle.scasp_unify.specs.Negations.{new_parts}
use Rattle.scasp_unify.specs.Parts.{occurs_among}
use Rattle.scasp_unify.specs.SimpleForm.{term_with}
use Rattle.scasp_search_rules.specs.Successors.Assumptions.{assume}
use Rattle.scasp_search_rules.specs.Successors.Pairs.{pairs, pairs_of}
use Rattle.scasp_search_rules.specs.Successors.Regions.{before, context, asked_with, is_constrained}
use Rattle.scasp_search_rules.specs.Successors.Splits.{split_at}
use Rattle.scasp_search_rules.specs.Successors.Steps.{Step, fails, goes, goes_where, each, followed}
use Rattle.scasp_search_rules.specs.Successors.Variables.{meaning, depth_of, is_universal, with_new, next_variable, bind}

-- these pairs, as equations
abbrev pub equations_of : List Pair → List Task
equations_of ps = map (λ p. task.Equate p.left p.right) ps

-- the arguments of two lists, as equations
abbrev pub equations : Tms → Tms → List Task
equations ts us = equations_of (pairs ts us)

-- ---- bindings and replacements

-- the state, where its given constraints keep a valuation
abbrev pub bound_if : (List Con → Bool) → State → Step
bound_if sat s = goes_where sat (asked_with s s.given) s

-- the universal variable u is replaced by the term, where the context with this has a valuation
abbrev pub replaced_if : (List Con → Bool) → State → ℕ → Tm → Step
replaced_if sat s u t =
    let c : Con = con.Eq (Var u) (term_with t) in
    goes_where sat (asked_with s (context s ++ c ∷ [])) (split_at s (depth_of s u) c)

-- ---- two variables

-- of two existential variables the later is bound to the earlier, which gets the lesser depth
abbrev pub two_existentials : (List Con → Bool) → State → ℕ → ℕ → Step
two_existentials sat s x y = bound_if sat (bind s (max x y) (var (min x y)))

-- the first is of greater depth, or of the same depth and later
abbrev pub is_inside : State → ℕ → ℕ → Bool
is_inside s x y = nat_lt (depth_of s y) (depth_of s x) || (nat_eq (depth_of s x) (depth_of s y) && nat_lt y x)

abbrev pub two_universals : (List Con → Bool) → State → ℕ → ℕ → Step
two_universals sat s x y = if is_inside s x y then replaced_if sat s x (var y) else replaced_if sat s y (var x)

-- An existential variable that stands in no constraint, of the depth of the universal one or deeper, is bound to it. Else the universal
-- one is replaced.
abbrev pub mixed : (List Con → Bool) → State → ℕ → ℕ → Step
mixed sat s e u =
    if nat_le (depth_of s u) (depth_of s e) && not (is_constrained s e) then goes (bind s e (var u))
    else replaced_if sat s u (var e)

abbrev pub two_variables : (List Con → Bool) → State → ℕ → ℕ → Bool → Bool → Step
two_variables sat s x y false false = two_existentials sat s x y
two_variables sat s x y false true = mixed sat s x y
two_variables sat s x y true false = mixed sat s y x
two_variables sat s x y true true = two_universals sat s x y

-- ---- a variable and a number

abbrev pub becomes_number : (List Con → Bool) → ℕ → Number → State → Step
becomes_number sat x q s = if is_universal s x then replaced_if sat s x (num q) else bound_if sat (bind s x (num q))

abbrev pub variable_number : (List Con → Bool) → State → ℕ → Number → Step
variable_number sat s x q = followed (assume sat s (con.Num (Var x))) (becomes_number sat x q)

-- ---- a variable and a name with arguments

-- x gets the name with new arguments
abbrev pub becomes_shape : (List Con → Bool) → State → ℕ → ℕ → ℕ → Step
becomes_shape sat s x f n =
    let t : Tm = app f (new_parts (next_variable s) n) in
    if is_universal s x then replaced_if sat (with_new s Universal (depth_of s x) n) x t
    else bound_if sat (bind (with_new s Existential (depth_of s x) n) x t)

-- x gets the name, and then its new arguments are to be equal to these
abbrev pub variable_app : (List Con → Bool) → State → ℕ → ℕ → Tms → Step
variable_app sat s x f ts =
    if occurs_among x ts then fails
    else each (before (equations (new_parts (next_variable s) (length (items ts))) ts)) (becomes_shape sat s x f (length (items ts)))

-- ---- equations

-- the sides of a pair that two terms come to are to be equal
abbrev pub equated : (List Con → Bool) → State → Tm → Tm → Step
equated sat s (var x) (var y) = two_variables sat s x y (is_universal s x) (is_universal s y)
equated sat s (var x) (num q) = variable_number sat s x q
equated sat s (var x) (app f ts) = variable_app sat s x f ts
equated sat s (num q) (var y) = variable_number sat s y q
equated sat s (num q) (num r) = fails
equated sat s (num q) (app f ts) = fails
equated sat s (app f ts) (var y) = variable_app sat s y f ts
equated sat s (app f ts) (num r) = fails
equated sat s (app f ts) (app g us) = fails

abbrev pub equate_pairs : (List Con → Bool) → State → List Pair → Step
equate_pairs sat s [] = goes s
equate_pairs sat s (p ∷ ps) = equated sat (before (equations_of ps) s) (tm_of p.left) (tm_of p.right)

-- the first pair that the terms come to is acted on, and the others wait
abbrev pub equate_terms : (List Con → Bool) → State → Tm → Tm → Step
equate_terms sat s t u = equate_pairs sat s (pairs_of (under (meaning s) t) (under (meaning s) u))
