-- Disequations of terms, and the matching of heads.
use Rattle.std.specs.Prelude.{ℕ, Bool, false, ◌&&◌, ◌||◌, not, if◌then◌else◌, List, [], ◌∷◌, ◌++◌, length}
use Rattle.scasp_num.specs.Number.{Number}
use Rattle.scasp_search_rules.specs.declared.states.outcomes.Status.{Status}
use Rattle.scasp_search_rules.specs.declared.states.outcomes.Status.TheVariants.{Entailed, Impossible, Added, Parts}
use Rattle.scasp_search_rules.specs.declared.states.state.State.{State}
use Rattle.scasp_search_rules.specs.declared.states.tasks.Aim.{Aim}
use Rattle.scasp_search_rules.specs.declared.states.tasks.Aim.TheVariants as aims
use Rattle.scasp_search_rules.specs.declared.states.tasks.Pair.{Pair}
use Rattle.scasp_search_rules.specs.declared.states.tasks.Task.{Task}
use Rattle.scasp_search_rules.specs.declared.states.tasks.Task.TheVariants as task
use Rattle.scasp_syntax.specs.Tm.{Tm, Tms, var, num, app, items}
use Rattle.scasp_syntax.specs.View.{tm_of}
use Rattle.scasp_syntax.specs.declared.con.Con.{Con}
use Rattle.scasp_syntax.specs.declared.con.Con.TheVariants as con
use Rattle.scasp_syntax.specs.declared.term.Term.TheVariants.{Var}
use Rattle.scasp_unify.specs.Negations.{new_parts}
use Rattle.scasp_unify.specs.Parts.{occurs_among}
use Rattle.scasp_unify.specs.SimpleForm.{differ, term_with}
use Rattle.scasp_search_rules.specs.Successors.Assumptions.{status, asked_for}
use Rattle.scasp_search_rules.specs.Successors.Equations.{is_inside, becomes_shape, equated}
use Rattle.scasp_search_rules.specs.Successors.Pairs.{pairs, from_first}
use Rattle.scasp_search_rules.specs.Successors.Regions.{before}
use Rattle.scasp_search_rules.specs.Successors.Steps.{Step, goes, gives, each}
use Rattle.scasp_search_rules.specs.Successors.Variables.{meaning, made_at, is_universal, is_kind_matched, next_variable, with_binding}

-- what is to be done where the terms are apart
abbrev pub when_apart : Aim → List Task
when_apart aims.Test = []
when_apart (aims.Head rule first) = task.Void ∷ []

-- the states where they are the same
abbrev pub when_same : Aim → State → List State
when_same aims.Test s = []
when_same (aims.Head rule first) s = before (task.Begin rule first false ∷ []) s ∷ []

-- ---- the alternatives at a part

-- that it is apart, and then, unless that parted a case, that it is not
abbrev pub alternatives : State → List Task → List Task → Status → List State
alternatives s one other Entailed = before one s ∷ before other s ∷ []
alternatives s one other Impossible = before other s ∷ []
alternatives s one other Added = before one s ∷ before other s ∷ []
alternatives s one other Parts = before one s ∷ []

abbrev pub at_part : (List Con → Bool) → State → Con → Aim → List Task → Step
at_part sat s c aim other = record {
  asked = asked_for sat s c;
  states = alternatives s (task.Assume c ∷ when_apart aim) other (status sat s c);
}

-- ---- parts

-- two variables, in this order
abbrev pub part_of_variables : (List Con → Bool) → State → ℕ → ℕ → List Pair → Aim → Step
part_of_variables sat s x y rest aim = at_part sat s (differ (var x) (var y)) aim (task.Become x (Var y) rest aim ∷ [])

-- a universal variable stands first, and of two the one of greater depth or the later of one depth
abbrev pub stands_first : State → ℕ → ℕ → Bool
stands_first s x y = not (is_universal s y) || (is_universal s x && is_inside s x y)

abbrev pub differ_variables : (List Con → Bool) → State → ℕ → ℕ → List Pair → Aim → Step
differ_variables sat s x y rest aim =
    if stands_first s x y then part_of_variables sat s x y rest aim else part_of_variables sat s y x rest aim

-- the variable is no number, or else it is one, and may differ from this one
abbrev pub differ_number : (List Con → Bool) → State → ℕ → Number → List Pair → Aim → Step
differ_number sat s x q rest aim =
    at_part sat s (con.NotNum (Var x)) aim (task.Assume (con.Num (Var x)) ∷ task.Avoid x q rest aim ∷ [])

-- the variable, a number, is another number, or else it is this one
abbrev pub differ_value : (List Con → Bool) → State → ℕ → Number → List Pair → Aim → Step
differ_value sat s x q rest aim =
    at_part sat s (differ (var x) (num q)) aim (task.Become x (term_with (num q)) rest aim ∷ [])

-- the variable has another shape, or else it has this one, and some argument may differ
abbrev pub differ_shape : (List Con → Bool) → State → ℕ → ℕ → Tms → List Pair → Aim → Step
differ_shape sat s x f ts rest aim =
    if occurs_among x ts then goes (before (when_apart aim) s)
    else at_part sat s (con.NotShape x f (length (items ts))) aim (task.Shape x f ts rest aim ∷ [])

-- the first pair that two terms come to
abbrev pub differ_pair : (List Con → Bool) → State → Tm → Tm → List Pair → Aim → Step
differ_pair sat s (var x) (var y) rest aim = differ_variables sat s x y rest aim
differ_pair sat s (var x) (num q) rest aim = differ_number sat s x q rest aim
differ_pair sat s (var x) (app f ts) rest aim = differ_shape sat s x f ts rest aim
differ_pair sat s (num q) (var y) rest aim = differ_number sat s y q rest aim
differ_pair sat s (num q) (num r) rest aim = goes (before (when_apart aim) s)
differ_pair sat s (num q) (app f ts) rest aim = goes (before (when_apart aim) s)
differ_pair sat s (app f ts) (var y) rest aim = differ_shape sat s y f ts rest aim
differ_pair sat s (app f ts) (num r) rest aim = goes (before (when_apart aim) s)
differ_pair sat s (app f ts) (app g us) rest aim = goes (before (when_apart aim) s)

-- ---- where a part is not apart

-- the variable is this variable or number, and the other pairs are looked at
abbrev pub same_value : (List Con → Bool) → State → ℕ → Tm → List Pair → Aim → Step
same_value sat s x t rest aim = each (before (task.Differ rest aim ∷ [])) (equated sat s (var x) t)

-- the variable has the name, and the pairs of its new arguments are looked at first
abbrev pub same_shape : (List Con → Bool) → State → ℕ → ℕ → Tms → List Pair → Aim → Step
same_shape sat s x f ts rest aim =
    each (before (task.Differ (pairs (new_parts (next_variable s) (length (items ts))) ts ++ rest) aim ∷ []))
    (becomes_shape sat s x f (length (items ts)))

-- ---- pairs

-- a variable of a rule whose head is being matched
abbrev pub is_matched : State → Tm → Bool
is_matched s (var x) = is_kind_matched (made_at s x).kind
is_matched s (num q) = false
is_matched s (app f ts) = false

-- the head variable stands for the literal's part
abbrev pub take_up : State → Tm → Tm → State
take_up s t (var x) = with_binding s x t
take_up s t (num q) = s
take_up s t (app f us) = s

abbrev pub differ_first : (List Con → Bool) → State → Tm → Tm → List Pair → Aim → Step
differ_first sat s t u rest aim =
    if is_matched s u then goes (before (task.Differ rest aim ∷ []) (take_up s t u)) else differ_pair sat s t u rest aim

abbrev pub differ_pairs : (List Con → Bool) → State → List Pair → Aim → Step
differ_pairs sat s [] aim = gives (when_same aim s)
differ_pairs sat s (p ∷ rest) aim = differ_first sat s (tm_of p.left) (tm_of p.right) rest aim

-- the first of the pairs that comes to something is acted on
abbrev pub differ_terms : (List Con → Bool) → State → List Pair → Aim → Step
differ_terms sat s ps aim = differ_pairs sat s (from_first (meaning s) ps) aim
