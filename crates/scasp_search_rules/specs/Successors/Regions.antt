-- What holds in a state: the given constraints, and those of the open covers' regions.
use Rattle.std.specs.Prelude.{ℕ, Bool, List, [], ◌∷◌, ◌++◌, map, reverse}
use Rattle.std.specs.List.{list_any, flat_map}
use Rattle.scasp_search_rules.specs.declared.states.covers.Cover.{Cover}
use Rattle.scasp_search_rules.specs.declared.states.state.State.{State}
use Rattle.scasp_search_rules.specs.declared.states.tasks.Task.{Task}
use Rattle.scasp_syntax.specs.declared.con.Con.{Con}
use Rattle.scasp_syntax.specs.declared.con.Con.TheVariants as con
use Rattle.scasp_syntax.specs.declared.term.Term.TheVariants.{Var}
use Rattle.scasp_unify.specs.declared.bindings.Binding.{Binding}
use Rattle.scasp_search_rules.specs.Successors.Reading.{among, con_vars, con_under}
use Rattle.scasp_search_rules.specs.Successors.Variables.{meaning}

abbrev pub with_given : State → Con → State
with_given s c = record s { given = s.given ++ c ∷ [] }

-- the state with these tasks first
abbrev pub before : List Task → State → State
before tasks s = record s { work = tasks ++ s.work }

-- the given constraints, as they read now
abbrev pub givens : State → List Con
givens s = map (con_under (meaning s)) s.given

-- the constraints of the regions of these covers, the outermost first
abbrev pub regions : List Cover → List Con
regions covers = flat_map (λ c. c.region) (reverse covers)

-- the given constraints and then those of the regions, the outermost first
abbrev pub context : State → List Con
context s = s.given ++ regions s.covers

-- the constraints of the context and those of the remainders that wait
abbrev pub all_constraints : State → List Con
all_constraints s = s.given ++ flat_map (λ c. c.region ++ flat_map (λ r. r.region) c.waiting) s.covers

-- x stands in a given constraint, in one of a region or in one of a remainder
abbrev pub is_constrained : State → ℕ → Bool
is_constrained s x = list_any (λ c. among x (con_vars (meaning s) c)) (all_constraints s)

-- ---- lists that are asked

abbrev pub equation : Binding → Con
equation b = con.Eq (Var b.x) b.term

-- The list that is asked for a valuation where these constraints are to hold: the bindings as equations, and then the constraints.
abbrev pub asked_with : State → List Con → List Con
asked_with s cs = map equation s.bound ++ cs
