-- What comes of a state by one step.
use Rattle.std.specs.Prelude.{Bool, true, false, List, [], ◌∷◌, ◌++◌, map}
use Rattle.std.specs.List.{flat_map}
use Rattle.scasp_search_rules.specs.declared.states.state.State.{State}
use Rattle.scasp_syntax.specs.declared.con.Con.{Con}

-- The lists of constraints that were asked for a valuation, and the states, both in order.
pub record Step : Type 0 where
  pub asked : List (List Con)
  pub states : List State

abbrev pub fails : Step
fails = record { asked = []; states = [] }

abbrev pub goes : State → Step
goes s = record { asked = []; states = s ∷ [] }

abbrev pub gives : List State → Step
gives ss = record { asked = []; states = ss }

-- the state, where the answer is yes
abbrev pub only_if : Bool → State → List State
only_if true s = s ∷ []
only_if false s = []

-- the state, where the list has a valuation
abbrev pub goes_where : (List Con → Bool) → List Con → State → Step
goes_where sat cs s = record { asked = cs ∷ []; states = only_if (sat cs) s }

abbrev pub each : (State → State) → Step → Step
each f r = record { asked = r.asked; states = map f r.states }

-- a step from each state
abbrev pub followed : Step → (State → Step) → Step
followed r f = record {
  asked = r.asked ++ flat_map (λ s. (f s).asked) r.states;
  states = flat_map (λ s. (f s).states) r.states;
}
