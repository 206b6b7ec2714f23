-- How the code takes a step in place.
use Rattle.std.specs.Prelude.{◌≡◌, Bool, true, false, List, [], ◌∷◌, Result, Ok, Err, ⊤}
use Rattle.std.specs.List.{list_any}
use Rattle.scasp_hint.specs.Finding.{overflows_in}
use Rattle.scasp_search_constraints.specs.declared.assuming.step.SearchErr.{SearchErr}
use Rattle.scasp_search_constraints.specs.declared.assuming.step.SearchErr.TheVariants as errors
use Rattle.scasp_search_rules.specs.declared.states.state.State.{State}
use Rattle.scasp_search_rules.specs.Successors.Steps.{Step}

-- whether there is a state, which is the present one then
abbrev pub Leaves : Bool → List State → State → Type 0
Leaves true states new = states ≡ new ∷ []
Leaves false states new = states ≡ []

-- The same of a step. An overflow is answered only where a list that the step asks overflows; want of memory says nothing.
abbrev pub Goes : Result Bool SearchErr → Step → State → Type 0
Goes (Ok went) step new = Leaves went step.states new
Goes (Err errors.Overflow) step new = list_any overflows_in step.asked ≡ true
Goes (Err errors.Memory) step new = ⊤
