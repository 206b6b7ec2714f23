-- The states that wait on a stack.
use Rattle.std.specs.Prelude.{List, map, reverse}
use Rattle.scasp_written.specs.declared.written.stack.Waiting.{Waiting}
use Rattle.scasp_search_rules.specs.declared.states.state.State.{State}

-- the states, the next one first
abbrev pub states_of : List Waiting → List State
states_of ws = reverse (map (λ w. w.state) ws)
