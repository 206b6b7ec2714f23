-- What bindings alone make of things, in the words of the search.
use Rattle.std.specs.Prelude.{Bool, List}
use Rattle.scasp_readings.specs.declared.passing.Has.{Has}
use Rattle.scasp_readings.specs.declared.passing.TestsNumber.{TestsNumber}
use Rattle.scasp_search_rules.specs.Successors.Reading.{among, con_vars}
use Rattle.scasp_search_rules.specs.Successors.Search.{nothing}
use Rattle.scasp_search_rules.specs.Successors.Splits.{is_number_test}
use Rattle.scasp_search_rules.specs.declared.states.state.State.{State}
use Rattle.scasp_syntax.specs.declared.con.Con.{Con}
use Rattle.scasp_unify.specs.Solving.{sub_of}
use Rattle.scasp_unify.specs.declared.bindings.Binding.{Binding}

-- the state that has these bindings and nothing else
abbrev pub reading : List Binding → State
reading bs = record nothing { bound = bs }

-- the variable stands in the constraint
abbrev pub has : Has → Con → Bool
has h c = among h.x (con_vars (sub_of h.bound.now.now) c)

-- the constraint is the test that the variable is a number
abbrev pub tests_number : TestsNumber → Con → Bool
tests_number t c = is_number_test (reading t.bound.now.now) t.x c
