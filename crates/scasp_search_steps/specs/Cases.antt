-- The case of the innermost cover.
use Rattle.std.specs.Prelude.{Bool, List, [], ◌∷◌}
use Rattle.scasp_search_rules.specs.declared.states.covers.Cover.{Cover}
use Rattle.scasp_search_rules.specs.declared.states.state.State.{State}
use Rattle.scasp_search_rules.specs.Successors.Cases.{cases_of}
use Rattle.scasp_search_rules.specs.Successors.Steps.{Step, fails}
use Rattle.scasp_syntax.specs.declared.con.Con.{Con}
use Rattle.scasp_syntax.specs.declared.program.Program.{Program}

-- what comes of the case of the first of these covers
abbrev pub cases_inside : Program → (List Con → Bool) → State → List Cover → Step
cases_inside p sat s [] = fails
cases_inside p sat s (c ∷ cs) = cases_of p sat s c
