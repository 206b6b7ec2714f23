-- What becomes of a state where a constraint is assumed.
use Rattle.std.specs.Prelude.{Bool, not, if◌then◌else◌, List, [], ◌∷◌, ◌++◌}
use Rattle.scasp_search_rules.specs.declared.states.outcomes.Status.{Status}
use Rattle.scasp_search_rules.specs.declared.states.outcomes.Status.TheVariants.{Entailed, Impossible, Added, Parts}
use Rattle.scasp_search_rules.specs.declared.states.state.State.{State}
use Rattle.scasp_syntax.specs.declared.con.Con.{Con}
use Rattle.scasp_unify.specs.Negations.{negated}
use Rattle.scasp_unify.specs.SimpleForm.{simple}
use Rattle.scasp_search_rules.specs.Successors.Reading.{con_under, holds_always}
use Rattle.scasp_search_rules.specs.Successors.Regions.{with_given, context, asked_with}
use Rattle.scasp_search_rules.specs.Successors.Splits.{split}
use Rattle.scasp_search_rules.specs.Successors.Steps.{Step, goes, followed}
use Rattle.scasp_search_rules.specs.Successors.Variables.{meaning, universals_of, is_empty, next_variable}

-- the constraint as it reads now, in simple form
abbrev pub as_read : State → Con → Con
as_read s c = simple (con_under (meaning s) c)

-- the constraints that a constraint is judged by: with universal variables the whole context, without them the given ones
abbrev pub judges : State → Con → List Con
judges s c = if is_empty (universals_of s c) then s.given else context s

-- those with the negation of the constraint, and with the constraint
abbrev pub against : State → Con → List Con
against s c = asked_with s (judges s c ++ negated (next_variable s) c ∷ [])

abbrev pub along : State → Con → List Con
along s c = asked_with s (judges s c ++ c ∷ [])

-- Where the constraint holds as it reads, nothing is asked. It is entailed where its negation has no valuation, and impossible where it has
-- none itself.
abbrev pub status : (List Con → Bool) → State → Con → Status
status sat s c =
    if holds_always (as_read s c) then Entailed
    else (if not (sat (against s c)) then Entailed
    else (if not (sat (along s c)) then Impossible
    else (if is_empty (universals_of s c) then Added else Parts)))

-- the lists that the status asks
abbrev pub asked_for : (List Con → Bool) → State → Con → List (List Con)
asked_for sat s c =
    if holds_always (as_read s c) then []
    else (if sat (against s c) then against s c ∷ along s c ∷ [] else against s c ∷ [])

abbrev pub performed : State → Con → Status → List State
performed s c Entailed = s ∷ []
performed s c Impossible = []
performed s c Added = with_given s c ∷ []
performed s c Parts = split s c ∷ []

-- the state in which the constraint is assumed, if there is one
abbrev pub assume : (List Con → Bool) → State → Con → Step
assume sat s c = record { asked = asked_for sat s c; states = performed s (as_read s c) (status sat s c) }

-- the state in which these constraints are assumed in order, if there is one
abbrev pub assume_all : (List Con → Bool) → List Con → State → Step
assume_all sat [] s = goes s
assume_all sat (c ∷ cs) s = followed (assume sat s c) (assume_all sat cs)
