-- Open literals.
use Rattle.std.specs.Prelude.{ℕ, not, ◌&&◌, if◌then◌else◌, Option, None, Some, List, [], ◌∷◌, filter, reverse}
use Rattle.scasp_search_rules.specs.declared.states.state.Literal.{Literal}
use Rattle.scasp_search_rules.specs.declared.states.state.State.{State}
use Rattle.scasp_search_rules.specs.Successors.Calls.{at_number, looping, finished}

-- those of the literals that are open, the innermost first
abbrev pub open_among : List Literal → List Literal
open_among ls = filter (λ a. not a.is_done) (reverse ls)

-- the number of the first, where it is positive
abbrev pub positive_number : List Literal → Option ℕ
positive_number [] = None
positive_number (a ∷ rest) = if a.lit.positive then Some a.number else None

-- a positive loop leads out of the literal of this number
abbrev pub marked_by : Option ℕ → State → State
marked_by None s = s
marked_by (Some n) s = record s { literals = at_number n looping s.literals }

-- the literal to which the mark of a literal moves on
abbrev pub moved_to : Literal → List Literal → Option ℕ
moved_to a rest = if a.loops && a.lit.positive then positive_number rest else None

-- the literal of this number is done
abbrev pub done_by : ℕ → State → State
done_by n s = record s { literals = at_number n finished s.literals }
