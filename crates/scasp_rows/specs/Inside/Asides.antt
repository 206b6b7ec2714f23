-- The rows that a sample keeps: of each variable, those that have it when it is eliminated.
use Rattle.std.specs.Prelude.{ℕ, not, filter, List, [], ◌∷◌, Result, Ok}
use Rattle.scasp_num.specs.declared.linear.RatPair.{RatPair}
use Rattle.scasp_num.specs.Linear.{is_zero}
use Rattle.scasp_rows.specs.declared.backward.Aside.{Aside}
use Rattle.scasp_rows.specs.declared.state.Halt.{Halt}
use Rattle.scasp_rows.specs.declared.state.Standing.{Standing}
use Rattle.scasp_rows.specs.declared.state.State.{State}
use Rattle.scasp_rows.specs.Elimination.{and_then, factor, without}
use Rattle.scasp_rows.specs.Samples.{value_for, with_value_for}

abbrev pub rows_having : ℕ → List Standing → List Standing
rows_having x rows = filter (λ r. not (is_zero (factor x r))) rows

-- the rows of each variable, while all are eliminated in order
abbrev pub asides_from : List ℕ → State → Result (List Aside) Halt
asides_from [] s = Ok []
asides_from (x ∷ xs) s =
    and_then (without x s) (λ t. and_then (asides_from xs t) (λ later. Ok (record { x = x; rows = rows_having x s.standing } ∷ later)))

-- the variables take their values from the last one to the first, in front of those of a point
abbrev pub valued : List Aside → List RatPair → Result (List RatPair) Halt
valued [] point = Ok point
valued (a ∷ later) point = and_then (valued later point) (λ known. with_value_for a.x known (value_for a.x a.rows known))
