-- The values of all variables, by terms for the free ones.
use Rattle.std.specs.Prelude.{ℕ, zero, suc, List, [], ◌∷◌}
use Rattle.scasp_num.specs.Number.{zero_number}
use Rattle.scasp_syntax.specs.Tm.{Tm, num}
use Rattle.scasp_syntax.specs.Values.{Sub}

-- free variable x has the x-th of the terms, counted from 0; a variable that is not free has the number 0
abbrev pub valued : List Tm → Sub
valued [] x = num zero_number
valued (t ∷ ts) zero = t
valued (t ∷ ts) (suc x) = valued ts x
