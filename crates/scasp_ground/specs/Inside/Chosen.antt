-- The way of a number: the members at its digits.
use Rattle.std.specs.Prelude.{ℕ, zero, suc, ◌/◌, ◌%◌, ◌^◌, List, [], ◌∷◌, length, slice_index_or}
use Rattle.scasp_syntax.specs.Tm.{Tm, var}

-- the first digit goes slowest
abbrev pub chosen : List Tm → ℕ → ℕ → List Tm
chosen d zero i = []
chosen d (suc n) i = slice_index_or d (i / length d ^ n) (var 0) ∷ chosen d n (i % length d ^ n)
