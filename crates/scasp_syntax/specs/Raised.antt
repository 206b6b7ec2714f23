-- Variables that are raised within the machine's numbers.
use Rattle.std.specs.Prelude.{ℕ, ◌+◌, ◌-◌, ◌^◌, min}
use Rattle.scasp_syntax.specs.Tm.{var}
use Rattle.scasp_syntax.specs.Values.{Sub}

-- the variable whose number is higher by so much, or the last one
abbrev pub raised_within : ℕ → Sub
raised_within by x = var (min (x + by) (2 ^ 64 - 1))
