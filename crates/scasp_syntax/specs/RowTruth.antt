-- Whether a linear comparison holds under a substitution: where each variable stands for the number that its value is.
use Rattle.std.specs.Prelude.{ℕ, Bool}
use Rattle.scasp_num.specs.Linear.{Linear}
use Rattle.scasp_num.specs.Number.{Number, zero_number}
use Rattle.scasp_num.specs.Values.{holds}
use Rattle.scasp_syntax.specs.Tm.{Tm, var, num, app}
use Rattle.scasp_syntax.specs.Values.{Sub}

-- the number that a value is; what is no number counts as 0
abbrev pub number_of : Tm → Number
number_of (var x) = zero_number
number_of (num q) = q
number_of (app f ts) = zero_number

-- the numbers of the variables
abbrev pub point : Sub → ℕ → Number
point v x = number_of (v x)

abbrev pub row_holds : Sub → Linear → Bool
row_holds v r = holds (point v) r
