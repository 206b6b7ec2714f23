-- The numbers that terms are, and rational points read through a substitution.
use Rattle.std.specs.Prelude.{ℕ}
use Rattle.scasp_num.specs.Number.{Number}
use Rattle.scasp_syntax.specs.Tm.{Tm, var, num, app}
use Rattle.scasp_syntax.specs.Values.{Sub}

-- the number that a term is where variables are numbers; a compound term leaves the variable that stands for it
abbrev pub read_as : (ℕ → Number) → ℕ → Tm → Number
read_as p x (var y) = p y
read_as p x (num q) = q
read_as p x (app f ts) = p x

abbrev pub through : Sub → (ℕ → Number) → ℕ → Number
through s p x = read_as p x (s x)
