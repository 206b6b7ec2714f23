-- Above the variable that a term is.
use Rattle.std.specs.Prelude.{ℕ, suc}
use Rattle.scasp_syntax.specs.Tm.{Tm, var, num, app}

abbrev pub past : Tm → ℕ
past (var y) = suc y
past (num q) = 0
past (app f ts) = 0
