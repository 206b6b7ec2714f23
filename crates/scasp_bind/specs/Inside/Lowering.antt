-- Which variables are lowered at a term itself, and not at its arguments.
use Rattle.std.specs.Prelude.{ℕ, Bool, false, nat_eq}
use Rattle.scasp_syntax.specs.Tm.{Tm, var, num, app}

-- the variable is the term
abbrev pub is_itself : Tm → ℕ → Bool
is_itself (var x) y = nat_eq y x
is_itself (num q) y = false
is_itself (app f ts) y = false
