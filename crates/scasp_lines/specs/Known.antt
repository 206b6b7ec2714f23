-- Terms and constraints whose variables are all known.
use Rattle.std.specs.Prelude.{ℕ, Bool, true, ◌&&◌}
use Rattle.std.specs.List.{list_all}
use Rattle.scasp_syntax.specs.Tm.{Tm, Tms, var, app, nil, cons, num}
use Rattle.scasp_syntax.specs.View.{tm_of}
use Rattle.scasp_syntax.specs.declared.con.Con.{Con}
use Rattle.scasp_syntax.specs.declared.con.Con.TheVariants as con

-- each variable of the term is known
abbrev mutual
  pub is_known : (ℕ → Bool) → Tm → Bool
  is_known known (var x) = known x
  is_known known (num q) = true
  is_known known (app f ts) = are_known known ts

  pub are_known : (ℕ → Bool) → Tms → Bool
  are_known known nil = true
  are_known known (cons t ts) = is_known known t && are_known known ts

-- each variable of the constraint is known
abbrev pub is_con_known : (ℕ → Bool) → Con → Bool
is_con_known known (con.Eq t s) = is_known known (tm_of t) && is_known known (tm_of s)
is_con_known known (con.Neq t s) = is_known known (tm_of t) && is_known known (tm_of s)
is_con_known known (con.NotShape x name arity) = known x
is_con_known known (con.Num t) = is_known known (tm_of t)
is_con_known known (con.NotNum t) = is_known known (tm_of t)
is_con_known known (con.Row r) = list_all (λ j. known j.x) r.coeffs
