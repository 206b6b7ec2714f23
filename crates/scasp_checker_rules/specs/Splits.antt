-- Which constraints may split a case.
use Rattle.std.specs.Prelude.{ℕ, Bool, true, false, ◌&&◌, ◌||◌, not, nat_eq}
use Rattle.std.specs.List.{list_any}
use Rattle.scasp_syntax.specs.Tm.{Tm, Tms, var, num, app, nil, cons}
use Rattle.scasp_syntax.specs.Values.{Sub, under}
use Rattle.scasp_syntax.specs.View.{tm_of}
use Rattle.scasp_syntax.specs.declared.con.Con.{Con}
use Rattle.scasp_syntax.specs.declared.con.Con.TheVariants as con
use Rattle.scasp_unify.specs.Parts.{occurs}

-- some variable of these is universal
abbrev mutual
  pub has_any : (ℕ → Bool) → Tm → Bool
  has_any universal (var x) = universal x
  has_any universal (num q) = false
  has_any universal (app f ts) = have_any universal ts

  pub have_any : (ℕ → Bool) → Tms → Bool
  have_any universal nil = false
  have_any universal (cons t ts) = has_any universal t || have_any universal ts

-- the variable is universal, and not in the other side as it is replaced
abbrev pub is_split_variable : (ℕ → Bool) → Sub → ℕ → Tm → Bool
is_split_variable universal replaced x t = universal x && not (occurs x (under replaced t))

-- the variable that is the left side, or else the right one, is a universal that is not in the other side
abbrev pub is_equated : (ℕ → Bool) → Sub → Tm → Tm → Bool
is_equated universal replaced (var x) t = is_split_variable universal replaced x t
is_equated universal replaced (num q) (var x) = is_split_variable universal replaced x (num q)
is_equated universal replaced (num q) (num r) = true
is_equated universal replaced (num q) (app g us) = true
is_equated universal replaced (app f ts) (var x) = is_split_variable universal replaced x (app f ts)
is_equated universal replaced (app f ts) (num r) = true
is_equated universal replaced (app f ts) (app g us) = true

abbrev pub is_split_between : (ℕ → Bool) → Sub → Tm → Tm → Bool
is_split_between universal replaced t u = (has_any universal t || has_any universal u) && is_equated universal replaced t u

-- Some variable is universal. A shape with parts is excluded only where the parts are written.
abbrev pub may_split : (ℕ → Bool) → Sub → Con → Bool
may_split universal replaced (con.Eq t u) = is_split_between universal replaced (tm_of t) (tm_of u)
may_split universal replaced (con.Neq t u) = is_split_between universal replaced (tm_of t) (tm_of u)
may_split universal replaced (con.NotShape x f n) = nat_eq n 0 && universal x
may_split universal replaced (con.Num t) = has_any universal (tm_of t)
may_split universal replaced (con.NotNum t) = has_any universal (tm_of t)
may_split universal replaced (con.Row r) = list_any (λ k. universal k.x) r.coeffs
