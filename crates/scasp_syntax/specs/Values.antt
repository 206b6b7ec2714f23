-- Ground terms, substitutions and valuations.
use Rattle.std.specs.Prelude.{ℕ, zero, suc, ◌+◌, Bool, true, false, ◌&&◌, IsTrue, List, [], ◌∷◌}
use Rattle.scasp_syntax.specs.Tm.{Tm, Tms, var, num, app, nil, cons}

-- a term for each variable
abbrev pub Sub : Type 0
Sub = ℕ → Tm

-- the term with its variables replaced
abbrev mutual
  pub under : Sub → Tm → Tm
  under s (var x) = s x
  under s (num q) = num q
  under s (app f ts) = app f (all_under s ts)

  pub all_under : Sub → Tms → Tms
  all_under s nil = nil
  all_under s (cons t ts) = cons (under s t) (all_under s ts)

-- the substitution that raises each variable
abbrev pub raised : ℕ → Sub
raised by x = var (x + by)

-- the substitution that gives variable x the x-th of the terms, counted from 0
abbrev pub giving : List Tm → Sub
giving [] x = var x
giving (t ∷ ts) zero = t
giving (t ∷ ts) (suc x) = giving ts x

-- no variable stands in the term
abbrev mutual
  pub is_ground : Tm → Bool
  is_ground (var x) = false
  is_ground (num q) = true
  is_ground (app f ts) = are_ground ts

  pub are_ground : Tms → Bool
  are_ground nil = true
  are_ground (cons t ts) = is_ground t && are_ground ts

-- a ground term for each variable
pub record Valuation : Type 0 where
  pub of : Sub
  pub ground : (x : ℕ) → IsTrue (is_ground (of x))
