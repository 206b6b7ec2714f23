-- When a constraint holds, and when a list of constraints can be met.
use Rattle.std.specs.Prelude.{ℕ, Bool, true, false, ◌&&◌, not, nat_eq, IsTrue, List, length}
use Rattle.std.specs.List.{list_all}
use Rattle.scasp_syntax.specs.RowTruth.{row_holds}
use Rattle.scasp_syntax.specs.Same.{same_tm}
use Rattle.scasp_syntax.specs.Tm.{Tm, var, num, app, items}
use Rattle.scasp_syntax.specs.Values.{Sub, under, Valuation}
use Rattle.scasp_syntax.specs.View.{tm_of}
use Rattle.scasp_syntax.specs.declared.con.Con.{Con}
use Rattle.scasp_syntax.specs.declared.con.Con.TheVariants as con

abbrev pub is_number : Tm → Bool
is_number (var x) = false
is_number (num q) = true
is_number (app f ts) = false

-- the term is this name with so many arguments
abbrev pub has_shape : ℕ → ℕ → Tm → Bool
has_shape name arity (var x) = false
has_shape name arity (num q) = false
has_shape name arity (app f ts) = nat_eq f name && nat_eq (length (items ts)) arity

-- whether the constraint holds where the variables have these values
abbrev pub holds : Sub → Con → Bool
holds v (con.Eq t s) = same_tm (under v (tm_of t)) (under v (tm_of s))
holds v (con.Neq t s) = not (same_tm (under v (tm_of t)) (under v (tm_of s)))
holds v (con.NotShape x name arity) = not (has_shape name arity (v x))
holds v (con.Num t) = is_number (under v (tm_of t))
holds v (con.NotNum t) = not (is_number (under v (tm_of t)))
holds v (con.Row r) = row_holds v r

-- the valuation makes each constraint true
abbrev pub Meets : Sub → List Con → Type 0
Meets v cs = IsTrue (list_all (holds v) cs)

-- some valuation meets the list
pub record Sat (cs : List Con) : Type 0 where
  pub by : Valuation
  pub meets : Meets by.of cs

-- each valuation that meets the list makes the constraint true
abbrev pub Entails : List Con → Con → Type 0
Entails cs c = (v : Valuation) → Meets v.of cs → IsTrue (holds v.of c)
