-- The lists of constraints of which it is decided whether they have a valuation.
use Rattle.std.specs.Prelude.{◌≡◌, Bool, true, false, IsTrue, List}
use Rattle.std.specs.List.{list_all, Contains}
use Rattle.scasp_list.specs.Each.{Each}
use Rattle.scasp_syntax.specs.Constraints.{Sat}
use Rattle.scasp_syntax.specs.declared.con.Con.{Con}
use Rattle.scasp_syntax.specs.declared.con.Con.TheVariants as con
use Rattle.scasp_unify.specs.Numbers.{counts}
use Rattle.scasp_unify.specs.Resolver.{unifies}

abbrev pub is_typed_con : List Con → Con → Bool
is_typed_con cs (con.Row r) = list_all (λ k. counts cs k.x) r.coeffs
is_typed_con cs (con.Num t) = true
is_typed_con cs (con.Eq t w) = true
is_typed_con cs (con.Neq t w) = true
is_typed_con cs (con.NotShape x f n) = true
is_typed_con cs (con.NotNum t) = true

-- each variable of each row counts as a number
abbrev pub is_typed : List Con → Bool
is_typed cs = list_all (is_typed_con cs) cs

-- the lists whose valuations are decided
pub data Sorted (cs : List Con) : Type 0 where
  apart : unifies cs ≡ false → Sorted cs
  typed : IsTrue (is_typed cs) → Sorted cs
  partly : (some : List Con) → Each (Contains cs) some → IsTrue (is_typed some) → (Sat some → ⊥) → Sorted cs
