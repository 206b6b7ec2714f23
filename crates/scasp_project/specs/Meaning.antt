-- What a projection means.
use Rattle.std.specs.Prelude.{◌≡◌, ℕ, false, IsTrue, List, ⊤}
use Rattle.std.specs.List.{list_all, list_any}
use Rattle.scasp_syntax.specs.Constraints.{Meets, holds}
use Rattle.scasp_syntax.specs.Values.{Sub, Valuation}
use Rattle.scasp_syntax.specs.declared.con.Con.{Con}
use Rattle.scasp_syntax.specs.declared.con.Con.TheVariants as con
use Rattle.scasp_project.specs.Dropped.{is_dropped}
use Rattle.scasp_project.specs.declared.projecting.Projected.{Projected}
use Rattle.scasp_project.specs.declared.projecting.Projected.TheVariants as projected

abbrev pub IsNoEquation : Con → Type 0
IsNoEquation (con.Eq t u) = ⊥
IsNoEquation (con.Neq t u) = ⊤
IsNoEquation (con.NotShape x f n) = ⊤
IsNoEquation (con.Num t) = ⊤
IsNoEquation (con.NotNum t) = ⊤
IsNoEquation (con.Row r) = ⊤

-- the two give the kept variables the same values
abbrev pub Agree : List ℕ → Sub → Sub → Type 0
Agree keep v w = (x : ℕ) → is_dropped keep x ≡ false → w x ≡ v x

-- some values of the dropped variables meet the list, beside the values of the kept ones
abbrev pub Extends : List ℕ → Valuation → List Con → Type 0
Extends keep v cs = (w : Valuation) × Agree keep v.of w.of × Meets w.of cs

-- the valuation meets one of the lists
abbrev pub MeetsOne : Sub → List (List Con) → Type 0
MeetsOne v lists = IsTrue (list_any (list_all (holds v)) lists)

-- P holds of the alternatives, where there are not too many
abbrev pub IfAlternatives : Projected → (List (List Con) → Type 0) → Type 0
IfAlternatives (projected.Alternatives lists) P = P lists
IfAlternatives projected.TooMany P = ⊤
