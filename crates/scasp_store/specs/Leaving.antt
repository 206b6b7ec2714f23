-- A number that is left to an unbound variable.
use Rattle.std.specs.Prelude.{◌≡◌, ℕ, Bool, true, false, List, [], ◌∷◌, ◌++◌, map}
use Rattle.scasp_hint.specs.Satisfying.{sat}
use Rattle.scasp_num.specs.Number.{Number}
use Rattle.scasp_search_rules.specs.Successors.Regions.{equation}
use Rattle.scasp_search_rules.specs.Successors.Variables.{binding}
use Rattle.scasp_syntax.specs.Same.{same_number}
use Rattle.scasp_syntax.specs.Tm.{var, num}
use Rattle.scasp_syntax.specs.declared.con.Con.{Con}
use Rattle.scasp_unify.specs.Solving.{sub_of}
use Rattle.scasp_unify.specs.declared.bindings.Binding.{Binding}

-- The variable is unbound. Bound to another number it has no valuation with these constraints, whatever else is asked.
pub record IsLeft (bs : List Binding) (cs : List Con) (x : ℕ) (q : Number) : Type 0 where
  pub unbound : sub_of bs x ≡ var x
  pub others :
      (r : Number) (more : List Con) → same_number q r ≡ false
      → sat (map equation (bs ++ binding x (num r) ∷ []) ++ (cs ++ more)) ≡ false
