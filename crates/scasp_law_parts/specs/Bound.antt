-- Bindings that make their own equations true.
use Rattle.std.specs.Prelude.{◌≡◌, ℕ, false, nat_eq, List, [], ◌∷◌, map, ⊤}
use Rattle.scasp_list.specs.Each.{Each}
use Rattle.scasp_search_rules.specs.Successors.Regions.{equation}
use Rattle.scasp_syntax.specs.View.{tm_of}
use Rattle.scasp_syntax.specs.declared.con.Con.{Con}
use Rattle.scasp_unify.specs.Parts.{occurs}
use Rattle.scasp_unify.specs.Resolver.{Equal}
use Rattle.scasp_unify.specs.Solving.{sub_of}
use Rattle.scasp_unify.specs.declared.bindings.Binding.{Binding}

abbrev pub equations : List Binding → List Con
equations bs = map equation bs

-- read by all of the bindings, the two sides of each are one term
abbrev pub AreSolved : List Binding → Type 0
AreSolved bs = Each (Equal (sub_of bs)) (equations bs)

-- the binding neither binds x nor speaks of it
abbrev pub IsFree : ℕ → Binding → Type 0
IsFree x b = (nat_eq b.x x ≡ false) × (occurs x (tm_of b.term) ≡ false)

-- no binding speaks of a variable that it or an earlier one binds
abbrev pub Triangular : List Binding → Type 0
Triangular [] = ⊤
Triangular (b ∷ bs) = (occurs b.x (tm_of b.term) ≡ false) × Each (IsFree b.x) bs × Triangular bs
