-- Constraints that speak of numbers and one variable alone.
use Rattle.std.specs.Prelude.{◌≡◌, ℕ, Bool, true, false, List, [], ◌∷◌}
use Rattle.std.specs.List.{list_all}
use Rattle.scasp_num.specs.Number.{Number}
use Rattle.scasp_syntax.specs.Values.{Sub}
use Rattle.scasp_syntax.specs.declared.con.Con.{Con}
use Rattle.scasp_syntax.specs.declared.con.Con.TheVariants as con
use Rattle.scasp_syntax.specs.declared.term.Term.TheVariants.{Num}
use Rattle.scasp_unify.specs.Solving.{sub_of}
use Rattle.scasp_unify.specs.declared.bindings.Binding.{Binding}
use Rattle.scasp_store.specs.Inside.Asking.{is_told}
use Rattle.scasp_store.specs.Inside.Fixing.{Leaves}

-- it is a row, and s makes each of its variables a number or x
abbrev pub is_about : Sub → ℕ → Con → Bool
is_about s x (con.Row r) = list_all (λ k. is_told (x ∷ []) (s k.x)) r.coeffs
is_about s x (con.Eq t u) = false
is_about s x (con.Neq t u) = false
is_about s x (con.NotShape y f n) = false
is_about s x (con.Num t) = false
is_about s x (con.NotNum t) = false

-- the constraint, as the bindings read it, is a row that leaves this number to x and speaks of no other variable
pub record IsLeftBy (bs : List Binding) (c : Con) (x : ℕ) (q : Number) : Type 0 where
  pub about : is_about (sub_of bs) x c ≡ true
  pub leaves : Leaves bs c (record { x = x; term = Num q })
