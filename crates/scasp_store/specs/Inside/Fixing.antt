-- Numbers that a list of constraints leaves to variables, and what is left of the list where they are put into it.
use Rattle.std.specs.Prelude.{◌≡◌, Bool, true, ◌||◌, not, if◌then◌else◌, List, [], ◌∷◌}
use Rattle.std.specs.List.{flat_map, list_all, list_any}
use Rattle.scasp_law_parts.specs.Bound.{Triangular, equations}
use Rattle.scasp_list.specs.Each.{Each}
use Rattle.scasp_num.specs.Linear.{Linear}
use Rattle.scasp_num.specs.declared.linear.Coeff.{Coeff}
use Rattle.scasp_num.specs.declared.linear.Op.TheVariants as op
use Rattle.scasp_search_rules.specs.Successors.Reading.{con_under, holds_always}
use Rattle.scasp_syntax.specs.Constraints.{holds, is_number}
use Rattle.scasp_syntax.specs.Tm.{var}
use Rattle.scasp_syntax.specs.Values.{Sub}
use Rattle.scasp_syntax.specs.View.{tm_of}
use Rattle.scasp_syntax.specs.declared.con.Con.{Con}
use Rattle.scasp_unify.specs.Resolver.{Equal}
use Rattle.scasp_unify.specs.declared.bindings.Binding.{Binding}
use Rattle.scasp_store.specs.Inside.Asking.{counts_all, is_row}

-- the row is an equation of this variable alone
pub record IsOnly (r : Linear) (k : Coeff) : Type 0 where
  pub op : r.op ≡ op.Eq
  pub coeffs : r.coeffs ≡ k ∷ []

-- The binding is to a number. What makes the equations of the others true, the variable a number, and meets the constraint, makes the
-- variable this number.
pub record Leaves (fs : List Binding) (c : Con) (b : Binding) : Type 0 where
  pub number : is_number (tm_of b.term) ≡ true
  pub only : (v : Sub) → Each (Equal v) (equations fs) → is_number (v b.x) ≡ true → holds v c ≡ true → v b.x ≡ tm_of b.term

-- what meets the list meets the constraint
abbrev pub Says : List Con → Con → Type 0
Says cs c = (v : Sub) → list_all (holds v) cs ≡ true → holds v c ≡ true

-- what meets the list makes the equations of these bindings true
pub record AreFixed (cs : List Con) (fs : List Binding) : Type 0 where
  pub triangular : Triangular fs
  pub follow : (v : Sub) → list_all (holds v) cs ≡ true → Each (Equal v) (equations fs)

-- the constraint by itself, unless it holds whatever its variables stand for
abbrev pub one_left : Con → List Con
one_left c = if holds_always c then [] else c ∷ []

-- the constraints, as s reads them, that do not hold in any case
abbrev pub left_by : Sub → List Con → List Con
left_by s cs = flat_map (λ c. one_left (con_under s c)) cs

-- there is no row, or the variables of each row count as numbers
abbrev pub counts_alone : List Con → Bool
counts_alone cs = not (list_any is_row cs) || counts_all var cs
