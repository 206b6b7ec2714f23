-- What the given constraints are read by: the bindings, and numbers that the constraints leave to variables.
use Rattle.std.specs.Prelude.{◌≡◌, ℕ, Bool, true, ◌||◌, List}
use Rattle.std.specs.List.{list_all, list_any}
use Rattle.scasp_law_parts.specs.Bound.{Triangular, equations}
use Rattle.scasp_list.specs.Each.{Each}
use Rattle.scasp_syntax.specs.Constraints.{holds, is_number}
use Rattle.scasp_syntax.specs.Tm.{var}
use Rattle.scasp_syntax.specs.Values.{Sub}
use Rattle.scasp_syntax.specs.declared.con.Con.{Con}
use Rattle.scasp_unify.specs.Numbers.{is_num_of}
use Rattle.scasp_unify.specs.Resolver.{Equal}
use Rattle.scasp_unify.specs.Solving.{sub_of}
use Rattle.scasp_unify.specs.declared.bindings.Binding.{Binding}

-- s reads the variable as a number, or the list says of what s reads it as that it is one
abbrev pub counts_by : Sub → List Con → ℕ → Bool
counts_by s cs x = is_number (s x) || list_any (is_num_of s (s x)) cs

-- What ds makes a number counts as one in the list, and what ds reads as one variable, bs reads as one term.
pub record AreAlike (bs ds : List Binding) (cs : List Con) : Type 0 where
  pub numbers : (x : ℕ) → is_number (sub_of ds x) ≡ true → counts_by (sub_of bs) cs x ≡ true
  pub same : (x z y : ℕ) → sub_of ds x ≡ var y → sub_of ds z ≡ var y → sub_of bs x ≡ sub_of bs z

-- What meets the list and the bindings bs makes the equations of ds true, and these give those of bs. What ds reads as a variable, bs reads
-- as the same one.
pub record Reads (bs ds : List Binding) (cs : List Con) : Type 0 where
  pub triangular : Triangular ds
  pub follow : (v : Sub) → Each (Equal v) (equations bs) → list_all (holds v) cs ≡ true → Each (Equal v) (equations ds)
  pub back : (v : Sub) → Each (Equal v) (equations ds) → Each (Equal v) (equations bs)
  pub variables : (x y : ℕ) → sub_of ds x ≡ var y → sub_of bs x ≡ var y
  pub numbers : (x : ℕ) → is_number (sub_of ds x) ≡ true → counts_by (sub_of bs) cs x ≡ true
