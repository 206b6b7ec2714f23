-- The question whether a list has a valuation with some constraints more, and the question about a part that stands for it.
use Rattle.std.specs.Prelude.{◌≡◌, ℕ, Bool, true, false, List, ◌++◌, map, Some, ⊤}
use Rattle.std.specs.List.{list_all, filter}
use Rattle.scasp_list.specs.Each.{Each}
use Rattle.scasp_num.specs.Linear.{Linear, IsNormal}
use Rattle.scasp_search_rules.specs.Successors.Reading.{con_under}
use Rattle.scasp_syntax.specs.Constraints.{holds}
use Rattle.scasp_syntax.specs.Values.{Sub}
use Rattle.scasp_syntax.specs.declared.con.Con.{Con}
use Rattle.scasp_syntax.specs.declared.con.Con.TheVariants as con
use Rattle.scasp_unify.specs.ResolvedRows.{resolved_row}
use Rattle.scasp_unify.specs.Solving.{sub_of}
use Rattle.scasp_unify.specs.Sorted.{Sorted}
use Rattle.scasp_unify.specs.TermFailures.{is_compound}
use Rattle.scasp_unify.specs.Unification.{then_by}
use Rattle.scasp_unify.specs.declared.bindings.Binding.{Binding}
use Rattle.scasp_law_parts.specs.Bound.{AreSolved, equations}
use Rattle.scasp_law_parts.specs.Parts.{SatUnder, lies_within, are_parted, inside, outside}

-- a row in normal form that reads within range, none of whose variables stands for a name with arguments
pub record IsReadableRow (s : Sub) (r : Linear) : Type 0 where
  pub normal : IsNormal r
  pub row : Linear
  pub read : Some row ≡ resolved_row s r
  pub flat : Each (λ k. is_compound (s k.x) ≡ false) r.coeffs

-- the constraint, written as s reads it, says the same
abbrev pub IsReadable : Sub → Con → Type 0
IsReadable s (con.Row r) = IsReadableRow s r
IsReadable s (con.Eq t u) = ⊤
IsReadable s (con.Neq t u) = ⊤
IsReadable s (con.NotShape x f n) = ⊤
IsReadable s (con.Num t) = ⊤
IsReadable s (con.NotNum t) = ⊤

-- the constraints that do not pass the test hold as s reads them, whatever their variables stand for
abbrev pub HoldAlways : Sub → (Con → Bool) → List Con → Type 0
HoldAlways s f cs = Each (λ c. f c ≡ false → (v : Sub) → holds (then_by s v) c ≡ true) cs

-- the constraints of the part that pass the test, and then those that are asked
abbrev pub part_with : Sub → (Con → Bool) → (ℕ → Bool) → List Con → List Con → List Con
part_with s f p cs asked = inside s p (filter f cs) ++ asked

-- the same as the bindings read them
abbrev pub part_read : List Binding → (Con → Bool) → (ℕ → Bool) → List Con → List Con → List Con
part_read bs f p cs asked = map (con_under (sub_of bs)) (part_with (sub_of bs) f p cs asked)

-- When the part p is enough: what is asked lies in it, the constraints outside of it have a valuation and share no variable with it, and
-- those that f leaves out hold always.
pub record IsEnough (s : Sub) (f : Con → Bool) (p : ℕ → Bool) (cs asked : List Con) : Type 0 where
  pub left_out : HoldAlways s f cs
  pub parted : are_parted s p (filter f cs) ≡ true
  pub within : list_all (lies_within s p) asked ≡ true
  pub met : SatUnder s (outside s p (filter f cs))

-- When the part may be asked in place of the whole list: it is enough, its constraints are readable, and both lists are among those that
-- are decided.
pub record StandsForAll (bs : List Binding) (f : Con → Bool) (p : ℕ → Bool) (cs asked : List Con) : Type 0 where
  pub solved : AreSolved bs
  pub enough : IsEnough (sub_of bs) f p cs asked
  pub readable : Each (IsReadable (sub_of bs)) (part_with (sub_of bs) f p cs asked)
  pub sorted : Sorted (equations bs ++ (cs ++ asked))
  pub part_sorted : Sorted (part_read bs f p cs asked)
