-- Lists that fail by one or two of their constraints, whatever the others say.
use Rattle.std.specs.Prelude.{◌≡◌, ◌==◌, ℕ, Bool, true, false, List, Some, length, slice_get}
use Rattle.std.specs.List.{list_all}
use Rattle.scasp_syntax.specs.Constraints.{holds, is_number}
use Rattle.scasp_syntax.specs.Tm.{var}
use Rattle.scasp_syntax.specs.Values.{Sub, under}
use Rattle.scasp_syntax.specs.View.{tm_of}
use Rattle.scasp_syntax.specs.declared.con.Con.{Con}
use Rattle.scasp_syntax.specs.declared.con.Con.TheVariants as con
use Rattle.scasp_syntax.specs.declared.term.Term.{Term}
use Rattle.scasp_unify.specs.Unification.{then_by}

-- the list says that what s reads as x is a number
pub record Tells (s : Sub) (x : ℕ) (cs : List Con) : Type 0 where
  pub at : ℕ
  pub term : Term
  pub there : Some (con.Num term) ≡ slice_get cs at
  pub reads : under s (tm_of term) ≡ var x

-- the list says that what s reads as x is no number
pub record Denies (s : Sub) (x : ℕ) (cs : List Con) : Type 0 where
  pub at : ℕ
  pub term : Term
  pub there : Some (con.NotNum term) ≡ slice_get cs at
  pub reads : under s (tm_of term) ≡ var x

-- of one variable the first list says that it is a number, and the second one that it is none
pub record AreContrary (s : Sub) (cs more : List Con) : Type 0 where
  pub x : ℕ
  pub tells : Tells s x cs
  pub denies : Denies s x more

-- it is a row, and s makes each of its variables a number
abbrev pub has_numbers : Sub → Con → Bool
has_numbers s (con.Row r) = list_all (λ k. is_number (s k.x)) r.coeffs
has_numbers s (con.Eq t u) = false
has_numbers s (con.Neq t u) = false
has_numbers s (con.NotShape x f n) = false
has_numbers s (con.Num t) = false
has_numbers s (con.NotNum t) = false

-- it is a row without variables
abbrev pub is_constant : Con → Bool
is_constant (con.Row r) = length r.coeffs == 0
is_constant (con.Eq t u) = false
is_constant (con.Neq t u) = false
is_constant (con.NotShape x f n) = false
is_constant (con.Num t) = false
is_constant (con.NotNum t) = false

-- it is a row that is false of the numbers that s makes its variables
pub record IsFalse (s : Sub) (c : Con) : Type 0 where
  pub numbers : has_numbers s c ≡ true
  pub never : (v : Sub) → holds (then_by s v) c ≡ false

pub record HasFalse (s : Sub) (cs : List Con) : Type 0 where
  pub at : ℕ
  pub con : Con
  pub there : Some con ≡ slice_get cs at
  pub fails : IsFalse s con
