-- What it means that texts are in byte order, and that atoms are without repeats.
use Rattle.std.specs.Prelude.{ℕ, IsTrue, List, IsPermutation, IsSorted}
use Rattle.std.specs.Cmp.Lexicographic.{slice_cmp}
use Rattle.std.specs.Ordering.{nat_cmp}
use Rattle.scasp_model.specs.Atoms.{SameAtoms, are_distinct}
use Rattle.scasp_syntax.specs.declared.atom.Atom.{Atom}
use Rattle.scasp_print_atoms.specs.Lines.{without_repeats}
use Rattle.scasp_print_atoms.specs.Order.{in_byte_order}

-- these texts, in another order, and none stands behind one that it comes before
pub record IsInOrder (texts ordered : List (List ℕ)) : Type 0 where
  pub same : IsPermutation texts ordered
  pub sorted : IsSorted (slice_cmp nat_cmp) ordered

abbrev pub OrderMeans : Type 0
OrderMeans = (texts : List (List ℕ)) → IsInOrder texts (in_byte_order texts)

-- the same atoms, each once
pub record IsOnce (atoms once : List Atom) : Type 0 where
  pub same : SameAtoms once atoms
  pub distinct : IsTrue (are_distinct once)

abbrev pub RepeatsMean : Type 0
RepeatsMean = (atoms : List Atom) → IsOnce atoms (without_repeats atoms)
