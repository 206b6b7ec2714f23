-- Sets of atoms, as lists without repeats.
use Rattle.std.specs.Prelude.{List, [], ◌∷◌}
use Rattle.scasp_syntax.specs.declared.atom.Atom.{Atom}
use Rattle.scasp_tables.specs.Tables.{with_atom}

-- each atom in order at the end, unless it is there
abbrev pub with_atoms : List Atom → List Atom → List Atom
with_atoms set [] = set
with_atoms set (a ∷ more) = with_atoms (with_atom set a) more
