-- Lists of atoms as sets.
use Rattle.std.specs.Prelude.{◌≡◌, Bool, true, ◌&&◌, not, List, [], ◌∷◌}
use Rattle.std.specs.List.{list_all, list_any}
use Rattle.scasp_syntax.specs.Same.{same_atom}
use Rattle.scasp_syntax.specs.declared.atom.Atom.{Atom}

-- the atom is in the list
abbrev pub among : List Atom → Atom → Bool
among atoms a = list_any (same_atom a) atoms

-- each of the wanted atoms is in the list
abbrev pub has_all : List Atom → List Atom → Bool
has_all atoms wanted = list_all (among atoms) wanted

-- an atom is in the one list exactly where it is in the other
abbrev pub SameAtoms : List Atom → List Atom → Type 0
SameAtoms m n = (a : Atom) → among m a ≡ among n a

-- no atom stands twice
abbrev pub are_distinct : List Atom → Bool
are_distinct [] = true
are_distinct (a ∷ others) = not (among others a) && are_distinct others
