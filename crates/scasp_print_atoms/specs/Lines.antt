-- The lines of atoms.
use Rattle.std.specs.Prelude.{ℕ, if◌then◌else◌, List, [], ◌∷◌, ◌++◌, length, map, codes}
use Rattle.std.specs.List.{flat_map}
use Rattle.scasp_cert.specs.Text.Terms.{atom_text}
use Rattle.scasp_model.specs.Atoms.{among}
use Rattle.scasp_syntax.specs.declared.atom.Atom.{Atom}
use Rattle.scasp_print_atoms.specs.Order.{in_byte_order}

-- the atoms, each once
abbrev pub without_repeats : List Atom → List Atom
without_repeats [] = []
without_repeats (a ∷ others) = if among others a then without_repeats others else a ∷ without_repeats others

-- how many atoms there are
abbrev pub atom_count : List Atom → ℕ
atom_count atoms = length (without_repeats atoms)

-- the text behind a blank
abbrev pub atom_line : List ℕ → List ℕ
atom_line text = codes " " ++ text ++ codes "\n"

-- a line for each atom, in byte order of their texts
abbrev pub atom_lines : List (List ℕ) → List Atom → List ℕ
atom_lines names atoms = flat_map atom_line (in_byte_order (map (atom_text names) (without_repeats atoms)))
