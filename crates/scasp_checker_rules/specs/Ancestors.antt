-- The literal above that a loop names.
use Rattle.std.specs.Prelude.{ℕ, Bool, false, ◌&&◌, ◌||◌, not, nat_eq, if◌then◌else◌, Option, None, Some, List, [], ◌∷◌}
use Rattle.scasp_syntax.specs.Instances.{atom_under}
use Rattle.scasp_syntax.specs.Same.{same_atom, same_bool}
use Rattle.scasp_syntax.specs.declared.atom.Lit.{Lit}
use Rattle.scasp_lines.specs.Places.{Above, Place}

-- the one on this line
abbrev pub entry_at : ℕ → List Above → Option Above
entry_at at [] = None
entry_at at (e ∷ es) = if nat_eq e.at at then Some e else entry_at at es

-- the entry is of this literal, as its atom is replaced here
abbrev pub is_entry_of : Place → Lit → Above → Bool
is_entry_of here l e = same_bool e.positive l.positive && same_atom (atom_under here.replaced e.atom) l.atom

-- a negated literal stands nearer than this line
abbrev pub is_negated_before : ℕ → List Above → Bool
is_negated_before at [] = false
is_negated_before at (e ∷ es) = if nat_eq e.at at then false else (not e.positive || is_negated_before at es)
