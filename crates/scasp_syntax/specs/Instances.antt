-- Atoms and heads with their variables replaced.
use Rattle.std.specs.Prelude.{Option, None, Some}
use Rattle.scasp_syntax.specs.Values.{Sub, all_under}
use Rattle.scasp_syntax.specs.declared.atom.Atom.{Atom}

abbrev pub atom_under : Sub → Atom → Atom
atom_under v a = record { minus = a.minus; name = a.name; args = all_under v a.args }

abbrev pub head_under : Sub → Option Atom → Option Atom
head_under v None = None
head_under v (Some a) = Some (atom_under v a)
