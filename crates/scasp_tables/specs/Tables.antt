-- What stands in a table.
use Rattle.std.specs.Prelude.{Bool, List, [], ◌∷◌, ◌++◌, if◌then◌else◌}
use Rattle.std.specs.List.{list_any}
use Rattle.scasp_model.specs.Atoms.{among}
use Rattle.scasp_syntax.specs.Same.{same_tm}
use Rattle.scasp_syntax.specs.Tm.{Tm}
use Rattle.scasp_syntax.specs.declared.atom.Atom.{Atom}

-- the atoms, and behind them the atom where it is new
abbrev pub with_atom : List Atom → Atom → List Atom
with_atom atoms a = if among atoms a then atoms else atoms ++ a ∷ []

-- the term is one of these
abbrev pub is_member : List Tm → Tm → Bool
is_member terms t = list_any (same_tm t) terms
