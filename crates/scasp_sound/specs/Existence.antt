-- Programs that have a stable model.
use Rattle.std.specs.Prelude.{List}
use Rattle.scasp_syntax.specs.declared.atom.Atom.{Atom}
use Rattle.scasp_model.specs.Stable.{Stable}
use Rattle.scasp_model.specs.declared.program.GroundClause.{GroundClause}

-- some list is a stable model
abbrev pub HasStable : List GroundClause → Type 0
HasStable g = (m : List Atom) × Stable g m
