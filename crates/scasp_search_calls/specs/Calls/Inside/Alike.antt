-- Literals of one sign and one name.
use Rattle.std.specs.Prelude.{Bool, ◌&&◌, nat_eq}
use Rattle.scasp_syntax.specs.Same.{same_bool}
use Rattle.scasp_syntax.specs.declared.atom.Lit.{Lit}

abbrev pub is_alike : Lit → Lit → Bool
is_alike l k = same_bool l.positive k.positive && same_bool l.atom.minus k.atom.minus && nat_eq l.atom.name k.atom.name
