-- Literals that differ by a name or a number.
use Rattle.std.specs.Prelude.{Bool, ◌&&◌, nat_eq, length}
use Rattle.scasp_checker_rules.specs.Told.{Told}
use Rattle.scasp_checker_answer.specs.NameClashes.{clash_among}
use Rattle.scasp_syntax.specs.Tm.{items}

-- they have as many arguments, and differ by a name or a number
abbrev pub differ_by_names : Told → Told → Bool
differ_by_names a b = nat_eq (length (items a.atom.args)) (length (items b.atom.args)) && clash_among a.atom.args b.atom.args
