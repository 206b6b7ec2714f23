-- Chains as lists, the innermost item last.
use Rattle.std.specs.Prelude.{List, reverse}
use Rattle.scasp_lines_places.specs.Places.Chains.{chained}
use Rattle.scasp_lines_places.specs.declared.places.chain.Chain.{Chain}

abbrev pub listed : {T : Type 0} → Chain T → List T
listed {T} c = reverse (chained c)
