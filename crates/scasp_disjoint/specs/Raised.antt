-- The substitution that raises variables.
use Rattle.scasp_syntax.specs.Values.{Sub}
use Rattle.scasp_checker_rules.specs.PairLists.{raising}
use Rattle.scasp_disjoint.specs.declared.raising.Raising.{Raising}

abbrev pub raising_by : Raising → Sub
raising_by r = raising r.free r.by
