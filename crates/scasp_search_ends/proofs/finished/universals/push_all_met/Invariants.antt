use Rattle.std.proofs.Common.{◌≡◌, ◌++◌}
use Rattle.scasp_search_rules.specs.Successors.Numbering.{all_met}
use Rattle.scasp_syntax.specs.Tm.{weight_s}
use Rattle.scasp_search_ends.proofs.finished.universals.push_all_met.Given as goal

abbrev pub invariant-pairs : goal.invariant-pairs
invariant-pairs l = l.found ++ all_met l.left l.others ≡ l.fn.found ++ all_met l.heads l.parts

abbrev pub decreases-pairs : goal.decreases-pairs
decreases-pairs l = weight_s l.left
