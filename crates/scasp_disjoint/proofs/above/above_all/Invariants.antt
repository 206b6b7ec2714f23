use Rattle.std.proofs.Common.{◌≡◌, max}
use Rattle.scasp_syntax.specs.Tm.{weight_s}
use Rattle.scasp_checker_rules.specs.PairLists.{above_all}
use Rattle.scasp_disjoint.proofs.above.above_all.Given as goal

abbrev pub invariant-terms : goal.invariant-terms
invariant-terms l = max l.number (above_all l.left) ≡ above_all l.terms

abbrev pub decreases-terms : goal.decreases-terms
decreases-terms l = weight_s l.left
