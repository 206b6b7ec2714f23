use Rattle.std.proofs.Common.{◌≡◌, max, drop}
use Rattle.scasp_checker_rules.specs.PairLists.{above_terms}
use Rattle.scasp_disjoint.proofs.above.above_terms.Given as goal

abbrev pub invariant-loop-k : goal.invariant-loop-k
invariant-loop-k l = max l.number (above_terms (drop l.k-index l.coeffs)) ≡ above_terms l.coeffs
