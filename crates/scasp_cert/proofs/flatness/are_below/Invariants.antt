use Rattle.std.proofs.Common.{◌≡◌}
use Rattle.scasp_syntax.specs.Tm.{weight_s}
use Rattle.scasp_syntax.specs.WellFormed.{are_below}
use Rattle.scasp_cert.proofs.flatness.are_below.Given as goal

abbrev pub invariant-terms : goal.invariant-terms
invariant-terms l = are_below l.free l.left ≡ are_below l.free l.terms

abbrev pub decreases-terms : goal.decreases-terms
decreases-terms l = weight_s l.left
