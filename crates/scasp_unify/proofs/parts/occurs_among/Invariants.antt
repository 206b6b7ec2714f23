use Rattle.std.proofs.Common.{◌≡◌}
use Rattle.scasp_syntax.specs.Tm.{weight_s}
use Rattle.scasp_unify.specs.Parts.{occurs_among}
use Rattle.scasp_unify.proofs.parts.occurs_among.Given as goal

abbrev pub invariant-terms : goal.invariant-terms
invariant-terms l = occurs_among l.x l.left ≡ occurs_among l.x l.terms

abbrev pub decreases-terms : goal.decreases-terms
decreases-terms l = weight_s l.left
