use Rattle.std.proofs.Common.{◌≡◌, drop}
use Rattle.scasp_rows.specs.Steps.{pairs_fit}
use Rattle.scasp_rows.proofs.range.pairs_fit.Given as goal

abbrev pub invariant-loop-k : goal.invariant-loop-k
invariant-loop-k l = pairs_fit l.a l.p.coeffs l.b (drop l.k-index l.terms) ≡ pairs_fit l.a l.p.coeffs l.b l.terms
