use Rattle.std.proofs.Common.{◌≡◌, drop}
use Rattle.scasp_num.specs.Linear.{leads_below}
use Rattle.scasp_num.proofs.normal.leads_below.Given as goal

abbrev pub invariant-loop-k : goal.invariant-loop-k
invariant-loop-k l = leads_below (drop l.k-index l.coeffs) l.constant ≡ leads_below l.coeffs l.constant
