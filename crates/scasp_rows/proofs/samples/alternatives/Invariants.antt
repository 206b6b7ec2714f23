use Rattle.std.proofs.Common.{◌≡◌, drop, ◌++◌, Some}
use Rattle.scasp_num.specs.Arithmetic.{◌>>=◌}
use Rattle.scasp_rows.specs.Samples.{alternatives}
use Rattle.scasp_rows.proofs.samples.alternatives.Given as goal

abbrev pub invariant-loop-r : goal.invariant-loop-r
invariant-loop-r l = (alternatives (drop l.r-index l.parts) >>= (λ rest. Some (l.all ++ rest))) ≡ alternatives l.parts
