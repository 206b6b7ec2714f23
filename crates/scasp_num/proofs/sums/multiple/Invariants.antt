use Rattle.std.proofs.Common.{◌≡◌, drop}
use Rattle.scasp_num.specs.Number.{InRange}
use Rattle.scasp_num.specs.Sums.{multiple}
use Rattle.scasp_num.proofs.sums.multiple.Given as goal

abbrev pub invariant-loop-k : goal.invariant-loop-k
invariant-loop-k l = (multiple l.l (drop l.k-index l.sums) ≡ multiple l.constant.den l.sums) × InRange l.l
