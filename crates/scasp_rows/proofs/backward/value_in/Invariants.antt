use Rattle.std.proofs.Common.{◌≡◌, drop}
use Rattle.scasp_rows.specs.Samples.{value_in}
use Rattle.scasp_rows.proofs.backward.value_in.Given as goal

abbrev pub invariant-loop-p : goal.invariant-loop-p
invariant-loop-p l = value_in (drop l.p-index l.point) l.y ≡ value_in l.point l.y
