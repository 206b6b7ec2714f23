use Rattle.std.proofs.Common.{◌≡◌, drop}
use Rattle.scasp_rows.specs.Samples.{value_in}
use Rattle.scasp_sample.proofs.sampling.value_in.Given as goal

abbrev pub invariant-loop-pair : goal.invariant-loop-pair
invariant-loop-pair l = value_in (drop l.pair-index l.point) l.x ≡ value_in l.point l.x
