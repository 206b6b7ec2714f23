use Rattle.std.proofs.Common.{◌≡◌, drop}
use Rattle.scasp_rows.specs.Samples.{first_met}
use Rattle.scasp_rows.proofs.samples.first_met.Given as goal

abbrev pub invariant-loop-a : goal.invariant-loop-a
invariant-loop-a l = first_met l.rows (drop l.a-index l.alternatives) ≡ first_met l.rows l.alternatives
