use Rattle.std.proofs.Common.{◌≡◌, drop, None}
use Rattle.scasp_rows.specs.Samples.{bound}
use Rattle.scasp_rows.proofs.backward.bound.Given as goal

abbrev pub invariant-loop-r : goal.invariant-loop-r
invariant-loop-r l = bound l.sign l.x l.point (drop l.r-index l.rows) l.best ≡ bound l.sign l.x l.point l.rows None
