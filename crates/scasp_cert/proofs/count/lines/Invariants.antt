use Rattle.std.proofs.Common.{◌≡◌, ◌+◌, ◌-◌, ◌^◌, ◌<◌, min, length}
use Rattle.scasp_cert.specs.Certificate.{certificate_of}
use Rattle.scasp_cert.specs.Walk.{walk}
use Rattle.scasp_cert.specs.WalkView.{lines_left}
use Rattle.scasp_cert.proofs.count.lines.Given as goal

abbrev pub invariant-loop-walk : goal.invariant-loop-walk
invariant-loop-walk l = record {
  bound : l.count < 2 ^ 64;
  kept : min (l.count + length (lines_left l.walk)) (2 ^ 64 - 1) ≡ min (length (walk (certificate_of l.cert))) (2 ^ 64 - 1);
}

abbrev pub decreases-loop-walk : goal.decreases-loop-walk
decreases-loop-walk l = length (lines_left l.walk)
