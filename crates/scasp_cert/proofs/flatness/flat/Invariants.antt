use Rattle.std.proofs.Common.{◌≡◌, length}
use Rattle.std.specs.List.{flat_map}
use Rattle.scasp_cert.specs.Certificate.{certificate_of}
use Rattle.scasp_cert.specs.Flat.{are_flat, listed_on}
use Rattle.scasp_cert.specs.Walk.{walk}
use Rattle.scasp_cert.specs.WalkView.{lines_left}
use Rattle.scasp_cert.proofs.flatness.flat.Given as goal

abbrev pub invariant-loop-walk : goal.invariant-loop-walk
invariant-loop-walk l =
    are_flat l.free (flat_map listed_on (walk (certificate_of l.cert))) ≡ are_flat l.free (flat_map listed_on (lines_left l.walk))

abbrev pub decreases-loop-walk : goal.decreases-loop-walk
decreases-loop-walk l = length (lines_left l.walk)
