use Rattle.std.proofs.Common.{◌≡◌, ◌++◌, length, map}
use Rattle.scasp_cert.specs.Certificate.{certificate_of}
use Rattle.scasp_cert.specs.Walk.{walk}
use Rattle.scasp_cert.specs.WalkView.{line_of, lines_left}
use Rattle.scasp_skeleton.proofs.skeletons.lines_of.Given as goal

abbrev pub invariant-lines : goal.invariant-lines
invariant-lines l = map line_of l.made.items ++ lines_left l.left ≡ walk (certificate_of l.cert)

abbrev pub decreases-lines : goal.decreases-lines
decreases-lines l = length (lines_left l.left)
