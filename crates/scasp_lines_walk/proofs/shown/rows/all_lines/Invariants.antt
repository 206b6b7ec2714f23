use Rattle.std.proofs.Common.{◌≡◌, ◌++◌, length, map}
use Rattle.scasp_cert.specs.Certificate.{certificate_of}
use Rattle.scasp_lines.specs.Lines.{lines}
use Rattle.scasp_lines_walk.specs.Traversal.View.{line_of, lines_left}
use Rattle.scasp_lines_walk.proofs.shown.rows.all_lines.Given as goal

abbrev pub invariant-loop-all : goal.invariant-loop-all
invariant-loop-all l = map line_of l.all.items ++ lines_left l.lines ≡ lines l.program (certificate_of l.cert)

abbrev pub decreases-loop-all : goal.decreases-loop-all
decreases-loop-all l = length (lines_left l.lines)
