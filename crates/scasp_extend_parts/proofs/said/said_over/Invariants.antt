use Rattle.std.proofs.Common.{◌≡◌, [], length, true, false}
use Rattle.scasp_cert.specs.Certificate.{certificate_of}
use Rattle.scasp_extend_instances.specs.Values.{valued}
use Rattle.scasp_extend_levels.specs.Sets.{with_atoms}
use Rattle.scasp_lines.specs.Lines.{lines}
use Rattle.scasp_lines.specs.Said.{atoms_of, false_atoms, said_by_lines, true_atoms}
use Rattle.scasp_lines_walk.specs.Traversal.View.{lines_left}
use Rattle.scasp_syntax.specs.Tm.{items}
use Rattle.scasp_extend_parts.specs.Obstacles.{lines_obstacle}
use Rattle.scasp_extend_parts.proofs.said.said_over.Given as goal

abbrev pub invariant-loop-lines : goal.invariant-loop-lines
invariant-loop-lines l =
    record {
      obstacle : lines_obstacle (valued (items l.values)) (items l.domain) (lines_left l.lines)
          ≡ lines_obstacle (valued (items l.values)) (items l.domain) (lines l.program (certificate_of l.cert));
      trues : with_atoms l.told.trues (atoms_of true (said_by_lines (lines_left l.lines) (valued (items l.values)) (items l.domain)))
          ≡ with_atoms [] (true_atoms l.program (certificate_of l.cert) (valued (items l.values)) (items l.domain));
      falses : with_atoms l.told.falses (atoms_of false (said_by_lines (lines_left l.lines) (valued (items l.values)) (items l.domain)))
          ≡ with_atoms [] (false_atoms l.program (certificate_of l.cert) (valued (items l.values)) (items l.domain));
    }

abbrev pub decreases-loop-lines : goal.decreases-loop-lines
decreases-loop-lines l = length (lines_left l.lines)
