use Rattle.std.proofs.Common.{◌≡◌, ◌+◌, ◌≤◌, drop, length}
use Rattle.scasp_lines.specs.Ways.{set_all}
use Rattle.scasp_syntax.specs.View.{tms_of}
use Rattle.scasp_extend_instances.specs.View.{way_of}
use Rattle.scasp_extend_instances.proofs.ways.with_parts.Given as goal

abbrev pub invariant-loop-left : goal.invariant-loop-left
invariant-loop-left l =
    record {
      within : l.left ≤ length l.parts;
      made : way_of l.made ≡ set_all (way_of l.way) (l.first + l.left) (tms_of (drop l.left l.parts));
    }

abbrev pub decreases-loop-left : goal.decreases-loop-left
decreases-loop-left l = l.left
