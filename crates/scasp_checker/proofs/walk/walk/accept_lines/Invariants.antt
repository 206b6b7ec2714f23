use Rattle.std.proofs.Common.{length}
use Rattle.scasp_checker_lines.specs.LineFaults.Whole.{whole}
use Rattle.scasp_lines_walk.specs.Traversal.View.{lines_left}
use Rattle.scasp_checker.specs.Walk.Contexts.{IsKept}
use Rattle.scasp_checker.proofs.WalkLemmas.WalkLemmas.{Going}
use Rattle.scasp_checker.proofs.walk.walk.accept_lines.Given as goal

abbrev pub invariant-loop-context : goal.invariant-loop-context
invariant-loop-context l =
    record {
      going : Going (whole l.tabled.common) l.before (lines_left l.lines);
      kept : IsKept l.tabled.common.cert.now.given l.context.items l.lines;
    }

abbrev pub decreases-loop-context : goal.decreases-loop-context
decreases-loop-context l = length (lines_left l.lines)
