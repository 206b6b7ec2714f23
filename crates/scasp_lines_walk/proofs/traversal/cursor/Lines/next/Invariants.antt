use Rattle.std.proofs.Common.{◌≡◌, List, vec_len}
use Rattle.scasp_syntax.specs.declared.con.Con.{Con}
use Rattle.scasp_lines_walk.specs.Traversal.Going.{IsReady}
use Rattle.scasp_lines_walk.specs.Traversal.View.{lines_left}
use Rattle.scasp_lines_walk.proofs.traversal.cursor.Lines.next.Given as goal

abbrev pub invariant-loop-kept : goal.invariant-loop-kept
invariant-loop-kept l =
    record {
      lines : lines_left l.self ≡ lines_left l.fn.self;
      ready : (now : List Con) → IsReady now l.fn.self → IsReady now l.self;
    }

abbrev pub decreases-loop-kept : goal.decreases-loop-kept
decreases-loop-kept l = vec_len l.self.waiting
