use Rattle.std.proofs.Common.{◌≡◌, ◌+◌, ◌++◌, ◌&&◌, cond, length, map}
use Rattle.scasp_fill.specs.Filling.Inside.Findings.{all_known, lists_asked}
use Rattle.scasp_fill.specs.Filling.Inside.Left.{left_if}
use Rattle.scasp_fill.specs.Filling.Inside.Pieces.{hinted_at, hinted_value}
use Rattle.scasp_lines_walk.specs.Traversal.View.{lines_left}
use Rattle.scasp_fill.proofs.filling.hints.put_all.Given as goal

abbrev pub invariant-loop-more : goal.invariant-loop-more
invariant-loop-more l =
    record {
      lines : map hinted_value l.made.all.items ++ map (hinted_at l.given) (left_if l.more l.left) ≡ map hinted_value l.fn.made.all.items ++ map (hinted_at l.given) (lines_left l.fn.left);
      known : (l.made.known && all_known (lists_asked l.given (left_if l.more l.left))) ≡ (l.fn.made.known && all_known (lists_asked l.given (lines_left l.fn.left)));
    }

abbrev pub decreases-loop-more : goal.decreases-loop-more
decreases-loop-more l = length (left_if l.more l.left) + cond l.more 1 0
