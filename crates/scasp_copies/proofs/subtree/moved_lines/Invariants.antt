use Rattle.std.proofs.Common.{◌≡◌, drop, map}
use Rattle.scasp_copies.specs.View.{pieces_of, waiting_of, moved_by}
use Rattle.scasp_copies.proofs.subtree.moved_lines.Given as goal

abbrev pub invariant-loop-place : goal.invariant-loop-place
invariant-loop-place l = waiting_of l.made.items ≡ map (moved_by l.moving) (pieces_of (drop l.place l.lines))
