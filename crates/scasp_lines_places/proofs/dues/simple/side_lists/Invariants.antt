use Rattle.std.proofs.Common.{◌≡◌, ◌≤◌, map, drop, length}
use Rattle.scasp_syntax.specs.View.{tm_of}
use Rattle.scasp_unify.specs.Parts.{left_side, right_side}
use Rattle.scasp_unify.specs.SimpleForm.{list_term}
use Rattle.scasp_unify.specs.Solving.{part_of}
use Rattle.scasp_lines_places.proofs.dues.simple.side_lists.Given as goal

abbrev pub invariant-loop-place : goal.invariant-loop-place
invariant-loop-place l = record {
  within : l.place ≤ length l.parts;
  left : tm_of l.left ≡ list_term (map left_side (map part_of (drop l.place l.parts)));
  right : tm_of l.right ≡ list_term (map right_side (map part_of (drop l.place l.parts)));
}

abbrev pub decreases-loop-place : goal.decreases-loop-place
decreases-loop-place l = l.place
