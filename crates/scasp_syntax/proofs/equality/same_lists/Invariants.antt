use Rattle.std.proofs.Common.{◌≡◌, ◌+◌, ◌≤◌, ◌&&◌, drop, length}
use Rattle.std.specs.List.{list_all}
use Rattle.scasp_syntax.specs.Same.{same_tms}
use Rattle.scasp_syntax.specs.Tm.{weight_s}
use Rattle.scasp_syntax.specs.View.{tms_of}
use Rattle.scasp_syntax.proofs.Walks.{is_pair_same, pair_work}
use Rattle.scasp_syntax.proofs.equality.same_lists.Given as goal

abbrev pub invariant-loop-place : goal.invariant-loop-place
invariant-loop-place l = record {
  kept : (list_all is_pair_same l.unseen.items && same_tms (tms_of (drop l.place l.left)) (tms_of (drop l.place l.right))) ≡ same_tms (tms_of l.first) (tms_of l.second);
  smaller : pair_work l.unseen.items + weight_s (tms_of (drop l.place l.left)) ≤ pair_work l.initial.unseen.items + weight_s (tms_of l.left);
  lengths : length l.left ≡ length l.right;
}

abbrev pub invariant-loop-left : goal.invariant-loop-left
invariant-loop-left l = list_all is_pair_same l.unseen.items ≡ same_tms (tms_of l.first) (tms_of l.second)

abbrev pub decreases-loop-left : goal.decreases-loop-left
decreases-loop-left l = pair_work l.unseen.items
