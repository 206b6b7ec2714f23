use Rattle.std.proofs.Common.{◌≡◌, ◌+◌, ◌≤◌, ◌&&◌, drop}
use Rattle.std.specs.List.{list_all}
use Rattle.scasp_syntax.specs.Tm.{weight_s}
use Rattle.scasp_syntax.specs.Values.{are_ground}
use Rattle.scasp_syntax.specs.View.{tms_of}
use Rattle.scasp_syntax.proofs.Walks.{is_list_ground, work}
use Rattle.scasp_syntax.proofs.groundness.are_ground.Given as goal

abbrev pub invariant-loop-term : goal.invariant-loop-term
invariant-loop-term l = record {
  kept : (list_all is_list_ground l.unseen.items && are_ground (tms_of (drop l.term-index l.list))) ≡ are_ground l.terms;
  smaller : work l.unseen.items + weight_s (tms_of (drop l.term-index l.list)) ≤ work l.initial.unseen.items + weight_s (tms_of l.list);
}

abbrev pub invariant-loop-list : goal.invariant-loop-list
invariant-loop-list l = list_all is_list_ground l.unseen.items ≡ are_ground l.terms

abbrev pub decreases-loop-list : goal.decreases-loop-list
decreases-loop-list l = work l.unseen.items
