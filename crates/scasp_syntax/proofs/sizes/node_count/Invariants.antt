use Rattle.std.proofs.Common.{◌≡◌, ◌+◌, ◌-◌, ◌^◌, ◌<◌, ◌≤◌, min, drop}
use Rattle.scasp_syntax.specs.Tm.{weight_s}
use Rattle.scasp_syntax.specs.View.{tms_of}
use Rattle.scasp_syntax.proofs.Walks.{nodes, work}
use Rattle.scasp_syntax.proofs.sizes.node_count.Given as goal

abbrev pub invariant-loop-term : goal.invariant-loop-term
invariant-loop-term l = record {
  bound : l.count < 2 ^ 64;
  kept : min (l.count + (nodes l.unseen.items + weight_s (tms_of (drop l.term-index l.list)))) (2 ^ 64 - 1) ≡ min (weight_s l.terms) (2 ^ 64 - 1);
  smaller : work l.unseen.items + weight_s (tms_of (drop l.term-index l.list)) ≤ work l.initial.unseen.items + weight_s (tms_of l.list);
}

abbrev pub invariant-loop-list : goal.invariant-loop-list
invariant-loop-list l = record {
  bound : l.count < 2 ^ 64;
  kept : min (l.count + nodes l.unseen.items) (2 ^ 64 - 1) ≡ min (weight_s l.terms) (2 ^ 64 - 1);
}

abbrev pub decreases-loop-list : goal.decreases-loop-list
decreases-loop-list l = work l.unseen.items
