use Rattle.std.proofs.Common.{◌≤◌, length}
use Rattle.scasp_graph.specs.Inside.Levels.{AreRising}
use Rattle.scasp_graph.proofs.levels.raise_in_order.Given as goal

abbrev pub invariant-loop-node : goal.invariant-loop-node
invariant-loop-node l = AreRising l.graph.size l.graph.edges.items l.members l.levels.items

abbrev pub invariant-loop-at : goal.invariant-loop-at
invariant-loop-at l =
    record {
      rising : AreRising l.graph.size l.graph.edges.items l.members l.levels.items;
      within : l.at ≤ length l.graph.edges.items;
    }

abbrev pub decreases-loop-at : goal.decreases-loop-at
decreases-loop-at l = l.at
