use Rattle.std.proofs.Common.{◌≡◌, length}
use Rattle.scasp_graph.specs.Inside.Graphs.{AreBelow}
use Rattle.scasp_graph.specs.Inside.Orders.{AreNext}
use Rattle.scasp_graph.proofs.order.finishing_order.Given as goal

abbrev pub invariant-loop-root : goal.invariant-loop-root
invariant-loop-root l =
    record {
      sized : length l.seen.items ≡ l.graph.size;
      nexts : AreNext l.graph.size l.graph.edges.items l.next.items;
      below : AreBelow l.graph.size l.order.items;
    }
