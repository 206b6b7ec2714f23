use Rattle.std.proofs.Common.{◌+◌, ◌*◌, length}
use Rattle.scasp_graph.specs.Inside.Levels.{level_sum}
use Rattle.scasp_graph.proofs.OrderLemmas.{Leaving}
use Rattle.scasp_graph.proofs.order.leave.Given as goal

abbrev pub invariant-loop-node : goal.invariant-loop-node
invariant-loop-node l = Leaving l.graph.size l.graph.edges.items l.seen.items l.next.items l.path.items l.order.items

abbrev pub decreases-loop-node : goal.decreases-loop-node
decreases-loop-node l = 2 * level_sum l.next.items + length l.path.items
