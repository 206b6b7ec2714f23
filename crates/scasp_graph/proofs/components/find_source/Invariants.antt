use Rattle.std.proofs.Common.{length}
use Rattle.scasp_graph.proofs.ComponentLemmas.{Searched}
use Rattle.scasp_graph.proofs.components.find_source.Given as goal

abbrev pub invariant-loop-next : goal.invariant-loop-next
invariant-loop-next l = Searched l.ahead.size l.ahead.edges.items l.free l.from.items l.to.items l.leading.items l.nodes.items

abbrev pub decreases-loop-next : goal.decreases-loop-next
decreases-loop-next l = length l.leading.items
