use Rattle.scasp_graph.proofs.GraphLemmas.{Linked}
use Rattle.scasp_graph.proofs.graph.Graph.new.Given as goal

abbrev pub invariant-loop-place : goal.invariant-loop-place
invariant-loop-place l = Linked l.size l.edge-items l.first.items l.link.items l.place
