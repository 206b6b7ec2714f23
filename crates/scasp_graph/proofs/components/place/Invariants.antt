use Rattle.scasp_graph.proofs.PlacingLemmas.{Placing}
use Rattle.scasp_graph.proofs.components.place.Given as goal

abbrev pub invariant-loop-node : goal.invariant-loop-node
invariant-loop-node l =
    Placing l.fn.members.items l.fn.free.items l.root l.rank l.nodes l.from l.to l.members.items l.free.items l.node-index
