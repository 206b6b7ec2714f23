use Rattle.std.proofs.Common.{length}
use Rattle.scasp_graph.proofs.ReachLemmas.{Clearing}
use Rattle.scasp_graph.proofs.graph.clear.Given as goal

abbrev pub invariant-loop-node : goal.invariant-loop-node
invariant-loop-node l = Clearing (length l.fn.marks.items) l.marks.items l.nodes l.node-index
