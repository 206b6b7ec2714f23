use Rattle.std.proofs.Common.{◌-◌}
use Rattle.scasp_graph.proofs.ReachLemmas.{Going, Visiting}
use Rattle.scasp_graph.proofs.graph.Graph.search.Given as goal

abbrev pub invariant-loop-at : goal.invariant-loop-at
invariant-loop-at l =
    Visiting l.self.size l.self.edges.items l.inside l.start l.marks.items l.queue.items l.done l.node l.parity l.at

abbrev pub decreases-loop-at : goal.decreases-loop-at
decreases-loop-at l = l.at

abbrev pub invariant-loop-done : goal.invariant-loop-done
invariant-loop-done l = Going l.self.size l.self.edges.items l.inside l.start l.marks.items l.queue.items l.done

abbrev pub decreases-loop-done : goal.decreases-loop-done
decreases-loop-done l = l.self.size - l.done
