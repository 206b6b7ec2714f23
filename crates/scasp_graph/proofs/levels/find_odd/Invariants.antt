use Rattle.std.proofs.Common.{length}
use Rattle.scasp_graph.proofs.LevelLemmas.{OddSoFar}
use Rattle.scasp_graph.proofs.levels.find_odd.Given as goal

abbrev pub invariant-loop-edge : goal.invariant-loop-edge
invariant-loop-edge l = OddSoFar (length l.members) l.edges l.members l.odd.items l.edge-index
