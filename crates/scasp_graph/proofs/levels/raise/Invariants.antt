use Rattle.std.proofs.Common.{length}
use Rattle.scasp_graph.proofs.LevelLemmas.{Raising}
use Rattle.scasp_graph.proofs.levels.raise.Given as goal

abbrev pub invariant-loop-place : goal.invariant-loop-place
invariant-loop-place l = Raising (length l.fn.levels.items) l.edges l.members l.fn.levels.items l.levels.items l.raised l.place
