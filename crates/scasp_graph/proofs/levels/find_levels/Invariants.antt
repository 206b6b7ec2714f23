use Rattle.std.proofs.Common.{◌-◌, ◌*◌}
use Rattle.scasp_graph.specs.Inside.Levels.{AreRising, level_sum}
use Rattle.scasp_graph.proofs.levels.find_levels.Given as goal

abbrev pub invariant-loop : goal.invariant-loop
invariant-loop l = AreRising (l.graph.size) l.graph.edges.items l.members l.levels.items

abbrev pub decreases-loop : goal.decreases-loop
decreases-loop l = l.graph.size * l.graph.size - level_sum l.levels.items
