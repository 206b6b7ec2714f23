use Rattle.std.proofs.Common.{◌≡◌, ◌++◌, drop, map}
use Rattle.scasp_graph.specs.Inside.Components.{turned}
use Rattle.scasp_graph.proofs.analysis.turned.Given as goal

abbrev pub invariant-loop-edge : goal.invariant-loop-edge
invariant-loop-edge l = l.other.items ++ map turned (drop l.edge-index l.edges) ≡ map turned l.edges
