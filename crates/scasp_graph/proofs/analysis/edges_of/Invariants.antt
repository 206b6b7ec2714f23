use Rattle.std.proofs.Common.{◌≡◌, ◌++◌, drop, map}
use Rattle.std.specs.List.{flat_map}
use Rattle.scasp_graph.specs.Inside.Places.{numbered_edge}
use Rattle.scasp_graph.specs.Walks.{clause_dependencies, dependencies}
use Rattle.scasp_graph.proofs.analysis.edges_of.Given as goal

abbrev pub invariant-loop-clause : goal.invariant-loop-clause
invariant-loop-clause l =
    l.edges.items ++ map (numbered_edge l.preds) (flat_map clause_dependencies (drop l.clause-index l.clause-items))
    ≡ map (numbered_edge l.preds) (dependencies l.program)
