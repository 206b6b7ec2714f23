use Rattle.std.proofs.Common.{◌≡◌, ◌++◌, drop, map}
use Rattle.std.specs.List.{flat_map}
use Rattle.scasp_syntax.specs.Programs.{pred_of}
use Rattle.scasp_graph.specs.Inside.Places.{numbered_edge}
use Rattle.scasp_graph.specs.Walks.{item_dependencies}
use Rattle.scasp_graph.proofs.analysis.push_edges.Given as goal

abbrev pub invariant-loop-item : goal.invariant-loop-item
invariant-loop-item l =
    l.edges.items ++ map (numbered_edge l.preds) (flat_map (item_dependencies (pred_of l.head)) (drop l.item-index l.item-items))
    ≡ l.fn.edges.items ++ map (numbered_edge l.preds) (flat_map (item_dependencies (pred_of l.head)) l.item-items)
