use Rattle.std.proofs.Common.{◌≡◌, drop}
use Rattle.std.specs.List.{flat_map}
use Rattle.scasp_graph.specs.Inside.Growing.{grown, query_preds}
use Rattle.scasp_graph.proofs.occurrences.push_queries.Given as goal

abbrev pub invariant-loop-query : goal.invariant-loop-query
invariant-loop-query l = grown l.preds (flat_map query_preds (drop l.query-index l.query-items)) ≡ grown l.fn.preds (flat_map query_preds l.query-items)
