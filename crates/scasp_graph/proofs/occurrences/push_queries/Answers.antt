use Rattle.std.proofs.Common.{◌∙◌, ap, drop, ◌+◌}
use Rattle.std.specs.List.{flat_map}
use Rattle.scasp_graph.specs.Inside.Growing.{query_preds}
use Rattle.scasp_graph.specs.Inside.Growing.{grown}
use Rattle.scasp_graph.proofs.PredLemmas.{grown-step}
use Rattle.scasp_graph.proofs.occurrences.push_queries.Goals as goal

pub loop-query-preserved : goal.loop-query-preserved
loop-query-preserved c =
    ap (λ z. grown z (flat_map query_preds (drop (c.loop-query.query-index + 1) c.as_slice-query-items.result.now))) c.in_ok-push_body.ensures
    ∙ grown-step query_preds c.as_slice-query-items.result.now c.loop-query.query-index c.query-item.result c.loop-query.preds _ c.loop-query-test.true c.query-item.is c.loop-query.invariant
