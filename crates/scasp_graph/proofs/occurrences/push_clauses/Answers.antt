use Rattle.std.proofs.Common.{◌∙◌, ap, drop, ◌+◌}
use Rattle.std.specs.List.{flat_map}
use Rattle.scasp_syntax.specs.Programs.{clause_preds}
use Rattle.scasp_graph.specs.Inside.Growing.{grown}
use Rattle.scasp_graph.proofs.PredLemmas.{grown-step}
use Rattle.scasp_graph.proofs.occurrences.push_clauses.Goals as goal

pub loop-clause-preserved : goal.loop-clause-preserved
loop-clause-preserved c =
    ap (λ z. grown z (flat_map clause_preds (drop (c.loop-clause.clause-index + 1) c.as_slice-clause-items.result.now))) c.in_ok-push_clause.ensures
    ∙ grown-step clause_preds c.as_slice-clause-items.result.now c.loop-clause.clause-index c.clause-item.result c.loop-clause.preds _ c.loop-clause-test.true c.clause-item.is c.loop-clause.invariant
