use Rattle.scasp_graph.proofs.PredLemmas.{predicates-grown}
use Rattle.scasp_graph.proofs.occurrences.number.Goals as goal

pub returns : goal.returns
returns c = predicates-grown c.args.program.now _ _ _ c.new-preds.ensures c.in_ok-push_clauses.ensures c.in_ok-push_queries.ensures
