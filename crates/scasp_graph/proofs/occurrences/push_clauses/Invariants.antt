use Rattle.std.proofs.Common.{◌≡◌, drop}
use Rattle.std.specs.List.{flat_map}
use Rattle.scasp_syntax.specs.Programs.{clause_preds}
use Rattle.scasp_graph.specs.Inside.Growing.{grown}
use Rattle.scasp_graph.proofs.occurrences.push_clauses.Given as goal

abbrev pub invariant-loop-clause : goal.invariant-loop-clause
invariant-loop-clause l = grown l.preds (flat_map clause_preds (drop l.clause-index l.clause-items)) ≡ grown l.fn.preds (flat_map clause_preds l.clause-items)
