use Rattle.std.proofs.Common.{◌≡◌, ◌++◌, drop}
use Rattle.scasp_graph.proofs.numbering.Numbering.predicates.Given as goal

abbrev pub invariant-loop-pred : goal.invariant-loop-pred
invariant-loop-pred l = l.preds ++ drop l.pred-index l.pred-items ≡ l.pred-items
