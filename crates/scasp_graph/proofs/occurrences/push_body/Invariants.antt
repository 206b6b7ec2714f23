use Rattle.std.proofs.Common.{◌≡◌, drop}
use Rattle.scasp_syntax.specs.Programs.{body_preds}
use Rattle.scasp_graph.specs.Inside.Growing.{grown}
use Rattle.scasp_graph.proofs.occurrences.push_body.Given as goal

abbrev pub invariant-loop-item : goal.invariant-loop-item
invariant-loop-item l = grown l.preds (body_preds (drop l.item-index l.item-items)) ≡ grown l.fn.preds (body_preds l.item-items)
