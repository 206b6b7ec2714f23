use Rattle.std.proofs.Common.{◌≡◌, drop}
use Rattle.scasp_syntax.specs.Programs.{first_occurrences}
use Rattle.scasp_graph.specs.Inside.Growing.{grown}
use Rattle.scasp_reader.proofs.texts.texts.first_occurrences.Given as goal

abbrev pub invariant-loop-pred : goal.invariant-loop-pred
invariant-loop-pred l = grown l.firsts (drop l.pred-index l.preds) ≡ first_occurrences l.preds
