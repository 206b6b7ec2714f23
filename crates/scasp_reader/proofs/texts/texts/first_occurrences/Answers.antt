use Rattle.std.proofs.Common.{drop, ap, ◌∙◌}
use Rattle.scasp_graph.specs.Inside.Growing.{grown}
use Rattle.scasp_reader.proofs.TextsLemmas.OccurrenceLemmas.{grown-first}
use Rattle.scasp_reader.proofs.texts.texts.first_occurrences.Goals as goal

pub loop-pred-init : goal.loop-pred-init
loop-pred-init c = ap (λ firsts. grown firsts c.args.preds.now) c.new-firsts.ensures ∙ grown-first c.args.preds.now
