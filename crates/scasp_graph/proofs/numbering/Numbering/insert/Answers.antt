use Rattle.std.proofs.Common.{◌∙◌, ap}
use Rattle.scasp_syntax.specs.contracts.atom.PredPartialEq.TheImpl.{eq-value}
use Rattle.scasp_graph.specs.Inside.Growing.{with_pred}
use Rattle.scasp_graph.proofs.PlaceLemmas.{eq-is, inserted}
use Rattle.scasp_graph.proofs.numbering.Numbering.insert.Goals as goal

pub returns : goal.returns
returns c =
    inserted (eq-value.it c.args.pred.now) c.args.pred.now (eq-is c.args.pred.now) c.self.inside.preds.keys c.insert.new.self.keys c.in_ok-insert.ensures.keys
    ∙ ap (λ z. with_pred z c.args.pred.now) c.self.view_is
