use Rattle.std.proofs.Common.{◌∙◌, length, ap, sym}
use Rattle.scasp_syntax.specs.contracts.atom.PredPartialEq.TheImpl.{eq-value}
use Rattle.scasp_graph.specs.Numbering.{place_in}
use Rattle.scasp_graph.proofs.PlaceLemmas.{eq-is, place-found, place-missing}
use Rattle.scasp_graph.proofs.numbering.Numbering.place.Goals as goal

pub returns-in-Some : goal.returns-in-Some
returns-in-Some c =
    place-found (eq-value.it c.args.pred.now) c.args.pred.now (eq-is c.args.pred.now) c.in-Some.place c.self.inside.preds.keys c.in-Some.ensures.index
    ∙ ap (λ z. place_in z c.args.pred.now) c.self.view_is

pub returns-in-None : goal.returns-in-None
returns-in-None c =
    c.len.ensures ∙ ap length (sym c.self.view_is)
    ∙ sym (place-missing (eq-value.it c.args.pred.now) c.args.pred.now (eq-is c.args.pred.now) c.self.inside.preds.keys c.in-None.ensures.index)
    ∙ ap (λ z. place_in z c.args.pred.now) c.self.view_is
