use Rattle.std.proofs.Common.{◌∙◌, ◌∷◌, Bool, ap, map, sym}
use Rattle.std.specs.HashMap.{get}
use Rattle.scasp_lines_walk.specs.Shown.TableView.{told_from}
use Rattle.scasp_syntax.specs.declared.atom.Pred.{Pred}
use Rattle.scasp_checker.specs.Partners.Partners.{behind_of, same_key}
use Rattle.scasp_checker.proofs.PartnersLemmas.PartnerLemmas.{put-first}
use Rattle.scasp_checker.proofs.partners.partners.put_before.Goals as goal

pub returns : goal.returns
returns c =
    let made = c.in_ok-chain.ensures ∙ ap (λ (p : Pred). behind_of c.args.behind.now p c.args.saying.now.positive) (c.pred.ensures ∙ sym c.pred-2.ensures) in
    put-first (λ (p : Pred) (s : Bool). get same_key c.args.behind.now (p, s)) (λ (p : Pred) (s : Bool). get same_key c.insert.new.self (p, s))
    (told_from c.args.saying) c.pred-2.result c.in_ok-longer.longer c.pred-2.ensures
    (λ p s. c.in_ok-insert.ensures.updates.0 (p, s))
    (ap (map told_from) c.in_ok-longer.ensures ∙ (λ i. told_from c.args.saying ∷ made i))
