use Rattle.std.proofs.Common.{◌∷◌, map, refl}
use Rattle.scasp_lines_walk.specs.Shown.TableView.{told_from}
use Rattle.scasp_checker.specs.Partners.Partners.{behind_of}
use Rattle.scasp_checker.specs.declared.partners.partners.Partners.{Partners}
use Rattle.scasp_checker.proofs.PartnersLemmas.PartnerLemmas.{grouped-more}
use Rattle.scasp_checker.proofs.partners.partners.partners_of.Goals as goal

pub loop-saying-preserved : goal.loop-saying-preserved
loop-saying-preserved c =
    let saying = c.in-Some.saying in
    let ts = c.loop-saying.invariant.0 in
    let made : Partners = record { first = saying; behind = c.in_ok-partners.partners } in (
      told_from saying ∷ ts,
      grouped-more saying c.pred.result made c.loop-saying.left.items c.pop.new.self.items (map told_from c.args.left.items) ts
          c.loop-saying.all.items c.push.new.self.items (behind_of c.loop-saying.behind) (behind_of c.put_before.new.behind)
          c.in-Some.ensures.items c.pred.ensures refl c.in_ok-push.ensures.items c.in_ok-partners.ensures c.in_ok-put_before.ensures c.loop-saying.invariant.1,
    )
