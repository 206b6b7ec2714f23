use Rattle.scasp_extend_levels.proofs.StandingLemmas.{rule-more}
use Rattle.scasp_extend_levels.proofs.numbered.Level.push.Goals as goal

pub returns : goal.returns
returns c =
    rule-more c.args.self.now.table c.put.new.self c.numbered_body.new.table c.args.self.now.rules c.push.new.self c.in_ok-place.place c.args.head.now
    c.in_ok-body.body c.args.body.now c.in_ok-place.ensures.atoms c.in_ok-place.ensures.number c.in_ok-body.ensures.grown c.in_ok-body.ensures.body
    c.in_ok-push.ensures.ok
