use Rattle.scasp_extend_levels.proofs.StandingLemmas.{body-more}
use Rattle.scasp_extend_levels.proofs.numbered.numbered_body.Goals as goal

pub loop-literal-preserved : goal.loop-literal-preserved
loop-literal-preserved c =
    let p =
    body-more c.args.table.now c.loop-literal.table c.put.new.self c.loop-literal.made.items c.push.new.self.items c.as_slice-literal-items.result.now c.loop-literal.literal-index c.in_ok-place.place
    c.literal-item.result c.loop-literal-test.true c.literal-item.is c.loop-literal.invariant.grown c.loop-literal.invariant.body c.in_ok-place.ensures.atoms
    c.in_ok-place.ensures.number c.in_ok-push.ensures.items in
    record { grown = p.0; body = p.1 }
