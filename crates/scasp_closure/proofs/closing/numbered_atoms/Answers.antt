use Rattle.scasp_closure.proofs.ReadingLemmas.{numbered-more}
use Rattle.scasp_closure.proofs.closing.numbered_atoms.Goals as goal

pub loop-atom-preserved : goal.loop-atom-preserved
loop-atom-preserved c =
    let p =
    numbered-more c.args.table.now c.loop-atom.table c.put.new.self c.loop-atom.numbers c.push.new.self c.args.atoms.now c.loop-atom.atom-index c.in_ok-put.field-0
    c.atom-item.result c.loop-atom-test.true c.atom-item.is c.loop-atom.invariant.grown c.loop-atom.invariant.numbers c.in_ok-put.ensures.atoms
    c.in_ok-put.ensures.number c.in_ok-push.ensures.ok in
    record { grown = p.0; numbers = p.1 }
