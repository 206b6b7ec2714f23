use Rattle.std.proofs.Common.{arith}
use Rattle.scasp_worklist.proofs.WorklistLemmas.{waits}
use Rattle.scasp_worklist.proofs.worklist.Closing.wait.Goals as goal

pub returns-in_ok-push : goal.returns-in_ok-push
returns-in_ok-push c =
    waits c.args.self.now c.replace_at-rules.new.items.items c.replace_at.new.items.items c.args.number c.replace_at-rules.result c.push.new.self c.new.result
    (record { head = c.args.head; rest = c.args.rest }) (omega (arith, c.if-number-len.true, c.len.ensures)) c.replace_at-rules.ensures.old
    c.replace_at-rules.ensures.items c.in_ok-push.ensures.ok c.replace_at.ensures.items
