use Rattle.scasp_worklist.proofs.WorklistLemmas.{woken-begins}
use Rattle.scasp_worklist.proofs.worklist.Closing.wake.Goals as goal

pub loop-rule-init : goal.loop-rule-init
loop-rule-init c =
    woken-begins c.args.self.now c.replace_at-rules.new.items.items c.args.number c.replace_at-rules.result _ c.new.result c.replace_at-rules.ensures.old c.new.ensures
    c.replace_at-rules.ensures.items c.as_slice-rule-items.ensures
