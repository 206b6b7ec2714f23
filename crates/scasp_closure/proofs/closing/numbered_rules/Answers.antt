use Rattle.scasp_closure.proofs.ReadingLemmas.{rules-more}
use Rattle.scasp_closure.proofs.closing.numbered_rules.Goals as goal

pub loop-rule-preserved : goal.loop-rule-preserved
loop-rule-preserved c =
    rules-more c.loop-rule.table c.numbered_rule.new.table c.loop-rule.numbered c.push.new.self c.as_slice-rule-items.result.now c.loop-rule.rule-index
    c.in_ok-numbered_rule.field-0 c.rule-item.result c.loop-rule-test.true c.rule-item.is c.loop-rule.invariant c.in_ok-numbered_rule.ensures.grown
    c.in_ok-numbered_rule.ensures.head c.in_ok-numbered_rule.ensures.body c.in_ok-push.ensures.ok
