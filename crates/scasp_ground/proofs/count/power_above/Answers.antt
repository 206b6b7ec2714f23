use Rattle.scasp_ground.proofs.CountLemmas.{past-limit}
use Rattle.scasp_ground.proofs.count.power_above.Goals as goal

pub returns-then-count-members-clause-none : goal.returns-then-count-members-clause-none
returns-then-count-members-clause-none c =
    past-limit c.args.members c.loop-variable._variable c.args.variables c.loop-variable.count c.requires c.loop-variable-test.true c.loop-variable.invariant.power
    c.if-count-members.true
