use Rattle.std.proofs.Common.{◌≡◌, ◌<◌, arith, length}
use Rattle.scasp_model.proofs.LeastLemmas.{are_distinct-rounds, least_model-early}
use Rattle.scasp_model.proofs.least_model.least_of.Goals as goal

pub returns-then-len-clause-rounds : goal.returns-then-len-clause-rounds
returns-then-len-clause-rounds c =
    let below : c.loop-round._round < length c.args.rules.now = omega arith in
    let same : length c.in_ok-next.next ≡ length c.loop-round.atoms = omega arith in
    least_model-early c.args.rules.now c.loop-round._round c.loop-round.atoms c.in_ok-next.next below c.loop-round.invariant c.in_ok-next.ensures same

pub returns-then-len-clause-distinct : goal.returns-then-len-clause-distinct
returns-then-len-clause-distinct c =
    are_distinct-rounds c.args.rules.now (length c.args.rules.now) c.in_ok-next.next (returns-then-len-clause-rounds c)

pub returns-clause-distinct : goal.returns-clause-distinct
returns-clause-distinct c =
    are_distinct-rounds c.args.rules.now c.loop-round._round _ c.loop-round.invariant
