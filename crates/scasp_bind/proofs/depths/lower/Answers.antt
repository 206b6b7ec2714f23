use Rattle.std.proofs.Common.{arith}
use Rattle.scasp_bind.proofs.DepthLemmas.{depth_goes_on, low_already}
use Rattle.scasp_bind.proofs.depths.lower.Goals as goal

pub returns-in_ok-set_depth-clause-goes_on : goal.returns-in_ok-set_depth-clause-goes_on
returns-in_ok-set_depth-clause-goes_on c =
    depth_goes_on c.args.store.now c.set_depth.new.self c.args.x c.args.depth c.in_ok-set_depth.ensures.changed c.in_ok-set_depth.ensures.variables

pub returns-else-depth-get-clause-lowered : goal.returns-else-depth-get-clause-lowered
returns-else-depth-get-clause-lowered c =
    low_already c.args.store.now.variables c.args.x c.args.depth c.get.result.now c.get.ensures (omega (arith, c.if-depth-get.false))
