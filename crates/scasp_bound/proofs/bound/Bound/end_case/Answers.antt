use Rattle.std.proofs.Common.{arith}
use Rattle.scasp_bound.proofs.OutLemmas.{ended}
use Rattle.scasp_bound.proofs.bound.Bound.end_case.Goals as goal

pub returns-clause-now : goal.returns-clause-now
returns-clause-now c = ended c.loop-at.at c.args.universals.now c.args.but.now c.args.self.now.now c.loop-at.self.now (omega (arith, c.loop-at-test.false)) c.loop-at.invariant.now
