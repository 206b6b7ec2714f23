use Rattle.std.proofs.Common.{arith}
use Rattle.scasp_ground.proofs.CountLemmas.{power-at_zero, power-of_zero}
use Rattle.scasp_ground.proofs.count.power_of_none.Goals as goal

pub returns-in-0-clause-power : goal.returns-in-0-clause-power
returns-in-0-clause-power c = power-at_zero c.args.variables c.in-0.is

pub returns-in_default-clause-power : goal.returns-in_default-clause-power
returns-in_default-clause-power c = let no = c.in_default in power-of_zero c.args.variables (omega arith)
