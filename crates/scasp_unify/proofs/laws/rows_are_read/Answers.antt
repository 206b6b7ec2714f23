use Rattle.scasp_unify.proofs.ResolvedRowLemmas.{resolved}
use Rattle.scasp_unify.proofs.PointLemmas.{bridge, negation-is, point-through}
use Rattle.scasp_unify.proofs.laws.rows_are_read.Goals as goal

pub returns-clause-bridge : goal.returns-clause-bridge
returns-clause-bridge c = bridge

pub returns-clause-negation : goal.returns-clause-negation
returns-clause-negation c = negation-is

pub returns-clause-read : goal.returns-clause-read
returns-clause-read c = point-through

pub returns-clause-resolved : goal.returns-clause-resolved
returns-clause-resolved c = resolved
