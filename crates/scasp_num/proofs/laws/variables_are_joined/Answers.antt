use Rattle.scasp_num.proofs.Kept.{join_of-IsNormal, join_of-op}
use Rattle.scasp_num.proofs.Valuations.{join_of-holds}
use Rattle.scasp_num.proofs.laws.variables_are_joined.Goals as goal

pub returns-clause-normal : goal.returns-clause-normal
returns-clause-normal c = join_of-IsNormal

pub returns-clause-op : goal.returns-clause-op
returns-clause-op c = join_of-op

pub returns-clause-holds : goal.returns-clause-holds
returns-clause-holds c = λ r row x y n e. join_of-holds r row x y n.ascending e
