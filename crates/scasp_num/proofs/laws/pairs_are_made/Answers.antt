use Rattle.scasp_num.proofs.Kept.{normal_of-IsNormal, normal_of-op}
use Rattle.scasp_num.proofs.PairSums.{normal_of-holds}
use Rattle.scasp_num.proofs.laws.pairs_are_made.Goals as goal

pub returns-clause-normal : goal.returns-clause-normal
returns-clause-normal c = normal_of-IsNormal

pub returns-clause-op : goal.returns-clause-op
returns-clause-op c = normal_of-op

pub returns-clause-holds : goal.returns-clause-holds
returns-clause-holds c = normal_of-holds
