use Rattle.scasp_num.proofs.Kept.{put_of-IsNormal, put_of-op}
use Rattle.scasp_num.proofs.Valuations.{put_of-holds}
use Rattle.scasp_num.proofs.laws.numbers_are_put.Goals as goal

pub returns-clause-normal : goal.returns-clause-normal
returns-clause-normal c = put_of-IsNormal

pub returns-clause-op : goal.returns-clause-op
returns-clause-op c = put_of-op

pub returns-clause-holds : goal.returns-clause-holds
returns-clause-holds c = λ r row x q n e. put_of-holds r row x q n.ascending e
