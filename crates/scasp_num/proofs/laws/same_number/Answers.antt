use Rattle.scasp_num.proofs.SameNumber.{same_number}
use Rattle.scasp_num.proofs.laws.same_number.Goals as goal

pub returns : goal.returns
returns c = same_number
