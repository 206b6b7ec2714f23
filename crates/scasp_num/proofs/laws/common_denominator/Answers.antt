use Rattle.scasp_num.proofs.Valuations.{Holds-Meets}
use Rattle.scasp_num.proofs.laws.common_denominator.Goals as goal

pub returns : goal.returns
returns c = Holds-Meets
