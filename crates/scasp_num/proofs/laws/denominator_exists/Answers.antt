use Rattle.scasp_num.proofs.Valuations.{denominator-exists}
use Rattle.scasp_num.proofs.laws.denominator_exists.Goals as goal

pub returns : goal.returns
returns c = denominator-exists
