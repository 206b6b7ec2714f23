use Rattle.scasp_num.proofs.Comparing.{holds-decided}
use Rattle.scasp_num.proofs.laws.rows_are_decided.Goals as goal

pub returns : goal.returns
returns c = holds-decided
