use Rattle.scasp_law_no_circle.proofs.Reaching.{allowed-first}
use Rattle.scasp_law_no_circle.proofs.laws.allowed_overflows_come_first.Goals as goal

pub returns : goal.returns
returns c = allowed-first
