use Rattle.scasp_num.proofs.NormalTests.{normal-decided}
use Rattle.scasp_num.proofs.laws.normal_form_is_decided.Goals as goal

pub returns : goal.returns
returns c = normal-decided
