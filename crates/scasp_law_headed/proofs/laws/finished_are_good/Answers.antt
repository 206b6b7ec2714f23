use Rattle.scasp_law_headed.proofs.Ending.{finished-good}
use Rattle.scasp_law_headed.proofs.laws.finished_are_good.Goals as goal

pub returns : goal.returns
returns c = finished-good
