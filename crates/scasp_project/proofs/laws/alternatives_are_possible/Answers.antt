use Rattle.scasp_project.proofs.PossibleLaw.{possible}
use Rattle.scasp_project.proofs.laws.alternatives_are_possible.Goals as goal

pub returns : goal.returns
returns c = possible
