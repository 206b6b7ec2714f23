use Rattle.scasp_project.proofs.BackLaw.{means}
use Rattle.scasp_project.proofs.laws.projections_mean.Goals as goal

pub returns : goal.returns
returns c = means
