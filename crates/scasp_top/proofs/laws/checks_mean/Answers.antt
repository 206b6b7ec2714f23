use Rattle.scasp_top.proofs.AgreeLemmas.{mean}
use Rattle.scasp_top.proofs.laws.checks_mean.Goals as goal

pub returns : goal.returns
returns c = mean
