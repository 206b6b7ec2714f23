use Rattle.scasp_top.proofs.AgreeLemmas.{agree}
use Rattle.scasp_top.proofs.laws.checks_agree.Goals as goal

pub returns : goal.returns
returns c = agree
