use Rattle.scasp_command_run.proofs.AgreeLemmas.{agree}
use Rattle.scasp_command_run.proofs.laws.runs_agree.Goals as goal

pub returns : goal.returns
returns c = agree
