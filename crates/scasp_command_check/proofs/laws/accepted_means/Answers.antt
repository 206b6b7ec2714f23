use Rattle.scasp_command_check.proofs.MeaningLemmas.{means_accepted}
use Rattle.scasp_command_check.proofs.laws.accepted_means.Goals as goal

pub returns : goal.returns
returns c = means_accepted
