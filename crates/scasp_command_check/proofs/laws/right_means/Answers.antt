use Rattle.scasp_command_check.proofs.MeaningLemmas.{means_right}
use Rattle.scasp_command_check.proofs.laws.right_means.Goals as goal

pub returns : goal.returns
returns c = means_right
