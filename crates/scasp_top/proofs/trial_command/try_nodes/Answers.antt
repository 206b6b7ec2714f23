use Rattle.scasp_top.proofs.CommandLemmas.{goes-on-trial}
use Rattle.scasp_top.proofs.trial_command.try_nodes.Goals as goal

pub returns : goal.returns
returns g c = λ o. goes-on-trial c.args.n o c.trial_halt.result _ _ _ _ _ c.trial_halt.ensures c.tell.ensures
