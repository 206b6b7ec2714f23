use Rattle.scasp_command_trial.proofs.TrialLemmas.{tries-none}
use Rattle.scasp_command_trial.proofs.first.try_first.Goals as goal

pub returns-in-None : goal.returns-in-None
returns-in-None c = tries-none c.args.program.now c.args.budget c.args.fresh (rw c.in-None.is at c.query.ensures)
