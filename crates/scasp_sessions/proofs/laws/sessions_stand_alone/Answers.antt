use Rattle.scasp_sessions.proofs.AloneLemmas.{stands-alone}
use Rattle.scasp_sessions.proofs.laws.sessions_stand_alone.Goals as goal

pub returns : goal.returns
returns c = stands-alone
