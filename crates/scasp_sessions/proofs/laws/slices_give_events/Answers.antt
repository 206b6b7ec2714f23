use Rattle.scasp_sessions.proofs.EventLemmas.{events-come}
use Rattle.scasp_sessions.proofs.laws.slices_give_events.Goals as goal

pub returns : goal.returns
returns c = events-come
