use Rattle.scasp_sessions.proofs.RoomLemmas.{few}
use Rattle.scasp_sessions.proofs.laws.at_most_64_are_open.Goals as goal

pub returns : goal.returns
returns c = few
