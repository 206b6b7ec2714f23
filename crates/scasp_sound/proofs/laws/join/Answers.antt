use Rattle.scasp_sound.proofs.JoinLemmas.{joined}
use Rattle.scasp_sound.proofs.laws.join.Goals as goal

pub returns : goal.returns
returns c = joined
