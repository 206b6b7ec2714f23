use Rattle.scasp_sound.proofs.FoundedLemmas.{founded-in_stable}
use Rattle.scasp_sound.proofs.SupportLemmas.{stable-supported}
use Rattle.scasp_sound.proofs.laws.support.Goals as goal

pub returns-clause-sound : goal.returns-clause-sound
returns-clause-sound c = founded-in_stable

pub returns-clause-complete : goal.returns-clause-complete
returns-clause-complete c = stable-supported
