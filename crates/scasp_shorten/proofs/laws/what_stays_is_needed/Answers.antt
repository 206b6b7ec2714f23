use Rattle.scasp_shorten.proofs.NeededLemmas.{stays-needed}
use Rattle.scasp_shorten.proofs.laws.what_stays_is_needed.Goals as goal

pub returns : goal.returns
returns c = stays-needed
