use Rattle.scasp_law_parts.proofs.PartLemmas.{met-apart}
use Rattle.scasp_law_parts.proofs.laws.parts_are_met_apart.Goals as goal

pub returns : goal.returns
returns c = met-apart
