use Rattle.scasp_law_parts.proofs.ReadLemmas.{list-met}
use Rattle.scasp_law_parts.proofs.laws.readings_are_met_alike.Goals as goal

pub returns : goal.returns
returns c = list-met
