use Rattle.scasp_law_parts.proofs.PartLemmas.{part-decides}
use Rattle.scasp_law_parts.proofs.laws.parts_decide.Goals as goal

pub returns : goal.returns
returns c = part-decides
