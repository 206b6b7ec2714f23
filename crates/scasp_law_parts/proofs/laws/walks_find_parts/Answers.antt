use Rattle.scasp_law_parts.proofs.WalkLemmas.{walk-parts}
use Rattle.scasp_law_parts.proofs.laws.walks_find_parts.Goals as goal

pub returns : goal.returns
returns c = walk-parts
