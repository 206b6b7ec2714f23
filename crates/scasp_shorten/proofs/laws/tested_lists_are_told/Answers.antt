use Rattle.scasp_shorten.proofs.TestedLemmas.{tested-told}
use Rattle.scasp_shorten.proofs.laws.tested_lists_are_told.Goals as goal

pub returns : goal.returns
returns c = tested-told
