use Rattle.scasp_law_rows.proofs.Multiples.{multiples-same}
use Rattle.scasp_law_rows.proofs.laws.multiples_are_one.Goals as goal

pub returns : goal.returns
returns c = multiples-same
