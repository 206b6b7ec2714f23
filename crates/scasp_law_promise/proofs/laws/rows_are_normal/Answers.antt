use Rattle.scasp_law_promise.proofs.OwnRowLemmas.{rows-normal}
use Rattle.scasp_law_promise.proofs.laws.rows_are_normal.Goals as goal

pub returns : goal.returns
returns c = rows-normal
