use Rattle.scasp_law_sorted.proofs.RowlessReaching.{rowless-given}
use Rattle.scasp_law_sorted.proofs.laws.rowless_give_sorted.Goals as goal

pub returns : goal.returns
returns c = rowless-given
