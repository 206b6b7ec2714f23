use Rattle.scasp_law_sorted.proofs.RowlessReaching.{rowless-asked}
use Rattle.scasp_law_sorted.proofs.laws.rowless_ask_sorted.Goals as goal

pub returns : goal.returns
returns c = λ p q s queried rowless f. rowless-asked p q rowless s queried f
