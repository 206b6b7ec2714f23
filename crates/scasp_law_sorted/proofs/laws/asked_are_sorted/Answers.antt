use Rattle.scasp_law_sorted.proofs.Reaching.{asked-sorted}
use Rattle.scasp_law_sorted.proofs.laws.asked_are_sorted.Goals as goal

pub returns : goal.returns
returns c = λ p q s fits same f e. asked-sorted p q fits same s f e
