use Rattle.scasp_law_sorted.proofs.Reaching.{settled}
use Rattle.scasp_law_sorted.proofs.laws.given_are_sorted.Goals as goal

pub returns : goal.returns
returns c = λ p q s fits same f. (settled p q fits same s f).sorted
