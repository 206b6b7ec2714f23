use Rattle.scasp_law_sorted.proofs.Reaching.{asked-decided}
use Rattle.scasp_law_sorted.proofs.laws.tests_decide.Goals as goal

pub returns : goal.returns
returns c = λ p q s fits same f e. asked-decided p q fits same s f e
