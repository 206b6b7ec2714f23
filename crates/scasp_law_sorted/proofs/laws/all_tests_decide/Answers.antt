use Rattle.scasp_law_sorted.proofs.Replacing.{all-decided}
use Rattle.scasp_law_sorted.proofs.laws.all_tests_decide.Goals as goal

pub returns : goal.returns
returns c = λ p q s fits same f. all-decided p q fits same s f
