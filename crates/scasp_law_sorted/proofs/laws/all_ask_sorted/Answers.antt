use Rattle.scasp_law_sorted.proofs.Replacing.{all-sorted}
use Rattle.scasp_law_sorted.proofs.laws.all_ask_sorted.Goals as goal

pub returns : goal.returns
returns c = λ p q s fits same f. all-sorted p q fits same s f
