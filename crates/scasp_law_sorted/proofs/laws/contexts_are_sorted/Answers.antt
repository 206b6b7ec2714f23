use Rattle.scasp_law_sorted.proofs.Replacing.{contexts-sorted}
use Rattle.scasp_law_sorted.proofs.laws.contexts_are_sorted.Goals as goal

pub returns : goal.returns
returns c = λ p q s fits same f. contexts-sorted p q fits same s f
