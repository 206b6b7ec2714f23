use Rattle.scasp_law_sorted.proofs.Replacing.{lines-there}
use Rattle.scasp_law_sorted.proofs.laws.given_lines_are_sorted.Goals as goal

pub returns : goal.returns
returns c = λ p q s fits same f e. lines-there p q fits same s f e
