use Rattle.scasp_law_sorted.proofs.Reaching.{comes-plainly}
use Rattle.scasp_law_sorted.proofs.laws.positives_come_plainly.Goals as goal

pub returns : goal.returns
returns c = λ p q s fits positive same f. comes-plainly p q fits same positive s f
