use Rattle.scasp_law_no_circle.proofs.Reaching.{solved-there}
use Rattle.scasp_law_no_circle.proofs.laws.no_circle_is_reached.Goals as goal

pub returns : goal.returns
returns c = λ p q s fits f. solved-there p q fits s f
