use Rattle.scasp_law_first_event.proofs.Following.{circle-replaced}
use Rattle.scasp_law_first_event.proofs.laws.circles_are_replacements.Goals as goal

pub returns : goal.returns
returns c = λ p q s fits f circle. circle-replaced p q fits s f circle
