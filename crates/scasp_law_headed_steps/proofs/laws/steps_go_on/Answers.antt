use Rattle.scasp_law_headed_steps.proofs.Reaching.{goes-on}
use Rattle.scasp_law_headed_steps.proofs.laws.steps_go_on.Goals as goal

pub returns : goal.returns
returns c = λ p q s t h f i. goes-on p q h s t f i
