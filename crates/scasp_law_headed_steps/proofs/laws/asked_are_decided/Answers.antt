use Rattle.scasp_law_headed_steps.proofs.Reaching.{decided}
use Rattle.scasp_law_headed_steps.proofs.laws.asked_are_decided.Goals as goal

pub returns : goal.returns
returns c = λ p q s h f. decided p q h s f
