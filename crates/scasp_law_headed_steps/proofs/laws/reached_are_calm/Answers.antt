use Rattle.scasp_law_headed_steps.proofs.Reaching.{calm}
use Rattle.scasp_law_headed_steps.proofs.laws.reached_are_calm.Goals as goal

pub returns : goal.returns
returns c = λ p q s h f. calm p q h s f
