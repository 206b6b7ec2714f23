use Rattle.scasp_law_headed_steps.proofs.Reaching.{shown-there}
use Rattle.scasp_law_headed_steps.proofs.laws.tests_are_shown.Goals as goal

pub returns : goal.returns
returns c = λ p q s h f e. shown-there p q h s f e
