use Rattle.scasp_model.proofs.StableLemmas.{stable_is_least, least_is_stable}
use Rattle.scasp_model.proofs.laws.stable_without_not_is_least.Goals as goal

pub returns-clause-least : goal.returns-clause-least
returns-clause-least c = stable_is_least

pub returns-clause-stable : goal.returns-clause-stable
returns-clause-stable c = least_is_stable
