use Rattle.scasp_law_promise.proofs.GoodLemmas.{accepted-good}
use Rattle.scasp_law_promise.proofs.laws.accepted_is_good.Goals as goal

pub returns : goal.returns
returns c = accepted-good
