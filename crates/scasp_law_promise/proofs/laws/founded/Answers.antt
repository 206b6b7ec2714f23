use Rattle.scasp_law_promise.proofs.FoundedLemmas.{founded}
use Rattle.scasp_law_promise.proofs.laws.founded.Goals as goal

pub returns : goal.returns
returns c = founded
