use Rattle.scasp_law_promise.proofs.RightLemmas.{right-good}
use Rattle.scasp_law_promise.proofs.laws.right_is_good_with_existence.Goals as goal

pub returns : goal.returns
returns c = right-good
