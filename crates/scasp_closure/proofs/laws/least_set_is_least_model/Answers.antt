use Rattle.scasp_closure.proofs.ReadingLemmas.{least-read}
use Rattle.scasp_closure.proofs.laws.least_set_is_least_model.Goals as goal

pub returns : goal.returns
returns c = least-read
