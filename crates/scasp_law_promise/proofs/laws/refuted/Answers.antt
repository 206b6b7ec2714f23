use Rattle.scasp_law_promise.proofs.RefutedLemmas.{refuted}
use Rattle.scasp_law_promise.proofs.laws.refuted.Goals as goal

pub returns : goal.returns
returns c = refuted
