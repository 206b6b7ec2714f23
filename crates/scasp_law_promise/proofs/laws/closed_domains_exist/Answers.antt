use Rattle.scasp_law_promise.proofs.ClosedLemmas.{closed-above}
use Rattle.scasp_law_promise.proofs.laws.closed_domains_exist.Goals as goal

pub returns : goal.returns
returns c = closed-above
