use Rattle.scasp_law_promise.proofs.PromiseLemmas.{keeps-promise}
use Rattle.scasp_law_promise.proofs.laws.accepted_keeps_its_promise.Goals as goal

pub returns : goal.returns
returns c = keeps-promise
