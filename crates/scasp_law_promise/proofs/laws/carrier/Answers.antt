use Rattle.scasp_law_promise.proofs.CarrierLemmas.{carrier}
use Rattle.scasp_law_promise.proofs.laws.carrier.Goals as goal

pub returns : goal.returns
returns c = carrier
