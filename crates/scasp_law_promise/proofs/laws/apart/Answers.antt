use Rattle.scasp_law_promise.proofs.DisjointLemmas.{apart-said}
use Rattle.scasp_law_promise.proofs.laws.apart.Goals as goal

pub returns : goal.returns
returns c = apart-said
