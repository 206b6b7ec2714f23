use Rattle.scasp_law_promise.proofs.QueryLemmas.{query-holds}
use Rattle.scasp_law_promise.proofs.laws.query.Goals as goal

pub returns : goal.returns
returns c = query-holds
