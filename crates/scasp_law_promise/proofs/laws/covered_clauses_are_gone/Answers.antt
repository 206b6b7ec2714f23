use Rattle.scasp_law_promise.proofs.CheckLemmas.{covered-gone}
use Rattle.scasp_law_promise.proofs.laws.covered_clauses_are_gone.Goals as goal

pub returns : goal.returns
returns c = covered-gone
