use Rattle.scasp_law_sessions.proofs.SearchLemmas.{are-searches}
use Rattle.scasp_law_sessions.proofs.laws.sessions_are_searches.Goals as goal

pub returns : goal.returns
returns c = are-searches
