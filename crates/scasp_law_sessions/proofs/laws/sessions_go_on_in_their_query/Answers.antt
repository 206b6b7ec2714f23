use Rattle.std.specs.Prelude.{length}
use Rattle.scasp_law_sessions.proofs.SearchLemmas.{are-searches, of-query}
use Rattle.scasp_law_sessions.proofs.laws.sessions_go_on_in_their_query.Goals as goal

pub returns : goal.returns
returns c = λ p names s id calls coming t stands goes. of-query p (length names) s.table id calls coming t (are-searches p names s stands) goes
