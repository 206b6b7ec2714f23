use Rattle.scasp_unify.proofs.PartLemmas.{less_apart}
use Rattle.scasp_search_ends.proofs.finished.universals.push_met.Goals as goal

pub returns-in_ok-enter-in-App-App-2-clause-less : goal.returns-in_ok-enter-in-App-App-2-clause-less
returns-in_ok-enter-in-App-App-2-clause-less c = less_apart _ _ _ _ _ c.in-App-App.is-0 c.in_ok-enter-in-App-App.ensures
