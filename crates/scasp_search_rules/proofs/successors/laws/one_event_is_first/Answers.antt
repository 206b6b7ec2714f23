use Rattle.scasp_search_rules.proofs.SuccessorsLemmas.Walks.{finds-one}
use Rattle.scasp_search_rules.proofs.successors.laws.one_event_is_first.Goals as goal

pub returns : goal.returns
returns c = λ m budget calls states one other h g. finds-one m budget calls states one other h g
