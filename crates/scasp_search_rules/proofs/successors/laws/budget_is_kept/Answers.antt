use Rattle.scasp_search_rules.proofs.SuccessorsLemmas.Walks.{finds-within}
use Rattle.scasp_search_rules.proofs.successors.laws.budget_is_kept.Goals as goal

pub returns : goal.returns
returns c = λ m budget calls states found p f. finds-within m budget calls states found p f
