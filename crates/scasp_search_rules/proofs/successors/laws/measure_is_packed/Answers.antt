use Rattle.scasp_search_rules.proofs.SuccessorsLemmas.FallLemmas.{more_is_less, lighter_is_less}
use Rattle.scasp_search_rules.proofs.successors.laws.measure_is_packed.Goals as goal

pub returns-clause-more : goal.returns-clause-more
returns-clause-more c = more_is_less

pub returns-clause-lighter : goal.returns-clause-lighter
returns-clause-lighter c = lighter_is_less
