use Rattle.scasp_sound.proofs.FoundedLemmas.{founded-by_rank, founded-by_pair}
use Rattle.scasp_sound.proofs.laws.ranks.Goals as goal

pub returns-clause-one : goal.returns-clause-one
returns-clause-one c = founded-by_rank

pub returns-clause-pair : goal.returns-clause-pair
returns-clause-pair c = founded-by_pair
