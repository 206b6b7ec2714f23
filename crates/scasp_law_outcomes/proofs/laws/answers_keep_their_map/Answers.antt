use Rattle.scasp_law_outcomes.proofs.Walking.{answers-keep-map}
use Rattle.scasp_law_outcomes.proofs.laws.answers_keep_their_map.Goals as goal

pub returns : goal.returns
returns c = answers-keep-map
