use Rattle.scasp_graph.proofs.WalkLemmas.{joined}
use Rattle.scasp_graph.proofs.laws.walks_join.Goals as goal

pub returns : goal.returns
returns c = λ p q r s b d v w. joined v s d w
