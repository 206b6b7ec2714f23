use Rattle.scasp_graph.proofs.KeptLemmas.{holds-keeps, keeps-holds}
use Rattle.scasp_graph.proofs.laws.map_holds_by_literals.Goals as goal

pub returns : goal.returns
returns c = λ p covered map. (holds-keeps p covered map, keeps-holds p covered map)
