use Rattle.scasp_graph.proofs.CheckedLemmas.{analysed-holds}
use Rattle.scasp_graph.proofs.laws.analysed_map_holds.Goals as goal

pub returns : goal.returns
returns c = analysed-holds
