use Rattle.scasp_graph.proofs.MapLemmas.{empty_map_holds}
use Rattle.scasp_graph.proofs.laws.empty_map_holds_for_positive_rules.Goals as goal

pub returns : goal.returns
returns c = empty_map_holds
