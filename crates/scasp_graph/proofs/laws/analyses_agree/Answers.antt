use Rattle.scasp_graph.proofs.UniqueLemmas.{odd-unique, maps-unique}
use Rattle.scasp_graph.proofs.laws.analyses_agree.Goals as goal

pub returns-clause-rules : goal.returns-clause-rules
returns-clause-rules c = odd-unique

pub returns-clause-maps : goal.returns-clause-maps
returns-clause-maps c = maps-unique
