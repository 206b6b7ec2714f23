use Rattle.std.proofs.Common.{sym, subst}
use Rattle.scasp_graph.specs.Inside.Graphs.{EndsBelow}
use Rattle.scasp_graph.proofs.AnalysisLemmas.{turned-below}
use Rattle.scasp_graph.proofs.analysis.graph_behind.Goals as goal

pub new-requires : goal.new-requires
new-requires c = subst (EndsBelow c.args.size) (sym c.in_ok-turned.ensures) (turned-below c.args.size c.args.edges.now c.requires)
