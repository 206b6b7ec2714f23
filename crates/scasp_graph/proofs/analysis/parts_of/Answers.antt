use Rattle.std.proofs.Common.{subst}
use Rattle.scasp_graph.specs.Inside.Components.{AreComponents}
use Rattle.scasp_graph.proofs.analysis.parts_of.Goals as goal

pub returns-clause-components : goal.returns-clause-components
returns-clause-components c =
    subst (λ n. AreComponents n c.args.edges.items c.in_ok-members.members.items) c.in_ok-ahead.ensures.size
    (subst (λ es. AreComponents c.in_ok-ahead.ahead.size es c.in_ok-members.members.items) c.in_ok-ahead.ensures.edges c.in_ok-members.ensures)
