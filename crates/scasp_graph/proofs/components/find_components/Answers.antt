use Rattle.std.proofs.Common.{arith}
use Rattle.scasp_graph.proofs.ComponentLemmas.{known-all}
use Rattle.scasp_graph.proofs.components.find_components.Goals as goal

pub returns : goal.returns
returns c =
    let all = c.loop-start-test.false in
    known-all c.args.ahead.now.size c.args.ahead.now.edges.items c.loop-start.known.members.items c.loop-start.known.free.items c.loop-start.known.left
    c.requires.ahead.ends c.loop-start.invariant.known.known (λ u b. c.loop-start.invariant.found u (omega (arith, all, b)))
