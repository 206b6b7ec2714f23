use Rattle.std.proofs.Common.{◌<◌, length, get_or, refl, arith}
use Rattle.scasp_graph.proofs.ReachLemmas.{clearing-first, clearing-more, cleared}
use Rattle.scasp_graph.proofs.graph.clear.Goals as goal

pub loop-node-init : goal.loop-node-init
loop-node-init c = clearing-first (length c.args.marks.now.items) c.args.marks.now.items c.args.nodes.now refl c.requires.listed

pub loop-node-preserved : goal.loop-node-preserved
loop-node-preserved c =
    let within : get_or c.args.nodes.now c.loop-node.node-index 0 < length c.loop-node.marks.items =
    let b = c.requires.within.each c.loop-node.node-index c.loop-node-test.true in
    let s = c.loop-node.invariant.sized in
    omega (arith, b, s) in
    clearing-more (length c.args.marks.now.items) c.loop-node.marks.items c.args.nodes.now c.loop-node.node-index (get_or c.args.nodes.now c.loop-node.node-index 0) c.loop-node.invariant within refl

pub returns : goal.returns
returns c = cleared (length c.args.marks.now.items) c.loop-node.marks.items c.args.nodes.now c.loop-node.node-index c.loop-node.invariant c.loop-node-test.false
