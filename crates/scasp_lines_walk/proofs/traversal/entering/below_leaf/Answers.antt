use Rattle.scasp_lines_walk.proofs.traversal.entering.below_leaf.Goals as goal

pub returns : goal.returns
returns c =
    let dues = c.in_ok-dues.ensures c.args.bare in
    let below = c.in_ok-below.ensures in
    rw (below, dues) at c.put_nodes.ensures
