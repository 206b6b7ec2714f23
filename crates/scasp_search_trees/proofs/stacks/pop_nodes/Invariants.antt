use Rattle.std.proofs.Common.{◌≡◌, ◌++◌, drop, take}
use Rattle.scasp_cert.specs.View.{trees_of}
use Rattle.scasp_search_trees.specs.Stacked.{nodes_in}
use Rattle.scasp_search_trees.proofs.stacks.pop_nodes.Given as goal

abbrev pub invariant-loop-more : goal.invariant-loop-more
invariant-loop-more l =
    (trees_of l.made ++ take l.more (nodes_in l.stack.items) ≡ take l.count (nodes_in l.fn.stack.items))
    × (drop l.more (nodes_in l.stack.items) ≡ drop l.count (nodes_in l.fn.stack.items))

abbrev pub decreases-loop-more : goal.decreases-loop-more
decreases-loop-more l = l.more
