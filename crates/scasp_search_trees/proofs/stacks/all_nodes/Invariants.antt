use Rattle.std.proofs.Common.{◌≡◌, ◌++◌, vec_len}
use Rattle.scasp_cert.specs.View.{trees_of}
use Rattle.scasp_search_trees.specs.Stacked.{nodes_in}
use Rattle.scasp_search_trees.proofs.stacks.all_nodes.Given as goal

abbrev pub invariant-loop-node : goal.invariant-loop-node
invariant-loop-node l = trees_of l.made ++ nodes_in l.stack.items ≡ nodes_in l.fn.stack.items

abbrev pub decreases-loop-node : goal.decreases-loop-node
decreases-loop-node l = vec_len l.stack
