use Rattle.std.proofs.Common.{◌+◌, ◌≤◌, max, vec_len}
use Rattle.scasp_cert.specs.Freeing.{depth_covered, depth_within, lines_of_cases, lines_within}
use Rattle.scasp_cert.specs.Lines.{lines_below, lines_in}
use Rattle.scasp_cert.specs.Trees.{covering, listed}
use Rattle.scasp_cert.specs.View.{covers_of, trees_of}
use Rattle.scasp_cert.specs.declared.tree.Case.{size-Case}
use Rattle.scasp_cert.specs.declared.tree.Covers.{size-Covers}
use Rattle.scasp_cert.specs.declared.tree.Nodes.{size-Nodes}
use Rattle.scasp_cert.proofs.+tree.Given as goal

abbrev pub invariant-tree::Nodes::drop-loop-node : goal.invariant-tree::Nodes::drop-loop-node
invariant-tree::Nodes::drop-loop-node l = max (depth_within l.nodes.items) (depth_covered l.covers.items) ≤ size-Nodes l.fn.self

abbrev pub decreases-tree::Nodes::drop-loop-node : goal.decreases-tree::Nodes::drop-loop-node
decreases-tree::Nodes::drop-loop-node l = lines_within l.nodes.items + lines_of_cases l.covers.items

abbrev pub invariant-tree::Case::drop-loop-cover : goal.invariant-tree::Case::drop-loop-cover
invariant-tree::Case::drop-loop-cover l = depth_covered l.covers.items ≤ size-Case l.fn.self

abbrev pub decreases-tree::Case::drop-loop-cover : goal.decreases-tree::Case::drop-loop-cover
decreases-tree::Case::drop-loop-cover l = lines_of_cases l.covers.items

abbrev pub invariant-tree::put_nodes-loop-node : goal.invariant-tree::put_nodes-loop-node
invariant-tree::put_nodes-loop-node l = record {
  lines : lines_within l.rest.items + lines_within l.list.items ≤ lines_below (listed (trees_of l.fn.nodes)) + lines_within l.fn.others.items;
  left : depth_within l.list.items ≤ size-Nodes l.fn.nodes;
  depth : depth_within l.rest.items ≤ max (size-Nodes l.fn.nodes) (depth_within l.fn.others.items);
}

abbrev pub decreases-tree::put_nodes-loop-node : goal.decreases-tree::put_nodes-loop-node
decreases-tree::put_nodes-loop-node l = vec_len l.list

abbrev pub invariant-tree::put_covers-loop-cover : goal.invariant-tree::put_covers-loop-cover
invariant-tree::put_covers-loop-cover l = record {
  lines : lines_of_cases l.rest.items + lines_of_cases l.list.items ≤ lines_in (covering (covers_of l.fn.covers)) + lines_of_cases l.fn.others.items;
  left : depth_covered l.list.items ≤ size-Covers l.fn.covers;
  depth : depth_covered l.rest.items ≤ max (size-Covers l.fn.covers) (depth_covered l.fn.others.items);
}

abbrev pub decreases-tree::put_covers-loop-cover : goal.decreases-tree::put_covers-loop-cover
decreases-tree::put_covers-loop-cover l = vec_len l.list
