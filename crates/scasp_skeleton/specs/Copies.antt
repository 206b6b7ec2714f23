-- What stands on a line, put over what stands below it with another hint.
use Rattle.std.specs.Prelude.{drop, length, take}
use Rattle.scasp_search_trees.specs.Stacked.{without_covers}
use Rattle.scasp_cert.specs.Trees.{Tree, Branch, pos_tree, neg_tree, loop_tree, seen_tree, test_tree, split, void, leaf, head, listed, covering}
use Rattle.scasp_lines.specs.Below.{count, rule_numbers}
use Rattle.scasp_search_rules.specs.Successors.Trees.{Built, first_case, with_case, with_node, without_nodes}
use Rattle.scasp_syntax.specs.declared.hint.Hint.{Hint}

abbrev pub put_tree : Tree → Hint → Built → Built
put_tree (pos_tree a k ts children) h b = with_node (pos_tree a k ts (listed (take (count children) b.nodes))) (count children) b
put_tree (neg_tree a covers) h b =
    let n = length (rule_numbers covers) in with_node (neg_tree a (covering (take n b.covers))) 0 (without_covers n b)
put_tree (loop_tree lit to) h b = with_node (loop_tree lit to) 0 b
put_tree (seen_tree lit to) h b = with_node (seen_tree lit to) 0 b
put_tree (test_tree c shown) h b = with_node (test_tree c h) 0 b

abbrev pub put_branch : Branch → Hint → Built → Built
put_branch (split c first second) h b = with_case (split c (first_case b.cases) (first_case (drop 1 b.cases))) 2 b
put_branch (void shown) h b = with_case (void h) 0 b
put_branch (leaf k children) h b = with_case (leaf k (listed (take (count children) b.nodes))) 0 (without_nodes (count children) b)
put_branch (head children) h b = with_case (head (listed (take (count children) b.nodes))) 0 (without_nodes (count children) b)
