-- Which values the code's trees are.
use Rattle.std.specs.Prelude.{ℕ, List}
use Rattle.scasp_cert.specs.Trees.{Tree, Branch, pos_tree, neg_tree, loop_tree, seen_tree, test_tree, split, void, leaf, head, listed, covering}
use Rattle.scasp_cert.specs.declared.tree.Node.{Node}
use Rattle.scasp_cert.specs.declared.tree.Nodes.{Nodes}
use Rattle.scasp_cert.specs.declared.tree.Case.{Case}
use Rattle.scasp_cert.specs.declared.tree.Cover.{Cover}
use Rattle.scasp_cert.specs.declared.tree.Covers.{Covers}
use Rattle.scasp_cert.specs.declared.tree.Case.TheOpen.{Node-F, Nodes-F, Case-F, Cover-F, Covers-F}
use Rattle.scasp_cert.specs.declared.tree.Case.TheFolds.{fold-Node, fold-Nodes, fold-Case, fold-Cover, fold-Covers}

-- What the product's types say, one level at a time.
abbrev pub case_step : Case-F Branch Tree (ℕ × Branch) (List (ℕ × Branch)) (List Tree) → Branch
case_step (Case-F.Split con first second) = split con first.value second.value
case_step (Case-F.Void hint) = void hint
case_step (Case-F.Leaf item children) = leaf item (listed children)
case_step (Case-F.Head children) = head (listed children)

abbrev pub node_step : Node-F Branch Tree (ℕ × Branch) (List (ℕ × Branch)) (List Tree) → Tree
node_step (Node-F.Pos atom rule terms children) = pos_tree atom rule terms (listed children)
node_step (Node-F.Neg atom covers) = neg_tree atom (covering covers)
node_step (Node-F.Loop lit at) = loop_tree lit at
node_step (Node-F.Seen lit at) = seen_tree lit at
node_step (Node-F.Test con hint) = test_tree con hint

abbrev pub cover_step : Cover-F Branch Tree (ℕ × Branch) (List (ℕ × Branch)) (List Tree) → ℕ × Branch
cover_step c = (c.rule, c.case)

abbrev pub covers_step : Covers-F Branch Tree (ℕ × Branch) (List (ℕ × Branch)) (List Tree) → List (ℕ × Branch)
covers_step c = c.list.items

abbrev pub nodes_step : Nodes-F Branch Tree (ℕ × Branch) (List (ℕ × Branch)) (List Tree) → List Tree
nodes_step n = n.list.items

-- the tree that a node is
abbrev pub tree_of : Node → Tree
tree_of = fold-Node Branch Tree (ℕ × Branch) (List (ℕ × Branch)) (List Tree) case_step node_step cover_step covers_step nodes_step

-- the trees of a list of nodes
abbrev pub trees_of : Nodes → List Tree
trees_of = fold-Nodes Branch Tree (ℕ × Branch) (List (ℕ × Branch)) (List Tree) case_step node_step cover_step covers_step nodes_step

-- the branch that a case is
abbrev pub branch_of : Case → Branch
branch_of = fold-Case Branch Tree (ℕ × Branch) (List (ℕ × Branch)) (List Tree) case_step node_step cover_step covers_step nodes_step

-- the rule of a cover, with its branch
abbrev pub cover_of : Cover → ℕ × Branch
cover_of = fold-Cover Branch Tree (ℕ × Branch) (List (ℕ × Branch)) (List Tree) case_step node_step cover_step covers_step nodes_step

-- the rules of a list of covers, each with its branch
abbrev pub covers_of : Covers → List (ℕ × Branch)
covers_of = fold-Covers Branch Tree (ℕ × Branch) (List (ℕ × Branch)) (List Tree) case_step node_step cover_step covers_step nodes_step
