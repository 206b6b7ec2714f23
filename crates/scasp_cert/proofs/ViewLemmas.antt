-- What a tree and a case with lines below them are, as values.
use Rattle.std.proofs.Common.{◌≡◌, ◌∙◌, ℕ, List, Box, ap, sym}
use Rattle.std.specs.declared.alloc.Global.{Global}
use Rattle.scasp_cert.specs.declared.tree.Case.{Case}
use Rattle.scasp_syntax.specs.Tm.{Tms}
use Rattle.scasp_syntax.specs.declared.atom.Atom.{Atom}
use Rattle.scasp_syntax.specs.declared.con.Con.{Con}
use Rattle.scasp_cert.specs.Trees.{Tree, Branch, pos_tree, neg_tree, split, leaf, head, listed, covering}
use Rattle.scasp_cert.specs.View.{tree_of, trees_of, branch_of, covers_of, case_step, node_step, cover_step, covers_step, nodes_step}
use Rattle.scasp_cert.specs.declared.tree.Covers.{Covers}
use Rattle.scasp_cert.specs.declared.tree.Nodes.{Nodes}
use Rattle.scasp_cert.specs.declared.tree.Case.TheOpen.{Case-F, Node-F}
use Rattle.scasp_cert.specs.declared.tree.Case.TheVariants as case
use Rattle.scasp_cert.specs.declared.tree.Case.TheFolds.{fold-roll-Case, fold-roll-Node}
use Rattle.scasp_cert.specs.declared.tree.Node.TheVariants as node

pub split-is : (k : Con) (first second : Box Case Global) → branch_of (case.Split k first second) ≡ split k (branch_of first.value) (branch_of second.value)
split-is k first second =
    ap branch_of (sym (case.rolls-Split k first second))
    ∙ fold-roll-Case Branch Tree (ℕ × Branch) (List (ℕ × Branch)) (List Tree) case_step node_step cover_step covers_step nodes_step (Case-F.Split k first second)

pub leaf-is : (item : ℕ) (n : Nodes) → branch_of (case.Leaf item n) ≡ leaf item (listed (trees_of n))
leaf-is item n =
    ap branch_of (sym (case.rolls-Leaf item n))
    ∙ fold-roll-Case Branch Tree (ℕ × Branch) (List (ℕ × Branch)) (List Tree) case_step node_step cover_step covers_step nodes_step (Case-F.Leaf item n)

pub head-is : (n : Nodes) → branch_of (case.Head n) ≡ head (listed (trees_of n))
head-is n =
    ap branch_of (sym (case.rolls-Head n))
    ∙ fold-roll-Case Branch Tree (ℕ × Branch) (List (ℕ × Branch)) (List Tree) case_step node_step cover_step covers_step nodes_step (Case-F.Head n)

pub pos-is : (a : Atom) (rule : ℕ) (ts : Tms) (n : Nodes) → tree_of (node.Pos a rule ts n) ≡ pos_tree a rule ts (listed (trees_of n))
pos-is a rule ts n =
    ap tree_of (sym (node.rolls-Pos a rule ts n))
    ∙ fold-roll-Node Branch Tree (ℕ × Branch) (List (ℕ × Branch)) (List Tree) case_step node_step cover_step covers_step nodes_step (Node-F.Pos a rule ts n)

pub neg-is : (a : Atom) (c : Covers) → tree_of (node.Neg a c) ≡ neg_tree a (covering (covers_of c))
neg-is a c =
    ap tree_of (sym (node.rolls-Neg a c))
    ∙ fold-roll-Node Branch Tree (ℕ × Branch) (List (ℕ × Branch)) (List Tree) case_step node_step cover_step covers_step nodes_step (Node-F.Neg a c)
