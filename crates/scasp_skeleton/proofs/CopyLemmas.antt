-- Nodes and cases over what was put before.
use Rattle.std.proofs.Common.{◌≡◌, ◌∙◌, ℕ, List, [], ◌∷◌, ◌++◌, take, drop, length, refl, ap, sym, arith}
use Rattle.scasp_search_trees.specs.Stacked.{without_covers}
use Rattle.scasp_syntax.specs.Tm.{Tms}
use Rattle.scasp_syntax.specs.declared.atom.Atom.{Atom}
use Rattle.scasp_syntax.specs.declared.hint.Hint.{Hint}
use Rattle.scasp_cert.proofs.ViewLemmas.{head-is, leaf-is, neg-is, pos-is}
use Rattle.scasp_cert.specs.Trees.{Tree, Trees, Branch, Branches, pos_tree, neg_tree, no_tree, tree, leaf, head, no_branch, branch, listed, covering}
use Rattle.scasp_cert.specs.View.{branch_of, covers_of, tree_of, trees_of}
use Rattle.scasp_cert.specs.declared.tree.Case.{Case}
use Rattle.scasp_cert.specs.declared.tree.Case.TheVariants as case
use Rattle.scasp_cert.specs.declared.tree.Covers.{Covers}
use Rattle.scasp_cert.specs.declared.tree.Node.{Node}
use Rattle.scasp_cert.specs.declared.tree.Node.TheVariants as node
use Rattle.scasp_cert.specs.declared.tree.Nodes.{Nodes}
use Rattle.scasp_lines.proofs.CountLemmas.{count-listed}
use Rattle.scasp_lines.specs.Below.{count, rule_numbers}
use Rattle.scasp_search_rules.specs.Successors.Trees.{Built, with_case, with_node, without_nodes}
use Rattle.scasp_skeleton.specs.Copies.{put_branch, put_tree}

-- ---- what a line over others is, as it is put

pub leaf-is_put : (item n : ℕ) (children : Nodes) (c : Case) (h : Hint) (b : Built) → n ≡ length (trees_of children) → c ≡ case.Leaf item children
    → with_case (leaf item (listed (take n b.nodes))) 0 (without_nodes n b) ≡ put_branch (branch_of c) h b
leaf-is_put item n children c h b e is =
    ap (λ m. with_case (leaf item (listed (take m b.nodes))) 0 (without_nodes m b)) (e ∙ sym (count-listed (trees_of children)))
    ∙ ap (λ (x : Branch). put_branch x h b) (sym (leaf-is item children) ∙ ap branch_of (sym is))

pub head-is_put : (n : ℕ) (children : Nodes) (c : Case) (h : Hint) (b : Built) → n ≡ length (trees_of children) → c ≡ case.Head children
    → with_case (head (listed (take n b.nodes))) 0 (without_nodes n b) ≡ put_branch (branch_of c) h b
head-is_put n children c h b e is =
    ap (λ m. with_case (head (listed (take m b.nodes))) 0 (without_nodes m b)) (e ∙ sym (count-listed (trees_of children)))
    ∙ ap (λ (x : Branch). put_branch x h b) (sym (head-is children) ∙ ap branch_of (sym is))

pub pos-is_put : (a made : Atom) (rule n : ℕ) (ts us : Tms) (children : Nodes) (t : Node) (h : Hint) (b : Built) → made ≡ a → us ≡ ts → n ≡ length (trees_of children)
    → t ≡ node.Pos a rule ts children → with_node (pos_tree made rule us (listed (take n b.nodes))) n b ≡ put_tree (tree_of t) h b
pos-is_put a made rule n ts us children t h b f g e is =
    (λ i. with_node (pos_tree (f i) rule (g i) (listed (take ((e ∙ sym (count-listed (trees_of children))) i) b.nodes))) ((e ∙ sym (count-listed (trees_of children))) i) b)
    ∙ ap (λ (x : Tree). put_tree x h b) (sym (pos-is a rule ts children) ∙ ap tree_of (sym is))

covers-counted : (ks : List (ℕ × Branch)) → length (rule_numbers (covering ks)) ≡ length ks
covers-counted [] = refl
covers-counted (k ∷ ks) = let e = covers-counted ks in omega (arith, e)

pub neg-is_put : (a made : Atom) (n : ℕ) (covers : Covers) (t : Node) (h : Hint) (b : Built) → made ≡ a → n ≡ length (covers_of covers)
    → t ≡ node.Neg a covers → with_node (neg_tree made (covering (take n b.covers))) 0 (without_covers n b) ≡ put_tree (tree_of t) h b
neg-is_put a made n covers t h b f e is =
    (λ i. with_node (neg_tree (f i) (covering (take ((e ∙ sym (covers-counted (covers_of covers))) i) b.covers))) 0 (without_covers ((e ∙ sym (covers-counted (covers_of covers))) i) b))
    ∙ ap (λ (x : Tree). put_tree x h b) (sym (neg-is a covers) ∙ ap tree_of (sym is))

-- ---- trees and rules in front of others

abbrev pub trees_in : Trees → List Tree
trees_in no_tree = []
trees_in (tree t ts) = t ∷ trees_in ts

abbrev pub covers_in : Branches → List (ℕ × Branch)
covers_in no_branch = []
covers_in (branch k b bs) = (k, b) ∷ covers_in bs

taken-trees : (ts : Trees) (xs : List Tree) → listed (take (count ts) (trees_in ts ++ xs)) ≡ ts
taken-trees no_tree xs = refl
taken-trees (tree t ts) xs = ap (tree t) (taken-trees ts xs)

left-trees : (ts : Trees) (xs : List Tree) → drop (count ts) (trees_in ts ++ xs) ≡ xs
left-trees no_tree xs = refl
left-trees (tree t ts) xs = left-trees ts xs

taken-covers : (bs : Branches) (xs : List (ℕ × Branch)) → covering (take (length (rule_numbers bs)) (covers_in bs ++ xs)) ≡ bs
taken-covers no_branch xs = refl
taken-covers (branch k b bs) xs = ap (branch k b) (taken-covers bs xs)

left-covers : (bs : Branches) (xs : List (ℕ × Branch)) → drop (length (rule_numbers bs)) (covers_in bs ++ xs) ≡ xs
left-covers no_branch xs = refl
left-covers (branch k b bs) xs = left-covers bs xs

abbrev pub with_nodes : Trees → Built → Built
with_nodes ts b = record b { nodes = trees_in ts ++ b.nodes }

abbrev pub with_covers : Branches → Built → Built
with_covers bs b = record b { covers = covers_in bs ++ b.covers }

abbrev pub with_checks : List (ℕ × Branch) → Built → Built
with_checks ks b = record b { checks = ks ++ b.checks }

-- ---- nodes and cases over what was put before

-- as many as are there are taken, and stand below
pub pos-put : (a : Atom) (k : ℕ) (ts : _) (children made : Trees) (h : Hint) (b : Built) → count made ≡ count children
    → put_tree (pos_tree a k ts children) h (with_nodes made b) ≡ with_node (pos_tree a k ts made) 0 b
pos-put a k ts children made h b e =
    ap (λ n. with_node (pos_tree a k ts (listed (take n (trees_in made ++ b.nodes)))) n (with_nodes made b)) (sym e)
    ∙ (λ i. record b { nodes = pos_tree a k ts (taken-trees made b.nodes i) ∷ left-trees made b.nodes i })

pub neg-put : (a : Atom) (covers made : Branches) (h : Hint) (b : Built) → rule_numbers made ≡ rule_numbers covers
    → put_tree (neg_tree a covers) h (with_covers made b) ≡ with_node (neg_tree a made) 0 b
neg-put a covers made h b e =
    ap (λ (ns : List ℕ). record b { nodes = neg_tree a (covering (take (length ns) (covers_in made ++ b.covers))) ∷ b.nodes; covers = drop (length ns) (covers_in made ++ b.covers) }) (sym e)
    ∙ (λ i. record b { nodes = neg_tree a (taken-covers made b.covers i) ∷ b.nodes; covers = left-covers made b.covers i })

pub leaf-put : (k : ℕ) (children made : Trees) (h : Hint) (b : Built) → count made ≡ count children
    → put_branch (leaf k children) h (with_nodes made b) ≡ with_case (leaf k made) 0 b
leaf-put k children made h b e =
    ap (λ n. record b { nodes = drop n (trees_in made ++ b.nodes); cases = leaf k (listed (take n (trees_in made ++ b.nodes))) ∷ b.cases }) (sym e)
    ∙ (λ i. record b { nodes = left-trees made b.nodes i; cases = leaf k (taken-trees made b.nodes i) ∷ b.cases })

pub head-put : (children made : Trees) (h : Hint) (b : Built) → count made ≡ count children
    → put_branch (head children) h (with_nodes made b) ≡ with_case (head made) 0 b
head-put children made h b e =
    ap (λ n. record b { nodes = drop n (trees_in made ++ b.nodes); cases = head (listed (take n (trees_in made ++ b.nodes))) ∷ b.cases }) (sym e)
    ∙ (λ i. record b { nodes = left-trees made b.nodes i; cases = head (taken-trees made b.nodes i) ∷ b.cases })
