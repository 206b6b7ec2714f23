-- What is named on the lines of a walk, one line after another.
use Rattle.std.proofs.Common.{◌≡◌, ◌∙◌, ℕ, suc, ◌+◌, true, false, List, [], ◌∷◌, ◌++◌, refl, ap}
use Rattle.std.specs.List.{flat_map}
use Rattle.std.proofs.lemmas.List.Concat.{flat_map-append}
use Rattle.scasp_syntax.specs.Programs.{numbered, pred_of}
use Rattle.scasp_syntax.specs.declared.atom.Atom.{Atom}
use Rattle.scasp_syntax.specs.declared.atom.Pred.{Pred}
use Rattle.scasp_cert.specs.Lines.{lines_at, lines_of}
use Rattle.scasp_cert.specs.Trees.{Tree, Trees, Branch, Branches, pos_tree, neg_tree, loop_tree, seen_tree, test_tree, no_tree, tree, split, void, leaf, head, no_branch, branch}
use Rattle.scasp_lines.specs.Bodies.{Body, Inside, inside_check, inside_rule, split_body}
use Rattle.scasp_lines.specs.Dues.{Due, first_due, head_dues, leaf_dues, other_dues, rule_dues}
use Rattle.scasp_lines.specs.Places.{Place, below_literal, within_case}
use Rattle.scasp_lines.specs.Sides.{sides}
use Rattle.scasp_lines.specs.Walk.{Line, Part, Setting, Walked, branch_walk, check_walk, checks_walk, covers_walk, followed, line, node_walk, nodes_walk, of_case, of_check, of_node, of_rule, started}
use Rattle.scasp_touched.specs.Named.{clauses_at, clauses_below, clauses_in, clauses_of, clauses_under, preds_at, preds_below, preds_in, preds_of, preds_under}

-- ---- the clause and the predicate that a line names, if it names one

abbrev pub tree_clause : Tree → List ℕ
tree_clause (pos_tree a k ts children) = k ∷ []
tree_clause (neg_tree a covers) = []
tree_clause (loop_tree lit to) = []
tree_clause (seen_tree lit to) = []
tree_clause (test_tree c hint) = []

abbrev pub part_clause : Part → List ℕ
part_clause (of_node due t) = tree_clause t
part_clause (of_rule k a b) = k ∷ []
part_clause (of_check k b) = k ∷ []
part_clause (of_case body b) = []

abbrev pub line_clause : Line → List ℕ
line_clause l = part_clause l.part

abbrev pub tree_pred : Tree → List Pred
tree_pred (pos_tree a k ts children) = pred_of a ∷ []
tree_pred (neg_tree a covers) = pred_of a ∷ []
tree_pred (loop_tree lit to) = []
tree_pred (seen_tree lit to) = []
tree_pred (test_tree c hint) = []

abbrev pub part_pred : Part → List Pred
part_pred (of_node due t) = tree_pred t
part_pred (of_rule k a b) = []
part_pred (of_check k b) = []
part_pred (of_case body b) = []

abbrev pub line_pred : Line → List Pred
line_pred l = part_pred l.part

-- ---- the lines of a walk name what the tree does

module _ (s : Setting) where
  mutual
    clauses-tree : (here : Place) (at next : ℕ) (due : Due) (t : Tree) → flat_map line_clause (node_walk s here at next due t).lines ≡ clauses_of t
    clauses-tree here at next due (pos_tree a k ts children) =
        ap (λ z. k ∷ z) (clauses-trees (below_literal at true a here) (suc at) next (rule_dues (numbered s.clauses k) here ts) children)
    clauses-tree here at next due (neg_tree a covers) = clauses-covers (below_literal at false a here) (suc at) next a covers
    clauses-tree here at next due (loop_tree lit to) = refl
    clauses-tree here at next due (seen_tree lit to) = refl
    clauses-tree here at next due (test_tree c hint) = refl

    pub clauses-trees : (here : Place) (at next : ℕ) (dues : List Due) (ts : Trees)
        → flat_map line_clause (nodes_walk s here at next dues ts).lines ≡ clauses_below ts
    clauses-trees here at next dues no_tree = refl
    clauses-trees here at next dues (tree t ts) =
        let first : Walked = node_walk s here at next (first_due dues) t in
        let rest : Walked = nodes_walk s here (at + lines_of t) first.next (other_dues dues) ts in
        flat_map-append line_clause first.lines rest.lines
        ∙ (λ i. clauses-tree here at next (first_due dues) t i ++ clauses-trees here (at + lines_of t) first.next (other_dues dues) ts i)

    clauses-branch : (here : Place) (at next : ℕ) (body : Body) (b : Branch)
        → flat_map line_clause (branch_walk s here at next body b).lines ≡ clauses_at b
    clauses-branch here at next body (split c first second) =
        let both = sides s.free s.top c here next in
        let one : Walked = branch_walk s both.first (suc at) both.next (split_body body) first in
        let other : Walked = branch_walk s both.second (suc at + lines_at first) one.next (split_body body) second in
        flat_map-append line_clause one.lines other.lines
        ∙ (λ i. clauses-branch both.first (suc at) both.next (split_body body) first i
        ++ clauses-branch both.second (suc at + lines_at first) one.next (split_body body) second i)
    clauses-branch here at next body (void hint) = refl
    clauses-branch here at next body (leaf k children) = clauses-trees (within_case at body.bare here) (suc at) next (leaf_dues here body k) children
    clauses-branch here at next body (head children) = clauses-trees (within_case at body.bare here) (suc at) next (head_dues here body) children

    clauses-covers : (here : Place) (at next : ℕ) (a : Atom) (bs : Branches)
        → flat_map line_clause (covers_walk s here at next a bs).lines ≡ clauses_in bs
    clauses-covers here at next a no_branch = refl
    clauses-covers here at next a (branch k b bs) =
        let i : Inside = inside_rule (numbered s.clauses k) a next here in
        let below : Walked = branch_walk s i.here (suc at) i.next i.body b in
        let rest : Walked = covers_walk s here (at + (1 + lines_at b)) below.next a bs in
        ap (λ z. k ∷ z) (flat_map-append line_clause below.lines rest.lines
        ∙ (λ j. clauses-branch i.here (suc at) i.next i.body b j ++ clauses-covers here (at + (1 + lines_at b)) below.next a bs j))

  pub clauses-checks : (here : Place) (at next : ℕ) (ks : List (ℕ × Branch))
      → flat_map line_clause (checks_walk s here at next ks).lines ≡ flat_map clauses_under ks
  clauses-checks here at next [] = refl
  clauses-checks here at next (k ∷ ks) =
      let i : Inside = inside_check (numbered s.clauses k.0) next here in
      let below : Walked = branch_walk s i.here (suc at) i.next i.body k.1 in
      let rest : Walked = checks_walk s here (at + (1 + lines_at k.1)) below.next ks in
      ap (λ z. k.0 ∷ z) (flat_map-append line_clause below.lines rest.lines
      ∙ (λ j. clauses-branch i.here (suc at) i.next i.body k.1 j ++ clauses-checks here (at + (1 + lines_at k.1)) below.next ks j))

  mutual
    preds-tree : (here : Place) (at next : ℕ) (due : Due) (t : Tree) → flat_map line_pred (node_walk s here at next due t).lines ≡ preds_of t
    preds-tree here at next due (pos_tree a k ts children) =
        ap (λ z. pred_of a ∷ z) (preds-trees (below_literal at true a here) (suc at) next (rule_dues (numbered s.clauses k) here ts) children)
    preds-tree here at next due (neg_tree a covers) =
        ap (λ z. pred_of a ∷ z) (preds-covers (below_literal at false a here) (suc at) next a covers)
    preds-tree here at next due (loop_tree lit to) = refl
    preds-tree here at next due (seen_tree lit to) = refl
    preds-tree here at next due (test_tree c hint) = refl

    pub preds-trees : (here : Place) (at next : ℕ) (dues : List Due) (ts : Trees)
        → flat_map line_pred (nodes_walk s here at next dues ts).lines ≡ preds_below ts
    preds-trees here at next dues no_tree = refl
    preds-trees here at next dues (tree t ts) =
        let first : Walked = node_walk s here at next (first_due dues) t in
        let rest : Walked = nodes_walk s here (at + lines_of t) first.next (other_dues dues) ts in
        flat_map-append line_pred first.lines rest.lines
        ∙ (λ i. preds-tree here at next (first_due dues) t i ++ preds-trees here (at + lines_of t) first.next (other_dues dues) ts i)

    preds-branch : (here : Place) (at next : ℕ) (body : Body) (b : Branch)
        → flat_map line_pred (branch_walk s here at next body b).lines ≡ preds_at b
    preds-branch here at next body (split c first second) =
        let both = sides s.free s.top c here next in
        let one : Walked = branch_walk s both.first (suc at) both.next (split_body body) first in
        let other : Walked = branch_walk s both.second (suc at + lines_at first) one.next (split_body body) second in
        flat_map-append line_pred one.lines other.lines
        ∙ (λ i. preds-branch both.first (suc at) both.next (split_body body) first i
        ++ preds-branch both.second (suc at + lines_at first) one.next (split_body body) second i)
    preds-branch here at next body (void hint) = refl
    preds-branch here at next body (leaf k children) = preds-trees (within_case at body.bare here) (suc at) next (leaf_dues here body k) children
    preds-branch here at next body (head children) = preds-trees (within_case at body.bare here) (suc at) next (head_dues here body) children

    preds-covers : (here : Place) (at next : ℕ) (a : Atom) (bs : Branches)
        → flat_map line_pred (covers_walk s here at next a bs).lines ≡ preds_in bs
    preds-covers here at next a no_branch = refl
    preds-covers here at next a (branch k b bs) =
        let i : Inside = inside_rule (numbered s.clauses k) a next here in
        let below : Walked = branch_walk s i.here (suc at) i.next i.body b in
        let rest : Walked = covers_walk s here (at + (1 + lines_at b)) below.next a bs in
        flat_map-append line_pred below.lines rest.lines
        ∙ (λ j. preds-branch i.here (suc at) i.next i.body b j ++ preds-covers here (at + (1 + lines_at b)) below.next a bs j)

  pub preds-checks : (here : Place) (at next : ℕ) (ks : List (ℕ × Branch))
      → flat_map line_pred (checks_walk s here at next ks).lines ≡ flat_map preds_under ks
  preds-checks here at next [] = refl
  preds-checks here at next (k ∷ ks) =
      let i : Inside = inside_check (numbered s.clauses k.0) next here in
      let below : Walked = branch_walk s i.here (suc at) i.next i.body k.1 in
      let rest : Walked = checks_walk s here (at + (1 + lines_at k.1)) below.next ks in
      flat_map-append line_pred below.lines rest.lines
      ∙ (λ j. preds-branch i.here (suc at) i.next i.body k.1 j ++ preds-checks here (at + (1 + lines_at k.1)) below.next ks j)
