-- The text of a tree is the text of its lines.
use Rattle.std.specs.Prelude.{◌≡◌, ℕ, ◌+◌, List, [], ◌∷◌, ◌++◌, flat_map}
use Rattle.std.proofs.Common.{refl, ap, sym, ◌∙◌, append_assoc, append-nil}
use Rattle.scasp_cert.specs.Trees.{Tree, Trees, Branch, Branches, pos_tree, neg_tree, loop_tree, seen_tree, test_tree, no_tree, tree, split, void, leaf, head, no_branch, branch}
use Rattle.scasp_cert.specs.Text.Trees.{line_text, tree_text, trees_text, branch_text, branches_text}
use Rattle.scasp_answers_terms.specs.Tokens.Lines.{words_of, pos_line, neg_line, rule_line, split_line, leaf_line, head_line}
use Rattle.scasp_answers.specs.Blocks.Blocks.{placed_text, tree_lines, trees_lines, branch_lines, branches_lines}

pub flat_map-append : {A : Type 0} (f : A → List ℕ) (xs ys : List A) → flat_map f (xs ++ ys) ≡ flat_map f xs ++ flat_map f ys
flat_map-append f [] ys = refl
flat_map-append f (x ∷ xs) ys = ap (λ l. f x ++ l) (flat_map-append f xs ys) ∙ sym (append_assoc (f x) _ _)

-- two texts, each that of its lines
pub joined :
    {A : Type 0} (f : A → List ℕ) (xs ys : List A) (a b : List ℕ) → a ≡ flat_map f xs → b ≡ flat_map f ys
    → a ++ b ≡ flat_map f (xs ++ ys)
joined f xs ys a b p q = ap (λ l. l ++ b) p ∙ (ap (λ l. flat_map f xs ++ l) q ∙ sym (flat_map-append f xs ys))

mutual
  unfolding words_of

  pub tree-lines : (names : List (List ℕ)) (d : ℕ) (t : Tree) → tree_text names d t ≡ flat_map (placed_text names) (tree_lines d t)
  tree-lines names d (pos_tree a rule ts children) =
      ap (λ l. line_text d (words_of names (pos_line a rule ts)) ++ l) (trees-lines names (d + 1) children)
  tree-lines names d (neg_tree a covers) = ap (λ l. line_text d (words_of names (neg_line a)) ++ l) (branches-lines names (d + 1) covers)
  tree-lines names d (loop_tree l at) = sym (append-nil _)
  tree-lines names d (seen_tree l at) = sym (append-nil _)
  tree-lines names d (test_tree c h) = sym (append-nil _)

  pub trees-lines : (names : List (List ℕ)) (d : ℕ) (ts : Trees) → trees_text names d ts ≡ flat_map (placed_text names) (trees_lines d ts)
  trees-lines names d no_tree = refl
  trees-lines names d (tree t ts) =
      joined (placed_text names) (tree_lines d t) (trees_lines d ts) _ _ (tree-lines names d t) (trees-lines names d ts)

  pub branch-lines : (names : List (List ℕ)) (d : ℕ) (b : Branch) → branch_text names d b ≡ flat_map (placed_text names) (branch_lines d b)
  branch-lines names d (split c first second) =
      append_assoc (line_text d (words_of names (split_line c))) (branch_text names (d + 1) first) (branch_text names (d + 1) second)
      ∙ ap (λ l. line_text d (words_of names (split_line c)) ++ l)
      (joined (placed_text names) (branch_lines (d + 1) first) (branch_lines (d + 1) second) _ _ (branch-lines names (d + 1) first) (branch-lines names (d + 1) second))
  branch-lines names d (void h) = sym (append-nil _)
  branch-lines names d (leaf k children) = ap (λ l. line_text d (words_of names (leaf_line k)) ++ l) (trees-lines names (d + 1) children)
  branch-lines names d (head children) = ap (λ l. line_text d (words_of names head_line) ++ l) (trees-lines names (d + 1) children)

  pub branches-lines : (names : List (List ℕ)) (d : ℕ) (bs : Branches) → branches_text names d bs ≡ flat_map (placed_text names) (branches_lines d bs)
  branches-lines names d no_branch = refl
  branches-lines names d (branch k b bs) =
      append_assoc (line_text d (words_of names (rule_line k))) (branch_text names (d + 1) b) (branches_text names d bs)
      ∙ ap (λ l. line_text d (words_of names (rule_line k)) ++ l)
      (joined (placed_text names) (branch_lines (d + 1) b) (branches_lines d bs) _ _ (branch-lines names (d + 1) b) (branches-lines names d bs))
