-- A certificate as lines, each as deep as it stands in the tree.
use Rattle.std.specs.Prelude.{ℕ, ◌+◌, List, [], ◌∷◌, ◌++◌, map, flat_map}
use Rattle.scasp_cert.specs.Trees.{Tree, Trees, Branch, Branches, pos_tree, neg_tree, loop_tree, seen_tree, test_tree, no_tree, tree, split, void, leaf, head, no_branch, branch, listed}
use Rattle.scasp_cert.specs.Certificate.{Certificate}
use Rattle.scasp_cert.specs.Text.Trees.{line_text}
use Rattle.scasp_answers_terms.specs.Tokens.Lines.{Line, answer_line, given_line, sample_line, tree_line, check_line, clash_line, map_line, end_line, pos_line, neg_line, loop_line, seen_line, test_line, rule_line, split_line, void_line, leaf_line, head_line, words_of}

-- a line behind so many blanks
pub record Placed : Type 0 where
  pub depth : ℕ
  pub line : Line

abbrev pub at : ℕ → Line → Placed
at depth line = record { depth = depth; line = line }

abbrev pub placed_text : List (List ℕ) → Placed → List ℕ
placed_text names p = line_text p.depth (words_of names p.line)

abbrev mutual
  pub tree_lines : ℕ → Tree → List Placed
  tree_lines d (pos_tree a rule ts children) = at d (pos_line a rule ts) ∷ trees_lines (d + 1) children
  tree_lines d (neg_tree a covers) = at d (neg_line a) ∷ branches_lines (d + 1) covers
  tree_lines d (loop_tree l n) = at d (loop_line l n) ∷ []
  tree_lines d (seen_tree l n) = at d (seen_line l n) ∷ []
  tree_lines d (test_tree c h) = at d (test_line c h) ∷ []

  pub trees_lines : ℕ → Trees → List Placed
  trees_lines d no_tree = []
  trees_lines d (tree t ts) = tree_lines d t ++ trees_lines d ts

  pub branch_lines : ℕ → Branch → List Placed
  branch_lines d (split c first second) = at d (split_line c) ∷ branch_lines (d + 1) first ++ branch_lines (d + 1) second
  branch_lines d (void h) = at d (void_line h) ∷ []
  branch_lines d (leaf k children) = at d (leaf_line k) ∷ trees_lines (d + 1) children
  branch_lines d (head children) = at d head_line ∷ trees_lines (d + 1) children

  pub branches_lines : ℕ → Branches → List Placed
  branches_lines d no_branch = []
  branches_lines d (branch k b bs) = at d (rule_line k) ∷ branch_lines (d + 1) b ++ branches_lines d bs

-- the clause that is checked, and its case
abbrev pub check_lines : ℕ × Branch → List Placed
check_lines c = at 0 (check_line c.0) ∷ branch_lines 1 c.1

-- the lines of answer n, from `answer` to `end`
abbrev pub block_lines : Certificate → ℕ → List Placed
block_lines c n =
    at 0 (answer_line c.query n c.terms) ∷ map (λ g. at 0 (given_line g)) c.given
    ++ at 0 (sample_line c.sample) ∷ at 0 tree_line ∷ trees_lines 1 (listed c.trees)
    ++ flat_map check_lines c.checks
    ++ map (λ k. at 0 (clash_line k)) c.clashes
    ++ map (λ m. at 0 (map_line m)) c.map
    ++ at 0 end_line ∷ []
