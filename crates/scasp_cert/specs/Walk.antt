-- The lines of a certificate, one after the other.
use Rattle.std.specs.Prelude.{ℕ, List, [], ◌∷◌, ◌++◌}
use Rattle.scasp_cert.specs.Certificate.{Certificate}
use Rattle.scasp_cert.specs.Trees.{Tree, Trees, Branch, Branches, pos_tree, neg_tree, loop_tree, seen_tree, test_tree, no_tree, tree, split, void, leaf, head, no_branch, branch, listed}

-- what stands on a line, with all that stands below it
pub data Line : Type 0 where
  node_line : Tree → Line
  rule_line : ℕ → Branch → Line
  case_line : Branch → Line
  check_line : ℕ → Branch → Line

-- each line is followed by the lines below it
abbrev mutual
  pub walk_of : Tree → List Line
  walk_of (pos_tree atom rule terms children) = node_line (pos_tree atom rule terms children) ∷ walk_below children
  walk_of (neg_tree atom covers) = node_line (neg_tree atom covers) ∷ walk_in covers
  walk_of (loop_tree lit at) = node_line (loop_tree lit at) ∷ []
  walk_of (seen_tree lit at) = node_line (seen_tree lit at) ∷ []
  walk_of (test_tree con hint) = node_line (test_tree con hint) ∷ []

  pub walk_below : Trees → List Line
  walk_below no_tree = []
  walk_below (tree t ts) = walk_of t ++ walk_below ts

  pub walk_at : Branch → List Line
  walk_at (split con first second) = case_line (split con first second) ∷ (walk_at first ++ walk_at second)
  walk_at (void hint) = case_line (void hint) ∷ []
  walk_at (leaf item children) = case_line (leaf item children) ∷ walk_below children
  walk_at (head children) = case_line (head children) ∷ walk_below children

  pub walk_in : Branches → List Line
  walk_in no_branch = []
  walk_in (branch rule b bs) = rule_line rule b ∷ (walk_at b ++ walk_in bs)

abbrev pub walk_under : List (ℕ × Branch) → List Line
walk_under [] = []
walk_under (c ∷ cs) = check_line c.0 c.1 ∷ (walk_at c.1 ++ walk_under cs)

abbrev pub walk : Certificate → List Line
walk c = walk_below (listed c.trees) ++ walk_under c.checks

-- the lines below a tree's own
abbrev pub below_tree : Tree → List Line
below_tree (pos_tree atom rule terms children) = walk_below children
below_tree (neg_tree atom covers) = walk_in covers
below_tree (loop_tree lit at) = []
below_tree (seen_tree lit at) = []
below_tree (test_tree con hint) = []

-- the lines below a case's own
abbrev pub below_case : Branch → List Line
below_case (split con first second) = walk_at first ++ walk_at second
below_case (void hint) = []
below_case (leaf item children) = walk_below children
below_case (head children) = walk_below children

-- the lines below what stands on a line
abbrev pub below : Line → List Line
below (node_line t) = below_tree t
below (rule_line rule b) = walk_at b
below (case_line b) = below_case b
below (check_line clause b) = walk_at b
