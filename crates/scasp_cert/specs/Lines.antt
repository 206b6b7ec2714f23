-- How many lines a certificate takes.
use Rattle.std.specs.Prelude.{ℕ, ◌+◌, List, [], ◌∷◌}
use Rattle.scasp_cert.specs.Trees.{Tree, Trees, Branch, Branches, pos_tree, neg_tree, loop_tree, seen_tree, test_tree, no_tree, tree, split, void, leaf, head, no_branch, branch, listed}
use Rattle.scasp_cert.specs.Certificate.{Certificate}

-- how many lines a tree takes: one for each node, each rule under a negated literal, each split and each case
abbrev mutual
  pub lines_of : Tree → ℕ
  lines_of (pos_tree atom rule terms children) = 1 + lines_below children
  lines_of (neg_tree atom covers) = 1 + lines_in covers
  lines_of (loop_tree lit at) = 1
  lines_of (seen_tree lit at) = 1
  lines_of (test_tree con hint) = 1

  pub lines_below : Trees → ℕ
  lines_below no_tree = 0
  lines_below (tree t ts) = lines_of t + lines_below ts

  pub lines_at : Branch → ℕ
  lines_at (split con first second) = 1 + (lines_at first + lines_at second)
  lines_at (void hint) = 1
  lines_at (leaf item children) = 1 + lines_below children
  lines_at (head children) = 1 + lines_below children

  pub lines_in : Branches → ℕ
  lines_in no_branch = 0
  lines_in (branch rule b bs) = 1 + lines_at b + lines_in bs

-- how many lines checks take: one for each, and those of its branch
abbrev pub lines_under : List (ℕ × Branch) → ℕ
lines_under [] = 0
lines_under (c ∷ cs) = 1 + lines_at c.1 + lines_under cs

-- how many tree and check lines a certificate has
abbrev pub all_lines : Certificate → ℕ
all_lines c = lines_below (listed c.trees) + lines_under c.checks
