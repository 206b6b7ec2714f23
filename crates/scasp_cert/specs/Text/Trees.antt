-- How justification trees are written: each line behind as many blanks as it is deep.
use Rattle.std.specs.Prelude.{ℕ, ◌+◌, List, [], ◌++◌, replicate, codes, decimal}
use Rattle.scasp_cert.specs.Trees.{Tree, Trees, Branch, Branches, pos_tree, neg_tree, loop_tree, seen_tree, test_tree, no_tree, tree, split, void, leaf, head, no_branch, branch}
use Rattle.scasp_cert.specs.Text.Terms.{list_text, atom_text, lit_text}
use Rattle.scasp_cert.specs.Text.Constraints.{con_text}
use Rattle.scasp_cert.specs.Text.Hints.{hint_text}

-- the text as a line behind so many blanks
unfoldable pub line_text : ℕ → List ℕ → List ℕ
line_text depth text = replicate depth 32 ++ text ++ codes "\n"

abbrev mutual
  pub tree_text : List (List ℕ) → ℕ → Tree → List ℕ
  tree_text names depth (pos_tree atom rule terms children) =
      line_text depth (codes "pos " ++ atom_text names atom ++ codes " rule " ++ decimal rule ++ codes " " ++ list_text names terms)
      ++ trees_text names (depth + 1) children
  tree_text names depth (neg_tree atom covers) =
      line_text depth (codes "neg " ++ atom_text names atom) ++ branches_text names (depth + 1) covers
  tree_text names depth (loop_tree lit at) = line_text depth (codes "loop " ++ lit_text names lit ++ codes " at " ++ decimal at)
  tree_text names depth (seen_tree lit at) = line_text depth (codes "seen " ++ lit_text names lit ++ codes " at " ++ decimal at)
  tree_text names depth (test_tree con hint) = line_text depth (codes "test " ++ con_text names con ++ codes " " ++ hint_text hint)

  pub trees_text : List (List ℕ) → ℕ → Trees → List ℕ
  trees_text names depth no_tree = []
  trees_text names depth (tree t ts) = tree_text names depth t ++ trees_text names depth ts

  pub branch_text : List (List ℕ) → ℕ → Branch → List ℕ
  branch_text names depth (split con first second) =
      line_text depth (codes "split " ++ con_text names con)
      ++ branch_text names (depth + 1) first ++ branch_text names (depth + 1) second
  branch_text names depth (void hint) = line_text depth (codes "void " ++ hint_text hint)
  branch_text names depth (leaf item children) =
      line_text depth (codes "leaf " ++ decimal item) ++ trees_text names (depth + 1) children
  branch_text names depth (head children) = line_text depth (codes "head") ++ trees_text names (depth + 1) children

  pub branches_text : List (List ℕ) → ℕ → Branches → List ℕ
  branches_text names depth no_branch = []
  branches_text names depth (branch rule b bs) =
      line_text depth (codes "rule " ++ decimal rule) ++ branch_text names (depth + 1) b ++ branches_text names depth bs
