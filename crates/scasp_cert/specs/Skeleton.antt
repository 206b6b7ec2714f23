-- What a certificate says without what shows it: each hint is Terms, and no clash line is left.
use Rattle.std.specs.Prelude.{ℕ, [], map}
use Rattle.scasp_syntax.specs.declared.hint.Hint.TheVariants as hint
use Rattle.scasp_cert.specs.Certificate.{Certificate}
use Rattle.scasp_cert.specs.Trees.{Tree, Trees, Branch, Branches, pos_tree, neg_tree, loop_tree, seen_tree, test_tree, no_tree, tree, split, void, leaf, head, no_branch, branch}

abbrev mutual
  pub bare : Tree → Tree
  bare (pos_tree atom rule terms children) = pos_tree atom rule terms (all_bare children)
  bare (neg_tree atom covers) = neg_tree atom (bare_covers covers)
  bare (loop_tree lit at) = loop_tree lit at
  bare (seen_tree lit at) = seen_tree lit at
  bare (test_tree con shown) = test_tree con hint.Terms

  pub all_bare : Trees → Trees
  all_bare no_tree = no_tree
  all_bare (tree t ts) = tree (bare t) (all_bare ts)

  pub bare_branch : Branch → Branch
  bare_branch (split con first second) = split con (bare_branch first) (bare_branch second)
  bare_branch (void shown) = void hint.Terms
  bare_branch (leaf item children) = leaf item (all_bare children)
  bare_branch (head children) = head (all_bare children)

  pub bare_covers : Branches → Branches
  bare_covers no_branch = no_branch
  bare_covers (branch rule b bs) = branch rule (bare_branch b) (bare_covers bs)

-- the number of a rule or a check, with its branch
abbrev pub bare_entry : ℕ × Branch → ℕ × Branch
bare_entry k = (k.0, bare_branch k.1)

abbrev pub skeleton : Certificate → Certificate
skeleton c = record {
  query = c.query;
  terms = c.terms;
  given = c.given;
  sample = c.sample;
  trees = map bare c.trees;
  checks = map bare_entry c.checks;
  clashes = [];
  map = c.map;
}
