-- A certificate with other hints and other clash lines: the hint on each line is told by the line's number.
use Rattle.std.specs.Prelude.{ℕ, suc, ◌+◌, List, [], ◌∷◌}
use Rattle.scasp_syntax.specs.declared.hint.Hint.{Hint}
use Rattle.scasp_cert.specs.Certificate.{Certificate}
use Rattle.scasp_cert.specs.Lines.{lines_of, lines_at, lines_below}
use Rattle.scasp_cert.specs.Trees.{Tree, Trees, Branch, Branches, pos_tree, neg_tree, loop_tree, seen_tree, test_tree, no_tree, tree, split, void, leaf, head, no_branch, branch, listed}
use Rattle.scasp_cert.specs.declared.certificate.Clash.{Clash}

abbrev mutual
  -- the tree, whose first line has the number `at`
  pub hinted : (ℕ → Hint) → ℕ → Tree → Tree
  hinted f at (pos_tree a k ts children) = pos_tree a k ts (all_hinted f (suc at) children)
  hinted f at (neg_tree a covers) = neg_tree a (covers_hinted f (suc at) covers)
  hinted f at (loop_tree lit to) = loop_tree lit to
  hinted f at (seen_tree lit to) = seen_tree lit to
  hinted f at (test_tree c shown) = test_tree c (f at)

  pub all_hinted : (ℕ → Hint) → ℕ → Trees → Trees
  all_hinted f at no_tree = no_tree
  all_hinted f at (tree t ts) = tree (hinted f at t) (all_hinted f (at + lines_of t) ts)

  pub case_hinted : (ℕ → Hint) → ℕ → Branch → Branch
  case_hinted f at (split c first second) = split c (case_hinted f (suc at) first) (case_hinted f (suc at + lines_at first) second)
  case_hinted f at (void shown) = void (f at)
  case_hinted f at (leaf k children) = leaf k (all_hinted f (suc at) children)
  case_hinted f at (head children) = head (all_hinted f (suc at) children)

  pub covers_hinted : (ℕ → Hint) → ℕ → Branches → Branches
  covers_hinted f at no_branch = no_branch
  covers_hinted f at (branch k b bs) = branch k (case_hinted f (suc at) b) (covers_hinted f (at + (1 + lines_at b)) bs)

abbrev pub trees_hinted : (ℕ → Hint) → ℕ → List Tree → List Tree
trees_hinted f at [] = []
trees_hinted f at (t ∷ ts) = hinted f at t ∷ trees_hinted f (at + lines_of t) ts

abbrev pub checks_hinted : (ℕ → Hint) → ℕ → List (ℕ × Branch) → List (ℕ × Branch)
checks_hinted f at [] = []
checks_hinted f at (c ∷ cs) = (c.0, case_hinted f (suc at) c.1) ∷ checks_hinted f (at + (1 + lines_at c.1)) cs

-- the certificate with these hints and these clash lines
abbrev pub shown_by : (ℕ → Hint) → List Clash → Certificate → Certificate
shown_by f clashes c = record {
  query = c.query;
  terms = c.terms;
  given = c.given;
  sample = c.sample;
  trees = trees_hinted f 1 c.trees;
  checks = checks_hinted f (1 + lines_below (listed c.trees)) c.checks;
  clashes = clashes;
  map = c.map;
}
