-- What the lines of a certificate name: clauses and predicates.
use Rattle.std.specs.Prelude.{ℕ, List, [], ◌∷◌, ◌++◌}
use Rattle.std.specs.List.{flat_map}
use Rattle.scasp_syntax.specs.Programs.{pred_of}
use Rattle.scasp_syntax.specs.declared.atom.Pred.{Pred}
use Rattle.scasp_cert.specs.Certificate.{Certificate}
use Rattle.scasp_cert.specs.Trees.{Tree, Trees, Branch, Branches, pos_tree, neg_tree, loop_tree, seen_tree, test_tree, no_tree, tree, split, void, leaf, head, no_branch, branch, listed}

-- the clauses that a tree's lines name, in order: those of positive literals, and the rules under negated ones
abbrev mutual
  pub clauses_of : Tree → List ℕ
  clauses_of (pos_tree a k ts children) = k ∷ clauses_below children
  clauses_of (neg_tree a covers) = clauses_in covers
  clauses_of (loop_tree lit to) = []
  clauses_of (seen_tree lit to) = []
  clauses_of (test_tree c hint) = []

  pub clauses_below : Trees → List ℕ
  clauses_below no_tree = []
  clauses_below (tree t ts) = clauses_of t ++ clauses_below ts

  pub clauses_at : Branch → List ℕ
  clauses_at (split c first second) = clauses_at first ++ clauses_at second
  clauses_at (void hint) = []
  clauses_at (leaf k children) = clauses_below children
  clauses_at (head children) = clauses_below children

  pub clauses_in : Branches → List ℕ
  clauses_in no_branch = []
  clauses_in (branch k b bs) = k ∷ (clauses_at b ++ clauses_in bs)

-- the predicates of a tree's positive and negated literals, in the order of their lines
abbrev mutual
  pub preds_of : Tree → List Pred
  preds_of (pos_tree a k ts children) = pred_of a ∷ preds_below children
  preds_of (neg_tree a covers) = pred_of a ∷ preds_in covers
  preds_of (loop_tree lit to) = []
  preds_of (seen_tree lit to) = []
  preds_of (test_tree c hint) = []

  pub preds_below : Trees → List Pred
  preds_below no_tree = []
  preds_below (tree t ts) = preds_of t ++ preds_below ts

  pub preds_at : Branch → List Pred
  preds_at (split c first second) = preds_at first ++ preds_at second
  preds_at (void hint) = []
  preds_at (leaf k children) = preds_below children
  preds_at (head children) = preds_below children

  pub preds_in : Branches → List Pred
  preds_in no_branch = []
  preds_in (branch k b bs) = preds_at b ++ preds_in bs

-- the clause of a check, and those that its lines name
abbrev pub clauses_under : ℕ × Branch → List ℕ
clauses_under k = k.0 ∷ clauses_at k.1

abbrev pub preds_under : ℕ × Branch → List Pred
preds_under k = preds_at k.1

-- the clauses that the lines of a certificate name, in order
abbrev pub named_clauses : Certificate → List ℕ
named_clauses c = clauses_below (listed c.trees) ++ flat_map clauses_under c.checks

-- the predicates of its positive and negated literals, in the order of their lines
abbrev pub line_predicates : Certificate → List Pred
line_predicates c = preds_below (listed c.trees) ++ flat_map preds_under c.checks
