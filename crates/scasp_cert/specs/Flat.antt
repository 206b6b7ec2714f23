-- Certificates for which there is a closed domain above every domain.
use Rattle.std.specs.Prelude.{ℕ, Bool, true, false, ◌||◌, List, [], ◌++◌, length}
use Rattle.std.specs.List.{list_all, flat_map}
use Rattle.scasp_syntax.specs.Tm.{Tm, var, num, app, items}
use Rattle.scasp_syntax.specs.WellFormed.{is_below}
use Rattle.scasp_cert.specs.Certificate.{Certificate}
use Rattle.scasp_cert.specs.Walk.{Line, case_line, check_line, node_line, rule_line}
use Rattle.scasp_cert.specs.Trees.{Tree, Trees, Branch, Branches, pos_tree, neg_tree, loop_tree, seen_tree, test_tree, no_tree, tree, split, void, leaf, head, no_branch, branch, listed}

abbrev pub is_variable : Tm → Bool
is_variable (var x) = true
is_variable (num q) = false
is_variable (app f ts) = false

-- the terms that the lines of positive literals list for the variables of their rules
abbrev mutual
  pub listed_by : Tree → List Tm
  listed_by (pos_tree a rule ts children) = items ts ++ listed_below children
  listed_by (neg_tree a covers) = listed_in covers
  listed_by (loop_tree lit at) = []
  listed_by (seen_tree lit at) = []
  listed_by (test_tree con hint) = []

  pub listed_below : Trees → List Tm
  listed_below no_tree = []
  listed_below (tree t ts) = listed_by t ++ listed_below ts

  pub listed_at : Branch → List Tm
  listed_at (split con first second) = listed_at first ++ listed_at second
  listed_at (void hint) = []
  listed_at (leaf item children) = listed_below children
  listed_at (head children) = listed_below children

  pub listed_in : Branches → List Tm
  listed_in no_branch = []
  listed_in (branch rule b bs) = listed_at b ++ listed_in bs

abbrev pub listed_by_tree : Tree → List Tm
listed_by_tree (pos_tree a rule ts children) = items ts
listed_by_tree (neg_tree a covers) = []
listed_by_tree (loop_tree lit at) = []
listed_by_tree (seen_tree lit at) = []
listed_by_tree (test_tree con hint) = []

-- the terms that one line lists
abbrev pub listed_on : Line → List Tm
listed_on (node_line t) = listed_by_tree t
listed_on (rule_line rule b) = []
listed_on (case_line b) = []
listed_on (check_line clause b) = []

-- the term has no variable from n on, or is a variable by itself
abbrev pub is_flat_term : ℕ → Tm → Bool
is_flat_term n t = is_below n t || is_variable t

abbrev pub are_flat : ℕ → List Tm → Bool
are_flat n ts = list_all (is_flat_term n) ts

-- The variables from the length of the sample on are universal. A certificate is flat where each listed term has none of them or
-- is one by itself.
abbrev pub is_flat : Certificate → Bool
is_flat c = are_flat (length (items c.sample)) (listed_below (listed c.trees) ++ flat_map (λ k. listed_at k.1) c.checks)
