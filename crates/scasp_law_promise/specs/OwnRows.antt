-- The constraints that stand in a certificate: those that are given, and those of its tests and splits. Each row of the product's types is
-- in normal form, so those of the certificate that a `Cert` is are.
use Rattle.std.specs.Prelude.{Bool, true, List, [], ◌∷◌, ◌++◌}
use Rattle.std.specs.List.{flat_map, list_all}
use Rattle.scasp_num.specs.Linear.{is_normal}
use Rattle.scasp_syntax.specs.declared.con.Con.{Con}
use Rattle.scasp_syntax.specs.declared.con.Con.TheVariants as con
use Rattle.scasp_cert.specs.Certificate.{Certificate}
use Rattle.scasp_cert.specs.Walk.{Line, case_line, check_line, node_line, rule_line}
use Rattle.scasp_cert.specs.Trees.{Tree, Trees, Branch, Branches, pos_tree, neg_tree, loop_tree, seen_tree, test_tree, no_tree, tree, split, void, leaf, head, no_branch, branch, listed}

abbrev mutual
  pub constraints_by : Tree → List Con
  constraints_by (pos_tree a rule ts children) = constraints_below children
  constraints_by (neg_tree a covers) = constraints_in covers
  constraints_by (loop_tree lit at) = []
  constraints_by (seen_tree lit at) = []
  constraints_by (test_tree c hint) = c ∷ []

  pub constraints_below : Trees → List Con
  constraints_below no_tree = []
  constraints_below (tree t ts) = constraints_by t ++ constraints_below ts

  pub constraints_at : Branch → List Con
  constraints_at (split c first second) = c ∷ constraints_at first ++ constraints_at second
  constraints_at (void hint) = []
  constraints_at (leaf item children) = constraints_below children
  constraints_at (head children) = constraints_below children

  pub constraints_in : Branches → List Con
  constraints_in no_branch = []
  constraints_in (branch rule b bs) = constraints_at b ++ constraints_in bs

abbrev pub constraints_of : Certificate → List Con
constraints_of c = c.given ++ (constraints_below (listed c.trees) ++ flat_map (λ k. constraints_at k.1) c.checks)

-- the constraint that stands on one line
abbrev pub constraints_of_tree : Tree → List Con
constraints_of_tree (pos_tree a rule ts children) = []
constraints_of_tree (neg_tree a covers) = []
constraints_of_tree (loop_tree lit at) = []
constraints_of_tree (seen_tree lit at) = []
constraints_of_tree (test_tree c hint) = c ∷ []

abbrev pub constraints_of_case : Branch → List Con
constraints_of_case (split c first second) = c ∷ []
constraints_of_case (void hint) = []
constraints_of_case (leaf item children) = []
constraints_of_case (head children) = []

abbrev pub constraints_on : Line → List Con
constraints_on (node_line t) = constraints_of_tree t
constraints_on (rule_line rule b) = []
constraints_on (case_line b) = constraints_of_case b
constraints_on (check_line clause b) = []

-- the constraint's row, if it is one, is in normal form
abbrev pub is_con_normal : Con → Bool
is_con_normal (con.Row r) = is_normal r
is_con_normal (con.Eq t u) = true
is_con_normal (con.Neq t u) = true
is_con_normal (con.NotShape x f n) = true
is_con_normal (con.Num t) = true
is_con_normal (con.NotNum t) = true

abbrev pub are_normal : List Con → Bool
are_normal cs = list_all is_con_normal cs

-- every row that stands in the certificate is in normal form
abbrev pub has_normal_rows : Certificate → Bool
has_normal_rows c = are_normal (constraints_of c)
