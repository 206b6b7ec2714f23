-- What is shown of trees: a row for each line of the block, in order.
use Rattle.std.specs.Prelude.{ℕ, Bool, true, false, ◌&&◌, ◌||◌, if◌then◌else◌, List, [], ◌∷◌, ◌++◌, codes}
use Rattle.scasp_cert.specs.Trees.{Tree, Trees, Branch, Branches, pos_tree, neg_tree, loop_tree, seen_tree, test_tree, no_tree, tree, split, void, leaf, head, no_branch, branch}
use Rattle.scasp_syntax.specs.declared.con.Con.{Con}
use Rattle.scasp_syntax.specs.declared.con.Con.TheVariants as con
use Rattle.scasp_view_top.specs.Trees.Labels.{pos_label, neg_label, rule_label, check_label, leaf_label, loop_label, seen_label, test_label, split_label, void_label, head_label}
use Rattle.scasp_view_top.specs.Trees.Settings.{Setting}

-- What stands on a row: before what is said, and what is said. A hidden one takes its number alone.
pub data Row : Type 0 where
  shown : List ℕ → List ℕ → Row
  hidden : Row

-- ---- two columns a level

-- `├ `
abbrev pub fork : List ℕ
fork = 226 ∷ 148 ∷ 156 ∷ 32 ∷ []

-- `└ `
abbrev pub corner : List ℕ
corner = 226 ∷ 148 ∷ 148 ∷ 32 ∷ []

-- `│ `
abbrev pub bar : List ℕ
bar = 226 ∷ 148 ∷ 130 ∷ 32 ∷ []

-- before a line, by whether it is the last one right below the line above it
abbrev pub own_mark : Bool → Bool → List ℕ
own_mark plain is_last = if plain then codes "  " else if is_last then corner else fork

-- before the lines below it
abbrev pub below_mark : Bool → Bool → List ℕ
below_mark plain is_last = if plain || is_last then codes "  " else bar

-- a line behind what stands before it
abbrev pub row : Setting → List ℕ → Bool → List ℕ → Row
row s stem is_last label = shown (stem ++ own_mark s.plain is_last) label

abbrev pub stem_below : Setting → List ℕ → Bool → List ℕ
stem_below s stem is_last = stem ++ below_mark s.plain is_last

-- ---- what is left out

-- that a term is a number goes without saying
abbrev pub is_number_test : Con → Bool
is_number_test (con.Eq t u) = false
is_number_test (con.Neq t u) = false
is_number_test (con.NotShape x f n) = false
is_number_test (con.Num t) = true
is_number_test (con.NotNum t) = false
is_number_test (con.Row r) = false

abbrev pub is_hidden : Tree → Bool
is_hidden (pos_tree a k ts children) = false
is_hidden (neg_tree a covers) = false
is_hidden (loop_tree lit at) = false
is_hidden (seen_tree lit at) = false
is_hidden (test_tree c hint) = is_number_test c

abbrev pub are_hidden : Trees → Bool
are_hidden no_tree = true
are_hidden (tree t ts) = is_hidden t && are_hidden ts

abbrev pub is_no_branch : Branches → Bool
is_no_branch no_branch = true
is_no_branch (branch k b bs) = false

abbrev pub test_row : Setting → List ℕ → Bool → Con → Row
test_row s stem is_last c = if is_number_test c then hidden else row s stem is_last (test_label s c)

-- ---- trees

abbrev mutual
  pub tree_rows : Setting → List ℕ → Bool → Tree → List Row
  tree_rows s stem is_last (pos_tree a k ts children) = row s stem is_last (pos_label s a k) ∷ trees_rows s (stem_below s stem is_last) children
  tree_rows s stem is_last (neg_tree a covers) = row s stem is_last (neg_label s a) ∷ covers_rows s (stem_below s stem is_last) covers
  tree_rows s stem is_last (loop_tree lit at) = row s stem is_last (loop_label s lit at) ∷ []
  tree_rows s stem is_last (seen_tree lit at) = row s stem is_last (seen_label s lit at) ∷ []
  tree_rows s stem is_last (test_tree c hint) = test_row s stem is_last c ∷ []

  pub trees_rows : Setting → List ℕ → Trees → List Row
  trees_rows s stem no_tree = []
  trees_rows s stem (tree t ts) = tree_rows s stem (are_hidden ts) t ++ trees_rows s stem ts

  -- a case of clause k
  pub case_rows : Setting → ℕ → List ℕ → Bool → Branch → List Row
  case_rows s k stem is_last (split c first second) =
      row s stem is_last (split_label s c)
      ∷ (case_rows s k (stem_below s stem is_last) false first ++ case_rows s k (stem_below s stem is_last) true second)
  case_rows s k stem is_last (void hint) = row s stem is_last void_label ∷ []
  case_rows s k stem is_last (leaf i children) = row s stem is_last (leaf_label s k i) ∷ trees_rows s (stem_below s stem is_last) children
  case_rows s k stem is_last (head children) = row s stem is_last head_label ∷ trees_rows s (stem_below s stem is_last) children

  pub covers_rows : Setting → List ℕ → Branches → List Row
  covers_rows s stem no_branch = []
  covers_rows s stem (branch k b bs) =
      row s stem (is_no_branch bs) (rule_label s k)
      ∷ (case_rows s k (stem_below s stem (is_no_branch bs)) true b ++ covers_rows s stem bs)

-- checks stand at the left edge, each above its case
abbrev pub checks_rows : Setting → List (ℕ × Branch) → List Row
checks_rows s [] = []
checks_rows s (c ∷ cs) = shown [] (check_label s c.0) ∷ (case_rows s c.0 [] true c.1 ++ checks_rows s cs)
