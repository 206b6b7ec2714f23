-- The tree that lines make.
use Rattle.std.specs.Prelude.{ℕ, suc, Bool, true, false, if◌then◌else◌, Option, None, Some, List, [], ◌∷◌, take, drop, slice_get}
use Rattle.scasp_cert.specs.Trees.{Tree, Trees, Branch, pos_tree, neg_tree, loop_tree, seen_tree, test_tree, split, void, leaf, head, listed, covering}
use Rattle.scasp_search_rules.specs.declared.states.lines.Line.{Line}
use Rattle.scasp_search_rules.specs.declared.states.lines.Line.TheVariants as line
use Rattle.scasp_syntax.specs.declared.hint.Hint.TheVariants as hint

-- What lines make, from the last to the first: nodes, cases, the rules under negated literals, and checks.
pub record Built : Type 0 where
  pub nodes : List Tree
  pub cases : List Branch
  pub covers : List (ℕ × Branch)
  pub checks : List (ℕ × Branch)

abbrev pub no_lines : Built
no_lines = record { nodes = []; cases = []; covers = []; checks = [] }

abbrev pub first_case : List Branch → Branch
first_case [] = void hint.Terms
first_case (b ∷ bs) = b

-- ---- the lines of literals

abbrev pub is_literal : Line → Bool
is_literal (line.Pos a k ts n) = true
is_literal (line.Neg a n) = true
is_literal (line.Loop l at) = false
is_literal (line.Seen l at) = false
is_literal (line.Test c) = false
is_literal (line.Rule a k first) = false
is_literal (line.Check k first) = false
is_literal (line.Split c parts) = false
is_literal line.Void = false
is_literal (line.Leaf k) = false
is_literal (line.Head n) = false

-- the numbers of the lines of literals that are gone into, where the first of these lines has number `at`
abbrev pub literal_lines : ℕ → List Line → List ℕ
literal_lines at [] = []
literal_lines at (l ∷ ls) = if is_literal l then at ∷ literal_lines (suc at) ls else literal_lines (suc at) ls

abbrev pub number_or : Option ℕ → ℕ
number_or None = 0
number_or (Some at) = at

-- the line of the literal of this number
abbrev pub line_of : List ℕ → ℕ → ℕ
line_of ats n = number_or (slice_get ats n)

-- ---- lines

abbrev pub with_node : Tree → ℕ → Built → Built
with_node t n b = record b { nodes = t ∷ drop n b.nodes }

abbrev pub with_case : Branch → ℕ → Built → Built
with_case c n b = record b { cases = c ∷ drop n b.cases }

abbrev pub without_nodes : ℕ → Built → Built
without_nodes n b = record b { nodes = drop n b.nodes }

abbrev pub children : ℕ → Built → Trees
children n b = listed (take n b.nodes)

-- what a line makes of what the lines behind it make
abbrev pub put : List ℕ → Line → Built → Built
put ats (line.Pos a k ts n) b = with_node (pos_tree a k ts (children n b)) n b
put ats (line.Neg a n) b = with_node (neg_tree a (covering (take n b.covers))) 0 (record b { covers = drop n b.covers })
put ats (line.Loop l n) b = with_node (loop_tree l (line_of ats n)) 0 b
put ats (line.Seen l n) b = with_node (seen_tree l (line_of ats n)) 0 b
put ats (line.Test c) b = with_node (test_tree c hint.Terms) 0 b
put ats (line.Rule a k first) b = record b { covers = (k, first_case b.cases) ∷ b.covers; cases = drop 1 b.cases }
put ats (line.Check k first) b = record b { checks = (k, first_case b.cases) ∷ b.checks; cases = drop 1 b.cases }
put ats (line.Split c parts) b = with_case (split c (first_case b.cases) (first_case (drop 1 b.cases))) 2 b
put ats line.Void b = with_case (void hint.Terms) 0 b
put ats (line.Leaf k) b = with_case (leaf k (children k b)) 0 (without_nodes k b)
put ats (line.Head n) b = with_case (head (children n b)) 0 (without_nodes n b)

abbrev pub built : List ℕ → List Line → Built
built ats [] = no_lines
built ats (l ∷ ls) = put ats l (built ats ls)
