-- The walk over a certificate: the lines of each part of it, in order, each with its number and its place.
use Rattle.std.specs.Prelude.{ℕ, suc, true, false, List, [], ◌∷◌, ◌++◌, ◌+◌}
use Rattle.scasp_syntax.specs.Programs.{numbered}
use Rattle.scasp_syntax.specs.declared.atom.Atom.{Atom}
use Rattle.scasp_syntax.specs.declared.clause.Clause.{Clause}
use Rattle.scasp_cert.specs.Lines.{lines_of, lines_at}
use Rattle.scasp_cert.specs.Trees.{Tree, pos_tree, neg_tree, loop_tree, seen_tree, test_tree, Branch, split, void, leaf, Trees, Branches, no_tree, tree, head, no_branch, branch}
use Rattle.scasp_lines.specs.Bodies.{Body, split_body, inside_rule, inside_check}
use Rattle.scasp_lines.specs.Dues.{Due, first_due, other_dues, rule_dues, leaf_dues, head_dues}
use Rattle.scasp_lines.specs.Places.{Place, below_literal, within_case}
use Rattle.scasp_lines.specs.Sides.{sides}

-- What stands on a line with all that is below it: a node; a rule under a negated literal; a check; a case.
pub data Part : Type 0 where
  of_node : Due → Tree → Part
  of_rule : ℕ → Atom → Branch → Part
  of_check : ℕ → Branch → Part
  of_case : Body → Branch → Part

-- A line: its number, the number of the next universal variable, what holds there, and what stands there.
pub record Line : Type 0 where
  pub at : ℕ
  pub next : ℕ
  pub here : Place
  pub part : Part

-- What is the same for all lines: the clauses, the number of free variables, and a number that no universal variable reaches.
pub record Setting : Type 0 where
  pub clauses : List Clause
  pub free : ℕ
  pub top : ℕ

-- Lines, and the number of the next universal variable behind them.
pub record Walked : Type 0 where
  pub lines : List Line
  pub next : ℕ

abbrev pub stopped : ℕ → Walked
stopped next = record { lines = []; next = next }

-- a line, and those below it
abbrev pub started : Line → Walked → Walked
started l below = record { lines = l ∷ below.lines; next = below.next }

-- lines, and those behind them
abbrev pub followed : Walked → Walked → Walked
followed first rest = record { lines = first.lines ++ rest.lines; next = rest.next }

abbrev pub line : ℕ → ℕ → Place → Part → Line
line at next here part = record { at = at; next = next; here = here; part = part }

abbrev mutual
  pub node_walk : Setting → Place → ℕ → ℕ → Due → Tree → Walked
  node_walk s here at next due (pos_tree a k ts children) =
      started (line at next here (of_node due (pos_tree a k ts children)))
      (nodes_walk s (below_literal at true a here) (suc at) next (rule_dues (numbered s.clauses k) here ts) children)
  node_walk s here at next due (neg_tree a covers) =
      started (line at next here (of_node due (neg_tree a covers))) (covers_walk s (below_literal at false a here) (suc at) next a covers)
  node_walk s here at next due (loop_tree lit to) = started (line at next here (of_node due (loop_tree lit to))) (stopped next)
  node_walk s here at next due (seen_tree lit to) = started (line at next here (of_node due (seen_tree lit to))) (stopped next)
  node_walk s here at next due (test_tree c hint) = started (line at next here (of_node due (test_tree c hint))) (stopped next)

  pub nodes_walk : Setting → Place → ℕ → ℕ → List Due → Trees → Walked
  nodes_walk s here at next dues no_tree = stopped next
  nodes_walk s here at next dues (tree t ts) =
      let first = node_walk s here at next (first_due dues) t in
      followed first (nodes_walk s here (at + lines_of t) first.next (other_dues dues) ts)

  pub branch_walk : Setting → Place → ℕ → ℕ → Body → Branch → Walked
  branch_walk s here at next body (split c first second) =
      let both = sides s.free s.top c here next in
      let one = branch_walk s both.first (suc at) both.next (split_body body) first in
      started (line at next here (of_case body (split c first second)))
      (followed one (branch_walk s both.second (suc at + lines_at first) one.next (split_body body) second))
  branch_walk s here at next body (void hint) = started (line at next here (of_case body (void hint))) (stopped next)
  branch_walk s here at next body (leaf k children) =
      started (line at next here (of_case body (leaf k children)))
      (nodes_walk s (within_case at body.bare here) (suc at) next (leaf_dues here body k) children)
  branch_walk s here at next body (head children) =
      started (line at next here (of_case body (head children)))
      (nodes_walk s (within_case at body.bare here) (suc at) next (head_dues here body) children)

  pub covers_walk : Setting → Place → ℕ → ℕ → Atom → Branches → Walked
  covers_walk s here at next a no_branch = stopped next
  covers_walk s here at next a (branch k b bs) =
      let i = inside_rule (numbered s.clauses k) a next here in
      let first = started (line at next here (of_rule k a b)) (branch_walk s i.here (suc at) i.next i.body b) in
      followed first (covers_walk s here (at + (1 + lines_at b)) first.next a bs)

abbrev pub rule_walk : Setting → Place → ℕ → ℕ → ℕ → Atom → Branch → Walked
rule_walk s here at next k a b =
    let i = inside_rule (numbered s.clauses k) a next here in
    started (line at next here (of_rule k a b)) (branch_walk s i.here (suc at) i.next i.body b)

abbrev pub check_walk : Setting → Place → ℕ → ℕ → ℕ → Branch → Walked
check_walk s here at next k b =
    let i = inside_check (numbered s.clauses k) next here in
    started (line at next here (of_check k b)) (branch_walk s i.here (suc at) i.next i.body b)

abbrev pub checks_walk : Setting → Place → ℕ → ℕ → List (ℕ × Branch) → Walked
checks_walk s here at next [] = stopped next
checks_walk s here at next (c ∷ cs) =
    let first = check_walk s here at next c.0 c.1 in
    followed first (checks_walk s here (at + (1 + lines_at c.1)) first.next cs)

-- the lines from this one on to the last below it
abbrev pub part_walk : Setting → Place → ℕ → ℕ → Part → Walked
part_walk s here at next (of_node due t) = node_walk s here at next due t
part_walk s here at next (of_rule k a b) = rule_walk s here at next k a b
part_walk s here at next (of_check k b) = check_walk s here at next k b
part_walk s here at next (of_case body b) = branch_walk s here at next body b
