-- What a walk over a certificate has still to go over, what it begins with, and what stands right below a line.
use Rattle.std.specs.Prelude.{ℕ, true, false, List, [], ◌∷◌, ◌+◌, Option, None, Some}
use Rattle.scasp_syntax.specs.Programs.{numbered}
use Rattle.scasp_syntax.specs.declared.atom.Atom.{Atom}
use Rattle.scasp_cert.specs.Lines.{lines_at, lines_below, lines_in, lines_under}
use Rattle.scasp_cert.specs.Trees.{Tree, pos_tree, neg_tree, loop_tree, seen_tree, test_tree, Branch, split, void, leaf, head, Trees, Branches, no_tree, tree, no_branch, branch}
use Rattle.scasp_lines.specs.Bodies.{Body, Inside, split_body, inside_rule, inside_check}
use Rattle.scasp_lines.specs.Dues.{Due, first_due, other_dues, rule_dues, leaf_dues, head_dues}
use Rattle.scasp_lines.specs.Places.{Place, below_literal, within_case}
use Rattle.scasp_lines.specs.Sides.{Sides, sides}
use Rattle.scasp_lines.specs.Walk.{Part, of_node, of_rule, of_check, of_case, Setting, Walked, stopped, followed, nodes_walk, covers_walk, branch_walk, checks_walk}

-- Parts of a certificate side by side at one place: nodes with what they are due for; rules under a negated literal; a case; checks.
pub data Pending : Type 0 where
  nodes : Place → List Due → Trees → Pending
  rules : Place → Atom → Branches → Pending
  one_case : Place → Body → Branch → Pending
  checks : Place → List (ℕ × Branch) → Pending

-- the lines of such parts, from this number on
abbrev pub pending_walk : Setting → ℕ → ℕ → Pending → Walked
pending_walk s at next (nodes here dues ts) = nodes_walk s here at next dues ts
pending_walk s at next (rules here a bs) = covers_walk s here at next a bs
pending_walk s at next (one_case here body b) = branch_walk s here at next body b
pending_walk s at next (checks here cs) = checks_walk s here at next cs

-- how many lines they take
abbrev pub pending_lines : Pending → ℕ
pending_lines (nodes here dues ts) = lines_below ts
pending_lines (rules here a bs) = lines_in bs
pending_lines (one_case here body b) = lines_at b
pending_lines (checks here cs) = lines_under cs

-- the lines of all that waits, the first in front
abbrev pub all_walk : Setting → ℕ → ℕ → List Pending → Walked
all_walk s at next [] = stopped next
all_walk s at next (p ∷ ps) =
    let first = pending_walk s at next p in
    followed first (all_walk s (at + pending_lines p) first.next ps)

-- The first of such parts, and those that wait behind it.
pub record Begun : Type 0 where
  pub here : Place
  pub part : Part
  pub rest : List Pending

abbrev pub begun : Pending → Option Begun
begun (nodes here dues no_tree) = None
begun (nodes here dues (tree t ts)) = Some (record { here = here; part = of_node (first_due dues) t; rest = nodes here (other_dues dues) ts ∷ [] })
begun (rules here a no_branch) = None
begun (rules here a (branch k b bs)) = Some (record { here = here; part = of_rule k a b; rest = rules here a bs ∷ [] })
begun (one_case here body b) = Some (record { here = here; part = of_case body b; rest = [] })
begun (checks here []) = None
begun (checks here (c ∷ cs)) = Some (record { here = here; part = of_check c.0 c.1; rest = checks here cs ∷ [] })

-- What waits right below a line, and the number of the next universal variable there.
pub record Below : Type 0 where
  pub waiting : List Pending
  pub next : ℕ

abbrev pub nothing_below : ℕ → Below
nothing_below next = record { waiting = []; next = next }

abbrev pub below_node : Setting → ℕ → ℕ → Place → Tree → Below
below_node s at next here (pos_tree a k ts children) =
    record { waiting = nodes (below_literal at true a here) (rule_dues (numbered s.clauses k) here ts) children ∷ []; next = next }
below_node s at next here (neg_tree a bs) = record { waiting = rules (below_literal at false a here) a bs ∷ []; next = next }
below_node s at next here (loop_tree lit to) = nothing_below next
below_node s at next here (seen_tree lit to) = nothing_below next
below_node s at next here (test_tree c hint) = nothing_below next

-- the cases of what is inside a rule or a check
abbrev pub below_inside : Inside → Branch → Below
below_inside i b = record { waiting = one_case i.here i.body b ∷ []; next = i.next }

-- both sides of a split
abbrev pub below_split : Sides → Body → Branch → Branch → Below
below_split both body first second =
    record { waiting = one_case both.first (split_body body) first ∷ one_case both.second (split_body body) second ∷ []; next = both.next }

abbrev pub below_case : Setting → ℕ → ℕ → Place → Body → Branch → Below
below_case s at next here body (split c first second) = below_split (sides s.free s.top c here next) body first second
below_case s at next here body (void hint) = nothing_below next
below_case s at next here body (leaf k children) =
    record { waiting = nodes (within_case at body.bare here) (leaf_dues here body k) children ∷ []; next = next }
below_case s at next here body (head children) =
    record { waiting = nodes (within_case at body.bare here) (head_dues here body) children ∷ []; next = next }

abbrev pub below : Setting → ℕ → ℕ → Place → Part → Below
below s at next here (of_node due t) = below_node s at next here t
below s at next here (of_rule k a b) = below_inside (inside_rule (numbered s.clauses k) a next here) b
below s at next here (of_check k b) = below_inside (inside_check (numbered s.clauses k) next here) b
below s at next here (of_case body b) = below_case s at next here body b
