-- Parts of a certificate whose universal variables have still to be counted.
use Rattle.std.specs.Prelude.{ℕ, ◌+◌, List, [], ◌∷◌}
use Rattle.scasp_syntax.specs.Programs.{numbered}
use Rattle.scasp_syntax.specs.declared.clause.Clause.{Clause}
use Rattle.scasp_cert.specs.Trees.{Tree, pos_tree, neg_tree, loop_tree, seen_tree, test_tree, Branch, split, void, leaf, head, Trees, no_tree, tree, Branches, no_branch, branch}
use Rattle.scasp_lines.specs.Rooms.{room_at, room_below, room_in, room_of_clause, room_of_con, room_under}

-- Parts side by side: nodes; rules under a negated literal; a case; checks.
pub data Pending : Type 0 where
  nodes : Trees → Pending
  rules : Branches → Pending
  one_case : Branch → Pending
  checks : List (ℕ × Branch) → Pending

-- at most so many universal variables begin at the parts and below them
abbrev pub pending_room : List Clause → Pending → ℕ
pending_room cs (nodes ts) = room_below cs ts
pending_room cs (rules bs) = room_in cs bs
pending_room cs (one_case b) = room_at cs b
pending_room cs (checks ks) = room_under cs ks

abbrev pub all_room : List Clause → List Pending → ℕ
all_room cs [] = 0
all_room cs (p ∷ ps) = pending_room cs p + all_room cs ps

-- at most so many begin at the first of the parts itself
abbrev pub room_here : List Clause → Pending → ℕ
room_here cs (nodes ts) = 0
room_here cs (rules no_branch) = 0
room_here cs (rules (branch k b bs)) = room_of_clause (numbered cs k)
room_here cs (one_case (split c first second)) = room_of_con c
room_here cs (one_case (void hint)) = 0
room_here cs (one_case (leaf k children)) = 0
room_here cs (one_case (head children)) = 0
room_here cs (checks []) = 0
room_here cs (checks (c ∷ ks)) = room_of_clause (numbered cs c.0)

abbrev pub below_node : Tree → List Pending
below_node (pos_tree a k ts children) = nodes children ∷ []
below_node (neg_tree a bs) = rules bs ∷ []
below_node (loop_tree lit to) = []
below_node (seen_tree lit to) = []
below_node (test_tree c hint) = []

-- the parts behind the first, and those below it
abbrev pub left : Pending → List Pending
left (nodes no_tree) = []
left (nodes (tree t ts)) = nodes ts ∷ below_node t
left (rules no_branch) = []
left (rules (branch k b bs)) = rules bs ∷ one_case b ∷ []
left (one_case (split c first second)) = one_case second ∷ one_case first ∷ []
left (one_case (void hint)) = []
left (one_case (leaf k children)) = nodes children ∷ []
left (one_case (head children)) = nodes children ∷ []
left (checks []) = []
left (checks (c ∷ ks)) = checks ks ∷ one_case c.1 ∷ []
