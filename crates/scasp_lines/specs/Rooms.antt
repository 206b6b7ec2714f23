-- How many universal variables can begin below a part of a certificate.
use Rattle.std.specs.Prelude.{ℕ, List, [], ◌∷◌, ◌+◌, Option, None, Some, length}
use Rattle.scasp_syntax.specs.Programs.{numbered}
use Rattle.scasp_syntax.specs.Tm.{Tm, var, app, num, items}
use Rattle.scasp_syntax.specs.View.{tm_of}
use Rattle.scasp_syntax.specs.declared.clause.Clause.{Clause}
use Rattle.scasp_syntax.specs.declared.con.Con.{Con}
use Rattle.scasp_cert.specs.Trees.{Tree, pos_tree, neg_tree, loop_tree, seen_tree, test_tree, Branch, split, void, leaf, Trees, Branches, no_tree, tree, head, no_branch, branch}
use Rattle.scasp_lines.specs.Walk.{Part, of_node, of_rule, of_check, of_case}
use Rattle.scasp_syntax.specs.declared.con.Con.TheVariants as con

-- at most so many universal variables begin below
abbrev pub room_of_clause : Option Clause → ℕ
room_of_clause None = 0
room_of_clause (Some c) = c.vars

abbrev pub arguments : Tm → ℕ
arguments (var x) = 0
arguments (num q) = 0
arguments (app f ts) = length (items ts)

abbrev pub room_of_con : Con → ℕ
room_of_con (con.Eq t u) = arguments (tm_of u)
room_of_con (con.Neq t u) = arguments (tm_of u)
room_of_con (con.NotShape x f n) = 0
room_of_con (con.Num t) = 0
room_of_con (con.NotNum t) = 0
room_of_con (con.Row r) = 0

abbrev mutual
  pub room_of : List Clause → Tree → ℕ
  room_of cs (pos_tree a k ts children) = room_below cs children
  room_of cs (neg_tree a covers) = room_in cs covers
  room_of cs (loop_tree lit to) = 0
  room_of cs (seen_tree lit to) = 0
  room_of cs (test_tree c hint) = 0

  pub room_below : List Clause → Trees → ℕ
  room_below cs no_tree = 0
  room_below cs (tree t ts) = room_of cs t + room_below cs ts

  pub room_at : List Clause → Branch → ℕ
  room_at cs (split c first second) = room_of_con c + (room_at cs first + room_at cs second)
  room_at cs (void hint) = 0
  room_at cs (leaf k children) = room_below cs children
  room_at cs (head children) = room_below cs children

  pub room_in : List Clause → Branches → ℕ
  room_in cs no_branch = 0
  room_in cs (branch k b bs) = room_of_clause (numbered cs k) + (room_at cs b + room_in cs bs)

abbrev pub room_under : List Clause → List (ℕ × Branch) → ℕ
room_under cs [] = 0
room_under cs (c ∷ checks) = room_of_clause (numbered cs c.0) + (room_at cs c.1 + room_under cs checks)

-- at most so many universal variables begin below
abbrev pub room_of_part : List Clause → Part → ℕ
room_of_part cs (of_node due t) = room_of cs t
room_of_part cs (of_rule k a b) = room_of_clause (numbered cs k) + room_at cs b
room_of_part cs (of_check k b) = room_of_clause (numbered cs k) + room_at cs b
room_of_part cs (of_case body b) = room_at cs b
