-- The values that the product's lines, and what a walk has still to go over, are.
use Rattle.std.specs.Prelude.{List, [], ◌∷◌, ◌++◌, Option, None, Some, map}
use Rattle.scasp_cert.specs.Certificate.{check_of}
use Rattle.scasp_cert.specs.Trees.{covering, listed}
use Rattle.scasp_cert.specs.View.{branch_of, cover_of, tree_of}
use Rattle.scasp_cert.specs.Walk.{Line as LineValue, case_line, check_line, node_line, rule_line, walk_at, walk_below, walk_in, walk_under}
use Rattle.scasp_cert.specs.declared.walk.Line.{Line}
use Rattle.scasp_cert.specs.declared.walk.Line.TheVariants as line
use Rattle.scasp_cert.specs.declared.walk.Waiting.{Waiting}
use Rattle.scasp_cert.specs.declared.walk.Waiting.TheVariants as waiting
use Rattle.scasp_cert.specs.declared.walk.Walk.{Walk}

abbrev pub line_of : Line → LineValue
line_of (line.Node n) = node_line (tree_of n.now)
line_of (line.Rule c) = rule_line c.now.rule (branch_of c.now.case)
line_of (line.Case c) = case_line (branch_of c.now)
line_of (line.Check c) = check_line c.now.clause (branch_of c.now.case)

abbrev pub lines_of_waiting : Waiting → List LineValue
lines_of_waiting (waiting.Nodes rest) = walk_below (listed (map tree_of rest.now))
lines_of_waiting (waiting.Rules rest) = walk_in (covering (map cover_of rest.now))
lines_of_waiting (waiting.Case c) = walk_at (branch_of c.now)
lines_of_waiting (waiting.Checks rest) = walk_under (map check_of rest.now)

abbrev pub lines_behind : Option Waiting → List LineValue
lines_behind None = []
lines_behind (Some w) = lines_of_waiting w

-- the lines of all that waits, the last first
abbrev pub lines_in_stack : List Waiting → List LineValue
lines_in_stack [] = []
lines_in_stack (w ∷ ws) = lines_in_stack ws ++ lines_of_waiting w

-- the lines that have still to come
abbrev pub lines_left : Walk → List LineValue
lines_left w = lines_in_stack w.waiting.items
