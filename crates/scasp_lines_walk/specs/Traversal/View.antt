-- The values that the product's lines, and the parts that wait, are.
use Rattle.std.specs.Prelude.{ℕ, List, [], ◌∷◌, Option, None, Some, map, reverse}
use Rattle.scasp_cert.specs.Certificate.{check_of}
use Rattle.scasp_cert.specs.Trees.{covering, listed}
use Rattle.scasp_cert.specs.View.{branch_of, cover_of, tree_of}
use Rattle.scasp_lines_places.specs.Dues.DueView.{due_value}
use Rattle.scasp_lines.specs.Walk.{Line as LineValue, Part as PartValue, Setting, line, of_case, of_check, of_node, of_rule}
use Rattle.scasp_lines_places.specs.Places.View.{body_of, place_of}
use Rattle.scasp_lines_places.specs.declared.places.sides.Bounds.{Bounds}
use Rattle.scasp_syntax.specs.declared.program.Program.{Program}
use Rattle.scasp_lines_walk.specs.Traversal.Pending.{Begun as BegunValue, Pending, all_walk, nodes, rules, one_case, checks}
use Rattle.scasp_lines_walk.specs.declared.traversal.cursor.Lines.{Lines}
use Rattle.scasp_lines_walk.specs.declared.traversal.parts.Line.{Line}
use Rattle.scasp_lines_walk.specs.declared.traversal.parts.Part.{Part}
use Rattle.scasp_lines_walk.specs.declared.traversal.parts.Part.TheVariants as part
use Rattle.scasp_lines_walk.specs.declared.traversal.waiting.Begun.{Begun}
use Rattle.scasp_lines_walk.specs.declared.traversal.waiting.Stacked.{Stacked}
use Rattle.scasp_lines_walk.specs.declared.traversal.waiting.Waiting.{Waiting}
use Rattle.scasp_lines_walk.specs.declared.traversal.waiting.Waiting.TheVariants as waiting

abbrev pub part_of : Part → PartValue
part_of (part.Node due node) = of_node (due_value due) (tree_of node.now)
part_of (part.Rule k a b) = of_rule k a.now (branch_of b.now)
part_of (part.Check k b) = of_check k (branch_of b.now)
part_of (part.Case body bare b) = of_case (body_of body.value bare) (branch_of b.now)

-- the line that the product's `Line` is
abbrev pub line_of : Line → LineValue
line_of l = line l.at l.next (place_of l.here) (part_of l.part)

abbrev pub pending_of : Waiting → Pending
pending_of (waiting.Nodes rest dues here) = nodes (place_of here) (reverse (map due_value dues.items)) (listed (map tree_of rest.now))
pending_of (waiting.Rules rest a here) = rules (place_of here) a.now (covering (map cover_of rest.now))
pending_of (waiting.Case b body bare here) = one_case (place_of here) (body_of body.value bare) (branch_of b.now)
pending_of (waiting.Checks rest here) = checks (place_of here) (map check_of rest.now)

-- parts below a line at which so many constraints opened
abbrev pub stacked_of : Stacked → ℕ × Pending
stacked_of w = (w.kept, pending_of w.parts)

abbrev pub rest_of : Option Waiting → List Pending
rest_of None = []
rest_of (Some w) = pending_of w ∷ []

abbrev pub begun_of : Begun → BegunValue
begun_of b = record { here = place_of b.here; part = part_of b.part; rest = rest_of b.rest }

-- what waits, the last put in front
abbrev pub stack_of : List Stacked → List (ℕ × Pending)
stack_of ws = reverse (map stacked_of ws)

-- all of them below a line at which so many constraints opened
abbrev pub kept_with : ℕ → List Pending → List (ℕ × Pending)
kept_with k [] = []
kept_with k (p ∷ ps) = (k, p) ∷ kept_with k ps

abbrev pub parts_of : List (ℕ × Pending) → List Pending
parts_of [] = []
parts_of (w ∷ ws) = w.1 ∷ parts_of ws

abbrev pub setting_of : Program → Bounds → Setting
setting_of p bounds = record { clauses = p.clauses; free = bounds.free; top = bounds.top }

-- the lines that the walk has still to give
unfoldable pub lines_left : Lines → List LineValue
lines_left l = (all_walk (setting_of l.program.now l.bounds) l.at l.next (parts_of (stack_of l.waiting.items))).lines
