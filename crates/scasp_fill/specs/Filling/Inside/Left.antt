-- The lines that are left, where there are more.
use Rattle.std.specs.Prelude.{Bool, true, false, List, []}
use Rattle.scasp_lines.specs.Walk.{Line}
use Rattle.scasp_lines_walk.specs.Traversal.View.{lines_left}
use Rattle.scasp_lines_walk.specs.declared.traversal.cursor.Lines.{Lines}

abbrev pub left_if : Bool → Lines → List Line
left_if true l = lines_left l
left_if false l = []
