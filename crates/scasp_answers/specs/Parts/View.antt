-- The parts and the open lines of the code, as values.
use Rattle.std.specs.Prelude.{List, [], ◌∷◌, map, Option, None, Some}
use Rattle.scasp_cert.specs.Trees.{Branch, split}
use Rattle.scasp_syntax.specs.declared.con.Con.{Con}
use Rattle.scasp_cert.specs.declared.tree.Case.{Case}
use Rattle.scasp_cert.specs.View.{tree_of, cover_of, branch_of}
use Rattle.scasp_answers_lines.specs.Forms.View.{line_of}
use Rattle.scasp_answers.specs.Blocks.Open as spec
use Rattle.scasp_answers.specs.declared.parts.open_line.Part.{Part}
use Rattle.scasp_answers.specs.declared.parts.open_line.Part.TheVariants as part
use Rattle.scasp_answers.specs.declared.parts.open_line.Open.{Open}
use Rattle.scasp_answers.specs.declared.parts.room.Room.{Room}
use Rattle.scasp_answers.specs.declared.parts.room.Room.TheVariants as room

abbrev pub part_of : Part → spec.Part
part_of (part.Node node) = spec.node_part (tree_of node)
part_of (part.Cover cover) = spec.cover_part (cover_of cover).0 (cover_of cover).1
part_of (part.Case case) = spec.case_part (branch_of case)

abbrev pub parts_in : List Part → List spec.Part
parts_in ps = map part_of ps

abbrev pub room_of : Room → spec.Room
room_of room.Nodes = spec.nodes
room_of room.Covers = spec.covers
room_of (room.Cases k) = spec.cases k
room_of room.Nothing = spec.nothing

abbrev pub open_of : Open → spec.Open
open_of o = record { line = line_of o.line; parts = parts_in o.parts.items }

-- the part that there is, if there is one
abbrev pub listed_part : Option Part → List spec.Part
listed_part None = []
listed_part (Some p) = part_of p ∷ []

-- the case that there is, if there is one
abbrev pub listed_case : Option Case → List Branch
listed_case None = []
listed_case (Some c) = branch_of c ∷ []

-- the split that both cases make, if there are two
abbrev pub sides : Con → Option (Case × Case) → List spec.Part
sides c None = []
sides c (Some p) = spec.case_part (split c (branch_of p.0) (branch_of p.1)) ∷ []
