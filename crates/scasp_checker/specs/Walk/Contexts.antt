-- The list that holds the context of the line that came last.
use Rattle.std.specs.Prelude.{◌≡◌, List, [], ◌++◌, length}
use Rattle.scasp_syntax.specs.declared.con.Con.{Con}
use Rattle.scasp_lines.specs.Contexts.{context}
use Rattle.scasp_lines_places.specs.Places.View.{all_opened}
use Rattle.scasp_lines_walk.specs.Traversal.Going.{Agree, IsReady}
use Rattle.scasp_lines_walk.specs.declared.traversal.cursor.Lines.{Lines}
use Rattle.scasp_lines_walk.specs.declared.traversal.parts.Line.{Line}

-- The list is what is given and then what opened on the way to the line before, the first of which opened on the way to this line, too.
pub record GoesOnFrom (given list : List Con) (l : Line) : Type 0 where
  pub before : List Con
  pub is : list ≡ given ++ before
  pub agree : Agree l.kept before (context [] (all_opened l.here.opened))
  pub size : l.size ≡ length (context [] (all_opened l.here.opened))

-- The list is what is given and then what opened on the way to the line from which the lines that are left go on.
pub record IsKept (given list : List Con) (left : Lines) : Type 0 where
  pub opened : List Con
  pub is : list ≡ given ++ opened
  pub ready : IsReady opened left
