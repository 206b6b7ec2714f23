-- The left or the right side of a part of an equation.
use Rattle.std.specs.Prelude.{Bool, true, false}
use Rattle.scasp_syntax.specs.Tm.{Tm}
use Rattle.scasp_unify.specs.Parts.{Part, left_side, right_side}

abbrev pub side_of : Bool → Part → Tm
side_of true p = left_side p
side_of false p = right_side p
