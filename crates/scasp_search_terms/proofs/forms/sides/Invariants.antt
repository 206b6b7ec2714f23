use Rattle.std.proofs.Common.{◌≡◌, ◌≤◌, drop, length, map}
use Rattle.scasp_syntax.specs.View.{tm_of}
use Rattle.scasp_unify.specs.SimpleForm.{list_term}
use Rattle.scasp_unify.specs.Solving.{part_of}
use Rattle.scasp_search_terms.specs.Sides.{side_of}
use Rattle.scasp_search_terms.proofs.forms.sides.Given as goal

abbrev pub invariant-loop-place : goal.invariant-loop-place
invariant-loop-place l =
    (l.place ≤ length l.parts) × (tm_of l.made ≡ list_term (map (side_of l.is_left) (map part_of (drop l.place l.parts))))

abbrev pub decreases-loop-place : goal.decreases-loop-place
decreases-loop-place l = l.place
