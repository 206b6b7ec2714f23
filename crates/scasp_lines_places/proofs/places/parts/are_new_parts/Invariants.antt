use Rattle.std.proofs.Common.{◌≡◌, ◌+◌, drop, length}
use Rattle.scasp_syntax.specs.Same.{same_tms}
use Rattle.scasp_syntax.specs.Tm.{items}
use Rattle.scasp_syntax.specs.View.{tms_of}
use Rattle.scasp_unify.specs.Negations.{new_parts}
use Rattle.scasp_lines_places.proofs.places.parts.are_new_parts.Given as goal

abbrev pub invariant-loop-place : goal.invariant-loop-place
invariant-loop-place l =
    same_tms l.terms (new_parts l.first (length (items l.terms)))
    ≡ same_tms (tms_of (drop l.place l.term-items)) (new_parts (l.first + l.place) (length (drop l.place l.term-items)))
