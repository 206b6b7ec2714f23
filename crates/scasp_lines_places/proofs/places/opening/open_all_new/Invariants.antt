use Rattle.std.proofs.Common.{◌≡◌, length}
use Rattle.scasp_lines.specs.Openings.{open_terms}
use Rattle.scasp_lines_places.specs.Places.Against.{open_new}
use Rattle.scasp_lines_places.specs.Places.View.{opening_of}
use Rattle.scasp_lines_places.proofs.PlacesLemmas.AgainstLemmas.{new_work, open_later}
use Rattle.scasp_syntax.specs.Tm.{items}
use Rattle.scasp_syntax.specs.View.{tms_of}
use Rattle.scasp_unify.specs.Negations.{new_parts}
use Rattle.scasp_lines_places.proofs.places.opening.open_all_new.Given as goal

abbrev pub invariant-lists : goal.invariant-lists
invariant-lists l =
    open_later open_new l.later.items (opening_of l.opening)
    ≡ open_terms (tms_of l.heads) (new_parts l.first (length (items (tms_of l.heads)))) (opening_of l.fn.opening)

abbrev pub decreases-lists : goal.decreases-lists
decreases-lists l = new_work l.later.items
