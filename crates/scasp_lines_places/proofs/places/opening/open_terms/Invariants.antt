use Rattle.std.proofs.Common.{◌≡◌}
use Rattle.scasp_lines.specs.Openings.{open_terms}
use Rattle.scasp_lines_places.specs.Places.Against.{open_given}
use Rattle.scasp_lines_places.specs.Places.View.{opening_of}
use Rattle.scasp_lines_places.proofs.PlacesLemmas.AgainstLemmas.{given_work, open_later}
use Rattle.scasp_lines_places.proofs.places.opening.open_terms.Given as goal

abbrev pub invariant-lists : goal.invariant-lists
invariant-lists l = open_later open_given l.later.items (opening_of l.opening) ≡ open_terms l.heads l.parts (opening_of l.fn.opening)

abbrev pub decreases-lists : goal.decreases-lists
decreases-lists l = given_work l.later.items
