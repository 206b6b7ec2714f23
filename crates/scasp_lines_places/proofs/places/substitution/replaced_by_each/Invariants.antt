use Rattle.std.proofs.Common.{◌≡◌, map, vec_len}
use Rattle.scasp_lines_places.specs.Places.View.{all_replaced}
use Rattle.scasp_lines_places.proofs.PlacesLemmas.ReplacedLemmas.{lent, replaced_by_all}
use Rattle.scasp_syntax.specs.View.{tm_of}
use Rattle.scasp_lines_places.proofs.places.substitution.replaced_by_each.Given as goal

abbrev pub invariant-loop-binding : goal.invariant-loop-binding
invariant-loop-binding l = replaced_by_all (map lent l.left.items) (tm_of l.value) ≡ all_replaced l.all l.x

abbrev pub decreases-loop-binding : goal.decreases-loop-binding
decreases-loop-binding l = vec_len l.left
