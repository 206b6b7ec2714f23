use Rattle.scasp_syntax.specs.View.{tm_of}
use Rattle.scasp_lines_places.proofs.PlacesLemmas.ReplacedLemmas.{one_less}
use Rattle.scasp_lines_places.proofs.places.substitution.replaced_by_each.Goals as goal

pub loop-binding-preserved : goal.loop-binding-preserved
loop-binding-preserved c =
    one_less c.loop-binding.left.items c.pop.new.self.items c.in-Some.binding (tm_of c.loop-binding.value) (tm_of c.in_ok-value.value) _
    c.in-Some.ensures.items c.in_ok-value.ensures c.loop-binding.invariant
