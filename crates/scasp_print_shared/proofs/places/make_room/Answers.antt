use Rattle.std.proofs.Common.{◌∙◌, ap}
use Rattle.scasp_print_shared.specs.Inside.Places.{listed}
use Rattle.scasp_print_shared.proofs.PlaceLemmas.{listed-more}
use Rattle.scasp_print_shared.proofs.places.make_room.Goals as goal

pub loop-alloc-preserved : goal.loop-alloc-preserved
loop-alloc-preserved c =
    λ other.
    ap (λ ls. listed ls other) c.in_ok-push.ensures.items ∙ listed-more c.loop-alloc.lists.items c.new.result other c.new.ensures.items ∙ c.loop-alloc.invariant other
