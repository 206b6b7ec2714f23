use Rattle.std.proofs.Common.{ap, true, ◌∙◌}
use Rattle.scasp_bound.specs.Inside.Gaps.{item}
use Rattle.scasp_bound.specs.Inside.Places.{noted}
use Rattle.scasp_bound.proofs.BoundLemmas.{note_more}
use Rattle.scasp_bound.proofs.places.note.Goals as goal

pub returns-clause-now : goal.returns-clause-now
returns-clause-now c y =
    note_more c.args.places.now.now c.make_room.new.places.now c.set.new.self.now c.args.x c.args.at _ c.in_ok-make_room.ensures.now c.in_ok-make_room.ensures.room
    (c.one_more-place.ensures ∙ ap (noted true c.args.at) c.place_of.ensures ∙ ap (λ ps. noted true c.args.at (item ps c.args.x)) c.as_slice.ensures) c.in_ok-set.ensures.now y
