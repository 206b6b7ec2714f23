use Rattle.std.proofs.Common.{arith}
use Rattle.scasp_lines_places.proofs.DuesLemmas.RoomLemmas.{room-step, size-step}
use Rattle.scasp_lines_places.proofs.dues.rooms.room_of_all.Goals as goal

pub loop-parts-smaller : goal.loop-parts-smaller
loop-parts-smaller c =
    size-step c.loop-parts.left.items c.pop.new.self.items c.put_left.new.waiting.items c.in-Some.parts c.in-Some.ensures.items
    c.in_ok-put_left.ensures

pub loop-parts-preserved : goal.loop-parts-preserved
loop-parts-preserved c =
    let step = room-step c.args.program.now.clauses c.loop-parts.left.items c.pop.new.self.items c.put_left.new.waiting.items c.in-Some.parts c.room_here.result
    c.in-Some.ensures.items c.room_here.ensures c.in_ok-put_left.ensures in
    let sum = c.in_ok-room.ensures in
    let before = c.loop-parts.invariant in
    omega (arith, step, sum, before)
